use Prim.Native.Nat.{◌+◌, ◌*◌}
use mathlib.Core.Path.{refl}
use Rattle.std.proofs.Common.{rules}
use native.Mathlib.Omega.{arith}
use Rattle.begin_end.proofs.Changing.{wiped}
use Rattle.begin_end.proofs.Tidied.{frame_left, variables_left, stack_left}
use Rattle.begin_end.proofs.ending.frame.Goals as goal

pub returns : goal.returns
returns c =
    frame_left c.args.methods.now c.args.kinds.now c.args.f _ _ c.requires.1 refl refl
    (variables_left c.args.methods.now c.args.f _ _ _ (omega arith) c.rewrite.ensures.long c.rewrite.ensures.each)
    (stack_left c.args.kinds.now (c.args.f * 64 + 24) _ _ _ (omega arith) c.rewrite-2.ensures.long c.rewrite-2.ensures.each)
    (wiped _ (c.args.f * 64 + 56) _ _ (omega arith) (omega arith) (c.fill.ensures.after (search rules)))
    (wiped (c.args.f * 64 + 58 + 1) (c.args.f * 64 + 64) _ _ (omega arith) (omega arith) (c.fill-2.ensures.after (search rules)))
