use Prim.Native.Nat.{◌+◌, ◌*◌}
use mathlib.Core.Path.{refl}
use Rattle.std.proofs.Common.{rules}
use native.Mathlib.Omega.{arith}
use Rattle.begin_end.proofs.Changing.{wiped}
use Rattle.begin_end.proofs.Tidied.{kinds_left}
use Rattle.begin_end.proofs.ending.frame_kinds.Goals as goal

pub returns : goal.returns
returns c =
    kinds_left c.args.cells.now c.args.f _ c.requires.1 refl
    (wiped (c.args.f * 64) (c.args.f * 64 + 24) _ _ (omega arith) (omega arith) (c.fill.ensures.after (search rules)))
    (wiped _ (c.args.f * 64 + 64) _ _ (omega arith) (omega arith) (c.fill-2.ensures.after (search rules)))
