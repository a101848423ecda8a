use Prim.Native.Nat.{◌*◌}
use Rattle.std.proofs.Common.{rules}
use Rattle.begin_end.proofs.Changing.{wiped}
use Rattle.begin_end.proofs.Tidied.{kinds_more, kinds_all}
use native.Mathlib.Omega.{arith}
use Rattle.begin_end.proofs.ending.all_kinds.Goals as goal

pub loop-f-preserved : goal.loop-f-preserved
loop-f-preserved c = kinds_more c.args.cells.now _ _ c.loop-f.invariant c.loop-f-test.true c.frame_kinds.ensures

pub returns : goal.returns
returns c =
    kinds_all c.args.cells.now _ _ c.loop-f.invariant (omega arith) c.loop-f-test.false (omega arith) (omega arith)
    (wiped (c.args.live * 64) 2048 _ _ (omega arith) (omega arith) (c.fill.ensures.after (search rules)))
