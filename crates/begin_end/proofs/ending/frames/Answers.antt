use Prim.Native.Nat.{◌*◌}
use Rattle.std.proofs.Common.{rules}
use native.Mathlib.Omega.{arith}
use Rattle.begin_end.proofs.Changing.{wiped}
use Rattle.begin_end.proofs.Tidied.{cells_more, cells_all, still_deep, still_rowed}
use Rattle.begin_end.proofs.ending.frames.Goals as goal

pub frame-requires : goal.frame-requires
frame-requires c = (omega arith, still_deep c.args.methods.now c.args.kinds.now _ _ c.loop-f.invariant c.loop-f-test.true c.requires.waiting, still_rowed c.args.methods.now c.args.kinds.now _ _ c.loop-f.invariant c.loop-f-test.true c.requires.waiting)

pub loop-f-preserved : goal.loop-f-preserved
loop-f-preserved c = cells_more c.args.methods.now c.args.kinds.now _ _ c.loop-f.invariant c.loop-f-test.true c.frame.ensures

pub returns : goal.returns
returns c =
    cells_all c.args.methods.now c.args.kinds.now _ _ c.loop-f.invariant (omega arith) c.loop-f-test.false (omega arith) (omega arith)
    (wiped (c.args.live * 64) 2048 _ _ (omega arith) (omega arith) (c.fill.ensures.after (search rules)))
