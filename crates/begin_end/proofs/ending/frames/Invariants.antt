use Prim.Native.Nat.{◌*◌}
use Rattle.begin_end.proofs.Tidied.{cells_to}
use Rattle.begin_end.proofs.ending.frames.Given as goal

abbrev pub invariant-loop-f : goal.invariant-loop-f
invariant-loop-f l = cells_to l.methods l.kinds l.live l.initial.cells (l.f * 64) l.cells
