use Prim.Native.Nat.{◌*◌}
use Rattle.begin_end.proofs.Tidied.{kinds_to}
use Rattle.begin_end.proofs.ending.all_kinds.Given as goal

abbrev pub invariant-loop-f : goal.invariant-loop-f
invariant-loop-f l = kinds_to l.cells l.live l.initial.kinds (l.f * 64) l.kinds
