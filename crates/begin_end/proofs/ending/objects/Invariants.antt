use Prim.Native.Nat.{◌*◌}
use Rattle.begin_end.proofs.Tidied.{fields_to}
use Rattle.begin_end.proofs.ending.objects.Given as goal

abbrev pub invariant-loop-place : goal.invariant-loop-place
invariant-loop-place l = fields_to l.types l.classes l.initial.heap (l.place * 8) l.heap
