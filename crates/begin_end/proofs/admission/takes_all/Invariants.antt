use mathlib.Core.Path.{◌≡◌}
use lib.ListN.{drop}
use Rattle.begin_end.specs.Admission.{takes_all}
use Rattle.begin_end.proofs.admission.takes_all.Given as goal

abbrev pub invariant-loop-i : goal.invariant-loop-i
invariant-loop-i l = takes_all l.types (drop l.i l.given) l.i ≡ takes_all l.types l.given 0
