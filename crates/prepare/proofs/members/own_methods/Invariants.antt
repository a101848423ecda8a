use Prim.Native.Nat.{◌≤◌}
use mathlib.Core.Path.{◌≡◌}
use mathlib.Core.List.{List}
use lib.ListN.{length}
use Rattle.model.specs.Tables.{Method}
use Rattle.prepare.specs.Told.{MethodsTold, OwnFrom}
use Rattle.prepare.proofs.members.own_methods.Given as goal

abbrev pub invariant-loop-r : goal.invariant-loop-r
invariant-loop-r l = (length l.chosen ≡ 4257) × ((ms : List Method) → MethodsTold ms l.methods → l.count ≡ length ms → (l.r ≤ length ms) × OwnFrom ms l.r l.chosen)
