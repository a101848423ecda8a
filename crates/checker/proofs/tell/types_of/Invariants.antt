use Rattle.checker.proofs.Telling.{Telling}
use Rattle.shapes.specs.Pool.{Fine, Shows}
use Rattle.model.specs.Check.{Shape}
use lib.ListN.{length}
use mathlib.Core.Path.{◌≡◌}
use Prim.Native.Nat.{◌<◌}
use Rattle.checker.proofs.tell.types_of.Given as goal

abbrev pub invariant-loop-n : goal.invariant-loop-n
invariant-loop-n l =
    (l.x < 2048) × (length l.types ≡ 32)
    × ((S : Shape) → Fine l.pool → Shows l.pool S l.s → Telling l.pool S l.n l.x l.types)
