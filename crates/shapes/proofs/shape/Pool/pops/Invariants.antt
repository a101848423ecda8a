use Rattle.std.proofs.Common.{◌≡◌, ◌<◌, ◌≤◌, ℕ, List, length}
use Rattle.ancestor.specs.Parents.{Parents}
use Rattle.model.specs.Check.{Shape}
use Rattle.model.specs.Tables.{Ty}
use Rattle.shapes.proofs.Walks.{Popping}
use Rattle.shapes.specs.Effects.{Types}
use Rattle.shapes.specs.Pool.{Fine, Shows}
use Rattle.shapes.proofs.shape.Pool.pops.Given as goal

abbrev pub invariant-loop-i : goal.invariant-loop-i
invariant-loop-i l = record {
  rest_below : l.rest < 2048;
  popping : (ps : List ℕ) (ts : List Ty) (S : Shape) → Parents ps l.parents → Types l.types 0 ts → length ts ≡ length l.types → length ts ≤ length S →
      Fine l.self → Shows l.self S l.s → Popping l.self ps ts S (length ts) l.i l.rest;
}
