use Rattle.checker.proofs.Whole.{Checking}
use Rattle.checker.specs.Answers.{lent}
use Rattle.checker.specs.Bounded.{Bounded}
use Rattle.visits.specs.Notes.{Ready}
use Rattle.loaded.specs.Holds.{Holds}
use Rattle.model.specs.Tables.{Module}
use mathlib.Core.List.{List}
use Prim.Native.Nat.{ℕ}
use Rattle.checker.proofs.check.Given as goal

abbrev pub invariant-loop-row : goal.invariant-loop-row
invariant-loop-row l =
    (M : Module) (i : List ℕ) → Bounded M → Holds M l.code (lent l.loaded i) → Checking M l.row × Ready l.notes.found l.notes.pool
