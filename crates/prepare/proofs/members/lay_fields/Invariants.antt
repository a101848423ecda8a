use Prim.Native.Nat.{ℕ, ◌+◌, ◌-◌, ◌%◌, ◌≤◌}
use mathlib.Core.Path.{◌≡◌}
use mathlib.Core.List.{List}
use lib.ListN.{length}
use Rattle.model.specs.Tables.{Field}
use Rattle.prepare.specs.Told.{FieldsTold, LaidTo}
use Rattle.prepare.proofs.members.lay_fields.Given as goal

abbrev pub invariant-loop-row : goal.invariant-loop-row
invariant-loop-row l = (l.row ≤ l.count % 129 + 1) × ((ps : List ℕ) (fs : List Field) → FieldsTold ps fs l.fields → l.count ≡ length fs → LaidTo ps fs (l.row - 1) l.cells l.statics)
