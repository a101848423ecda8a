use Rattle.std.proofs.Common.{◌≡◌, List, ℕ, ◌-◌, length, drop}
use Rattle.model.specs.Answer.{first_row}
use Rattle.model.specs.Tables.{Method}
use Rattle.model.specs.Loading.{differs}
use Rattle.loader.specs.Stands.{MethodCells, Sound}
use Rattle.loader.proofs.after_last.first_differing.Given as goal

abbrev pub invariant-loop-row : goal.invariant-loop-row
invariant-loop-row l = (code : List ℕ) (ms : List Method) → l.n ≡ length ms → Sound code ms → MethodCells ms l.methods → first_row (differs ms) 1 ms ≡ first_row (differs ms) l.row (drop (l.row - 1) ms)
