use Rattle.std.proofs.Common.{◌≡◌, ℕ, get_or}
use Rattle.model.specs.Replay.{cell_texts}
use Rattle.state.specs.View.{span}
use Rattle.line.specs.Append.{appended}
use Rattle.state_text.specs.Texts.{value_in}
use Rattle.state_text.proofs.cell.cells.Given as goal

-- what is appended so far is the text of the first i
abbrev pub invariant-loop-i : goal.invariant-loop-i
invariant-loop-i l = l.text ≡ appended l.initial.text (cell_texts (span (λ (k : ℕ). value_in (get_or l.kinds k 0) (get_or l.bits k 0)) 0 l.i))
