use Rattle.std.proofs.Common.{◌≡◌}
use Rattle.model.specs.Answer.{is_nil}
use Rattle.model.specs.Replay.{commas}
use Rattle.line.specs.Append.{appended}
use Rattle.state_text.specs.Texts.{up_to, mark_row}
use Rattle.state_text.proofs.members.marks.Given as goal

-- what is appended so far is the text of the rows below, and `first` says whether it is none
abbrev pub invariant-loop-row : goal.invariant-loop-row
invariant-loop-row l = record {
  text : l.text ≡ appended l.initial.text (commas (up_to (mark_row l.started) l.row));
  first : l.first ≡ is_nil (up_to (mark_row l.started) l.row);
}
