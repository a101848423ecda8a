-- `marks` meets its contract.
use Rattle.std.proofs.Common.{◌∙◌, ◌≡◌, ℕ, ap, arith, refl}
use Rattle.model.specs.Answer.{is_nil}
use Rattle.model.specs.Replay.{commas}
use Rattle.line.specs.Append.{appended}
use Rattle.line.proofs.Appending.{added_none, added_then}
use Rattle.state_text.specs.Texts.{up_to, mark_row}
use Rattle.state_text.proofs.Joining.{row_said, row_unsaid}
use Rattle.state_text.proofs.Reading.{mark_there, mark_gone}
use Rattle.state_text.proofs.members.marks.Goals as goal
use Rattle.state_text.proofs.members.marks.Goals.{then-mark-eq1, else-mark-eq1}

pub loop-row-init : goal.loop-row-init
unfolding up_to commas is_nil
loop-row-init c = record { text = added_none _; first = refl }

pub loop-row-preserved : goal.loop-row-preserved
loop-row-preserved c =
    let row = c.loop-row.row in
    let before = c.loop-row.invariant in
    let F = mark_row c.args.started.now in
    elim c.if-mark-eq1.branch [
      | then-mark-eq1 w ↦
          let there = mark_there c.args.started.now row c.told-started w.if-mark-eq1.true in
          let both = row_said F row _ _ _ before.first before.text _ _ there (added_then _ _ _ _ _ w.comma.ensures w.decimal.ensures) in
          record { text = w.text-is ∙ both.0; first = w.first-is ∙ both.1 }
      | else-mark-eq1 w ↦
          let gone = mark_gone c.args.started.now row c.told-started w.if-mark-eq1.false in
          let both = row_unsaid F row _ _ _ before.first before.text gone in
          record { text = w.text-is ∙ both.0; first = w.first-is ∙ both.1 }
    ]

pub returns : goal.returns
returns c =
    let e : c.loop-row.row ≡ 33 = omega arith in
    c.loop-row.invariant.text ∙ ap (λ (k : ℕ). appended c.args.text.now (commas (up_to (mark_row c.args.started.now) k))) e
