-- `statics` meets its contract.
use Rattle.std.proofs.Common.{◌∙◌, ◌≡◌, ℕ, ap, arith, refl, sym}
use Rattle.model.specs.Answer.{is_nil}
use Rattle.model.specs.Replay.{commas}
use Rattle.line.specs.Append.{appended}
use Rattle.line.proofs.Appending.{added_none, added_then}
use Rattle.state_text.specs.Texts.{up_to, static_at}
use Rattle.state_text.proofs.Joining.{row_said, row_unsaid}
use Rattle.state_text.proofs.Reading.{static_there, static_gone}
use Rattle.state_text.proofs.members.statics.Goals as goal
use Rattle.state_text.proofs.members.statics.Goals.{then-at-eq1, else-at-eq1}

pub loop-row-init : goal.loop-row-init
unfolding up_to commas is_nil
loop-row-init c = record { text = added_none _; first = refl }

pub loop-row-preserved : goal.loop-row-preserved
loop-row-preserved c =
    let s = c.args in
    let row = c.loop-row.row in
    let before = c.loop-row.invariant in
    let F = static_at s.fields.now s.bits.now in
    elim c.if-at-eq1.branch [
      | then-at-eq1 w ↦
          let there = static_there s.fields.now s.bits.now row c.told-fields c.told-bits _ c.row_of-field.ensures (sym c.at.ensures ∙ w.if-at-eq1.true) in
          let said = rw (w.at-then-at-eq1-3.ensures, w.at-then-at-eq1-2.ensures, w.at-then-at-eq1.ensures) at w.cell.ensures in
          let both = row_said F row _ _ _ before.first before.text _ _ there (added_then _ _ _ _ _ w.comma.ensures (added_then _ _ _ _ _ w.decimal.ensures (added_then _ _ _ _ _ w.put.ensures said))) in
          record { text = w.text-is ∙ both.0; first = w.first-is ∙ both.1 }
      | else-at-eq1 w ↦
          let gone = static_gone s.fields.now s.bits.now row c.told-fields c.told-bits _ c.row_of-field.ensures (λ e. w.if-at-eq1.false (c.at.ensures ∙ e)) in
          let both = row_unsaid F row _ _ _ before.first before.text gone in
          record { text = w.text-is ∙ both.0; first = w.first-is ∙ both.1 }
    ]

pub returns : goal.returns
returns c =
    let e : c.loop-row.row ≡ 129 = omega arith in
    c.loop-row.invariant.text ∙ ap (λ (k : ℕ). appended c.args.text.now (commas (up_to (static_at c.args.fields.now c.args.bits.now) k))) e
