-- `cell` meets its contract: 1, 2 and 3 are kinds of numbers.
use Rattle.std.proofs.Common.{◌∙◌, ◌≡◌, ◌∷◌, ℕ, ap, arith, sym}
use mir.Syntax.{w64}
use mir.Val.{to_z}
use Rattle.integers.specs.Cells.{low}
use Rattle.model.specs.Turn.{signed}
use Rattle.model.specs.State.{Value}
use Rattle.model.specs.Replay.{cell_text}
use Rattle.state.specs.View.{value_by}
use Rattle.line.specs.Append.{appended}
use Rattle.line.proofs.Appending.{added_then}
use Rattle.state_text.proofs.Joining.{kind_text, other_kind}
use Rattle.state_text.proofs.cell.cell.Goals as goal

pub returns-in-1 : goal.returns-in-1
unfolding cell_text value_by
returns-in-1 c =
    added_then _ _ _ _ _ c.put.ensures c.signed.ensures
    ∙ ap (appended c.args.text.now) (sym (kind_text 1 c.args.bits c.in-1.is (omega arith)))

pub returns-in-2 : goal.returns-in-2
unfolding cell_text value_by
returns-in-2 c =
    let n = c.args.bits in
    let e : low w64 n ≡ n = omega arith in
    added_then _ _ _ _ _ c.put-in-2.ensures c.signed-in-2.ensures
    ∙ ap (appended c.args.text.now) (ap (λ (m : ℕ). 108 ∷ signed (to_z w64 m)) e ∙ sym (kind_text 2 n c.in-2.is (omega arith)))

pub returns-in-3 : goal.returns-in-3
unfolding cell_text value_by
returns-in-3 c =
    added_then _ _ _ _ _ c.put-in-3.ensures c.hex.ensures
    ∙ ap (appended c.args.text.now) (sym (kind_text 3 c.args.bits c.in-3.is (omega arith)))

pub returns-in_default : goal.returns-in_default
returns-in_default c =
    c.reference.ensures
    ∙ ap (λ (v : Value). appended c.args.text.now (cell_text v)) (sym (other_kind _ _ (λ e. omega arith) (λ e. omega arith) (λ e. omega arith)))
