-- `loaded_rest` meets its contract.
use mathlib.Core.Path.{refl, sym, ◌∙◌}
use Rattle.model.specs.Turn.{dash}
use Rattle.case_line.specs.Case.{line_feed}
use Rattle.case_line.proofs.Lines.{refused_run, ended_run}
use Rattle.case_line.proofs.answer.loaded_rest.Goals as goal

pub returns-then-refuses : goal.returns-then-refuses
unfolding dash line_feed
returns-then-refuses c =
    λ M fin bound hold.
    refused_run M c.args.arguments.now c.args.budget _ (c.check.ensures M _ bound hold) c.run-e.result
    (c.run-e.ensures M fin hold) _ _ _ (rw c.numbered-found.ensures at c.check_part.ensures) c.run_part.ensures
    (sym c.refuses.ensures ∙ c.if-refuses.true) _ c.word.ensures

pub returns : goal.returns
unfolding line_feed
returns c =
    λ M fin bound hold.
    ended_run M c.args.arguments.now c.args.budget _ (c.check.ensures M _ bound hold) c.run-e.result
    (c.run-e.ensures M fin hold) _ _ _ (rw c.numbered-found.ensures at c.check_part.ensures) c.run_part.ensures
    (sym c.refuses.ensures ∙ c.if-refuses.false)
    fin _ _ hold (λ i. (c.type_inv.arguments i).fits)
    (c.types.ensures M _ _ fin hold refl refl refl) _ c.state_part.ensures _ c.put.ensures
