use mathlib.Core.Path.{refl}
use Rattle.model.specs.Answer.{only_if}
use Rattle.begin_end.specs.Admission.{Words}
use Rattle.runner.specs.Answers.{number_of}
use Rattle.runner.specs.Playing.{Plays}
use Rattle.runner.proofs.Beginning.{entry_there, arguments_fit}
use Rattle.runner.proofs.Answering.{laid_so, begun_so, not_admitted, over_budget, was_run}
use Rattle.runner.proofs.run_lent.Goals as goal

pub admit-requires : goal.admit-requires
admit-requires c = let l = c.requires.loads in (entry_there l, arguments_fit l _)

pub returns-then-not-admit : goal.returns-then-not-admit
unfolding number_of only_if
returns-then-not-admit c = λ M fin hold. not_admitted M _ _ _ (c.if-not-admit.ensures.as_model M _ _ hold fin refl refl) c.refused.ensures

pub returns-then-budget-gt-MOST_BUDGET : goal.returns-then-budget-gt-MOST_BUDGET
unfolding number_of only_if
returns-then-budget-gt-MOST_BUDGET c =
    λ M fin hold. over_budget M _ _ _ _ (c.if-not-admit.ensures.as_model M _ _ hold fin refl refl) c.if-budget-gt-MOST_BUDGET.true c.refused-then-budget-gt-MOST_BUDGET.ensures

pub played-requires : goal.played-requires
played-requires c = record { loads = c.requires.loads; begun = begun_so c.args.loaded.now c.args.given.now c.requires.zeros c.if-not-admit.ensures.state_is }

pub returns : goal.returns
unfolding Plays only_if
returns c =
    λ M fin hold.
    let admitted = c.if-not-admit.ensures.as_model M _ _ hold fin refl refl in
    let words : Words c.args.given.now = record { word = λ i. c.type_inv.given i } in
    let laid = laid_so c.args.loaded.now c.args.given.now c.requires.zeros c.if-not-admit.ensures.state_is in
    was_run M _ _ _ _ admitted c.if-budget-gt-MOST_BUDGET.false refl (c.played.ensures M _ _ fin hold words laid admitted)
