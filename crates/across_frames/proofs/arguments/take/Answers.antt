use mathlib.Core.Path.{sym, ◌∙◌}
use Rattle.across_frames.proofs.Taken.{taking_few, taking_unfit, taking_full, taking_goes}
use Rattle.across_frames.proofs.arguments.take.Goals as goal

pub returns-then-sp-registers-clause-as_model : goal.returns-then-sp-registers-clause-as_model
returns-then-sp-registers-clause-as_model c = λ w t. taking_few _ _ c.args.registers.stay _ _ _ _ _ t c.if-sp-registers.true

pub returns-then-not-fit_all-clause-as_model : goal.returns-then-not-fit_all-clause-as_model
returns-then-not-fit_all-clause-as_model c = λ w t. taking_unfit _ _ c.args.registers.stay _ _ _ _ _ t c.if-sp-registers.false (sym (c.fit_all.ensures w) ∙ c.if-not-fit_all.true)

pub returns-then-registers-from-clause-as_model : goal.returns-then-registers-from-clause-as_model
returns-then-registers-from-clause-as_model c = λ w t. taking_full _ _ c.args.registers.stay _ _ _ _ _ t c.if-sp-registers.false (sym (c.fit_all.ensures w) ∙ c.if-not-fit_all.false) c.if-registers-from.true

pub returns-clause-as_model : goal.returns-clause-as_model
returns-clause-as_model c = λ w t. taking_goes _ _ c.args.registers.stay _ _ _ _ _ t c.if-sp-registers.false (sym (c.fit_all.ensures w) ∙ c.if-not-fit_all.false) c.if-registers-from.false
