-- `loader::field::next_slot` meets its contract.
use mathlib.Core.Path.{ap}
use borrow.Author.Tests.{eq-eqb, ne_eqb}
use Rattle.model.specs.Answer.{pick}
use Rattle.loaded.specs.declared.Counts.{Counts}
use Rattle.loader.specs.Stands.{counts_of}
use Rattle.loader.proofs.field.next_slot.Goals as goal

pub returns-then-flag-eq1 : goal.returns-then-flag-eq1
unfolding pick counts_of
returns-then-flag-eq1 c = λ code L S. simp (eq-eqb _ _ c.if-flag-eq1.true) (ap (λ (n : Counts). n.statics) S.counted)

pub returns : goal.returns
unfolding pick
returns c = λ code L S. simp (ne_eqb _ _ c.if-flag-eq1.false) (c.held.ensures.as_model L.parents L.fields _ S.classes S.fields)
