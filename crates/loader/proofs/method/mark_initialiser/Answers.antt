-- `loader::method::mark_initialiser` meets its contract.
use Rattle.loader.specs.Stands.{marked}
use Rattle.model.specs.Answer.{pick}
use borrow.Author.Tests.{eq-eqb, ne_eqb}
use Rattle.loader.proofs.method.mark_initialiser.Goals as goal

pub returns-then-sort-eq-INITIALISER : goal.returns-then-sort-eq-INITIALISER
unfolding marked pick
returns-then-sort-eq-INITIALISER c = simp (eq-eqb _ _ c.if-sort-eq-INITIALISER.true)

pub returns-else-sort-eq-INITIALISER : goal.returns-else-sort-eq-INITIALISER
unfolding marked pick
returns-else-sort-eq-INITIALISER c = simp (ne_eqb _ _ c.if-sort-eq-INITIALISER.false)
