-- `loader::class::parent_fits` meets its contract.
use Rattle.model.specs.Loading.{parent_fits}
use Rattle.model.specs.Answer.{pick}
use borrow.Author.Tests.{eq-eqb, ne_eqb}
use Rattle.loader.proofs.class.parent_fits.Goals as goal

pub returns-then-classes-eq0 : goal.returns-then-classes-eq0
unfolding parent_fits pick
returns-then-classes-eq0 c = simp (eq-eqb _ _ c.if-classes-eq0.true)

pub returns : goal.returns
unfolding parent_fits pick
returns c = simp (ne_eqb _ _ c.if-classes-eq0.false) c.is_row.ensures
