-- `loader::overriding::root_of` meets its contract.
use borrow.Author.Tests.{eq-eqb, ne_eqb}
use Rattle.model.specs.Answer.{pick}
use Rattle.loader.specs.Stands.{root_in}
use Rattle.loader.proofs.overriding.root_of.Goals as goal

pub returns-then-overridden-eq0 : goal.returns-then-overridden-eq0
unfolding root_in pick
returns-then-overridden-eq0 c = simp (eq-eqb _ _ c.if-overridden-eq0.true)

pub returns : goal.returns
unfolding root_in pick
returns c = simp (ne_eqb _ _ c.if-overridden-eq0.false)
