use borrow.Author.Tests.{eq-eqb, ne_eqb}
use Rattle.model.specs.Answer.{pick}
use Rattle.runner.specs.Answers.{value_in}
use Rattle.runner.specs.Playing.{returned}
use Rattle.runner.proofs.playing.value_due.Goals as goal

pub returns-then-byte-eq0 : goal.returns-then-byte-eq0
unfolding value_in returned pick
returns-then-byte-eq0 c = rw (eq-eqb _ _ c.if-byte-eq0.true)

pub returns : goal.returns
unfolding returned pick
returns c = rw (ne_eqb _ _ c.if-byte-eq0.false) c.value_of.ensures
