use borrow.Author.Tests.{eq-eqb, ne_eqb}
use native.Mathlib.Omega.{arith}
use Rattle.model.specs.Answer.{pick}
use Rattle.runner.proofs.playing.counted.Goals as goal

pub overflow_sub-result : goal.overflow_sub-result
overflow_sub-result c = omega (arith, c.requires.1 c.if-how-eq-OVER.true)

pub overflow_sub-result-then-how-eq-OVER : goal.overflow_sub-result-then-how-eq-OVER
overflow_sub-result-then-how-eq-OVER c = omega (arith, c.requires.0)

pub returns-then-how-eq-OVER : goal.returns-then-how-eq-OVER
unfolding pick
returns-then-how-eq-OVER c = simp (eq-eqb _ _ c.if-how-eq-OVER.true) (omega (arith, c.requires.0, c.requires.1 c.if-how-eq-OVER.true))

pub returns : goal.returns
unfolding pick
returns c = simp (ne_eqb _ _ c.if-how-eq-OVER.false)
