use native.Mathlib.Omega.{arith}
use borrow.Author.Tests.{eq-eqb, ne_eqb}
use Rattle.model.specs.Answer.{pick}
use Rattle.across_frames.proofs.returns.passed.Goals as goal

pub returns-then-sort-eq-INITIALISER : goal.returns-then-sort-eq-INITIALISER
unfolding pick
returns-then-sort-eq-INITIALISER c = (simp (eq-eqb _ _ c.if-sort-eq-INITIALISER.true), omega arith)

pub returns-else-sort-eq-INITIALISER : goal.returns-else-sort-eq-INITIALISER
unfolding pick
returns-else-sort-eq-INITIALISER c = (simp (ne_eqb _ _ c.if-sort-eq-INITIALISER.false), omega arith)
