use Rattle.std.proofs.Common.{eq-eqb, ne_eqb}
use Rattle.model.specs.Answer.{pick}
use Rattle.state.specs.View.{shown}
use Rattle.in_frame.proofs.branches.shown.Goals as goal

pub returns-then-kind-eq1 : goal.returns-then-kind-eq1
unfolding shown pick
returns-then-kind-eq1 c = simp (eq-eqb _ _ c.if-kind-eq1.true)

pub returns-else-kind-eq1 : goal.returns-else-kind-eq1
unfolding shown pick
returns-else-kind-eq1 c = simp (ne_eqb _ _ c.if-kind-eq1.false)
