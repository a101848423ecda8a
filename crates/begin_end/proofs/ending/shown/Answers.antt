use mathlib.Core.Path.{◌∙◌}
use borrow.Author.Tests.{eq-eqb, ne_eqb}
use Rattle.model.specs.Answer.{pick}
use Rattle.state.specs.Layout.{tidy_bits}
use Rattle.begin_end.proofs.Signing.{signed_low}
use Rattle.begin_end.proofs.ending.shown.Goals as goal

pub returns-then-kind-eq-INT32 : goal.returns-then-kind-eq-INT32
unfolding tidy_bits pick
returns-then-kind-eq-INT32 c = simp (eq-eqb _ _ c.if-kind-eq-INT32.true) (c.conv_i8.ensures ∙ signed_low _)

pub returns-else-kind-eq-INT32 : goal.returns-else-kind-eq-INT32
unfolding tidy_bits pick
returns-else-kind-eq-INT32 c = simp (ne_eqb _ _ c.if-kind-eq-INT32.false)
