use borrow.Author.Tests.{eq-eqb, ne_eqb}
use Rattle.model.specs.Answer.{pick}
use Rattle.state.specs.Layout.{tidy_byte}
use Rattle.begin_end.proofs.ending.typed.Goals as goal

pub returns-then-byte-eq0 : goal.returns-then-byte-eq0
unfolding tidy_byte pick
returns-then-byte-eq0 c = simp (eq-eqb _ _ c.if-byte-eq0.true)

pub returns-else-byte-eq0 : goal.returns-else-byte-eq0
unfolding tidy_byte pick
returns-else-byte-eq0 c = simp (ne_eqb _ _ c.if-byte-eq0.false) c.shown.ensures
