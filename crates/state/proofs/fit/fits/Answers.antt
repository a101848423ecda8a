use Rattle.std.proofs.Common.{eq-eqb, ne_eqb, le-leb}
use borrow.Author.Tests.{lt-leb}
use Rattle.model.specs.Answer.{pick}
use Rattle.state.specs.Work.{fits_w}
use Rattle.state.proofs.fit.fits.Goals as goal

pub returns-then-kind-byte : goal.returns-then-kind-byte
unfolding fits_w pick
returns-then-kind-byte c = simp (eq-eqb _ _ c.if-kind-byte.true)

pub returns-then-byte-le3 : goal.returns-then-byte-le3
unfolding fits_w pick
returns-then-byte-le3 c = simp (ne_eqb _ _ c.if-kind-byte.false, le-leb _ _ c.if-byte-le3.true)

pub returns-then-kind-ne0 : goal.returns-then-kind-ne0
unfolding fits_w pick
returns-then-kind-ne0 c = simp (ne_eqb _ _ c.if-kind-byte.false, lt-leb _ _ c.if-byte-le3.false, ne_eqb _ _ c.if-kind-ne0.true)

pub returns : goal.returns
unfolding fits_w pick
returns c =
    simp (ne_eqb _ _ c.if-kind-byte.false, lt-leb _ _ c.if-byte-le3.false, eq-eqb _ _ c.if-kind-ne0.false) c.refers.ensures
