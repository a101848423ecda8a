use Rattle.std.proofs.Common.{rules}
use Rattle.state.specs.Work.{goto}
use Rattle.in_frame.proofs.Answers.{store_none, store_empty, store_wrong, store_goes}
use Rattle.in_frame.proofs.variables.store.Goals as goal

pub returns-then-byte-eq0 : goal.returns-then-byte-eq0
returns-then-byte-eq0 c = rw c.ends.ensures (record { own = search rules; meets = λ s e. store_none _ _ _ _ _ _ c.if-byte-eq0.true })

pub returns-then-sp-y : goal.returns-then-sp-y
returns-then-sp-y c = rw c.ends-then-sp-y.ensures (record { own = search rules; meets = λ s e. store_empty _ _ _ _ _ _ c.if-byte-eq0.false c.if-sp-y.true })

pub returns-then-fits : goal.returns-then-fits
unfolding goto
returns-then-fits c = record { own = search rules; meets = λ s e. store_goes _ _ _ _ _ _ c.if-byte-eq0.false c.if-sp-y.false e c.fits.ensures c.if-fits.true }

pub returns : goal.returns
returns c = rw c.ends-2.ensures (record { own = search rules; meets = λ s e. store_wrong _ _ _ _ _ _ c.if-byte-eq0.false c.if-sp-y.false e c.fits.ensures c.if-fits.false })
