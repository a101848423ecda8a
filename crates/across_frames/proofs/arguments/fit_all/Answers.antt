use mathlib.Core.Path.{sym, ◌∙◌}
use Rattle.across_frames.proofs.Taken.{fit_first, fit_fails, fit_goes, fit_done}
use Rattle.across_frames.proofs.arguments.fit_all.Goals as goal

pub loop-i-init : goal.loop-i-init
loop-i-init c = λ w. fit_first _ _ _ _ _ _ _

pub returns-then-not-fits : goal.returns-then-not-fits
returns-then-not-fits c = λ w. fit_fails _ _ _ _ _ _ _ _ c.loop-i-test.true c.fits.ensures (c.loop-i.invariant w) c.if-not-fits.true

pub loop-i-preserved : goal.loop-i-preserved
loop-i-preserved c = λ w. fit_goes _ _ _ _ _ _ _ _ c.loop-i-test.true c.fits.ensures (c.loop-i.invariant w) c.if-not-fits.false

pub returns : goal.returns
returns c = λ w. sym (fit_done _ _ _ _ _ _ _ c.loop-i-test.false) ∙ c.loop-i.invariant w
