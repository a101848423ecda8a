use borrow.Author.Rules.{rules}
use native.Mathlib.Omega.{arith}
use Rattle.state.specs.Work.{goto}
use Rattle.fields.proofs.Reaching.{stsfld_none, stsfld_unfit, stsfld_waits, stsfld_goes}
use mathlib.Core.Path.{ap}
use mathlib.Core.Bool.{not}
use Rattle.fields.proofs.members.stsfld.Goals as goal

pub returns-then-sp-y : goal.returns-then-sp-y
returns-then-sp-y c = rw c.ends.ensures (record { own = search rules; meets = λ s. stsfld_none _ _ _ _ _ _ _ c.if-sp-y.true })

pub returns-then-not-fits : goal.returns-then-not-fits
returns-then-not-fits c = rw c.ends-then-not-fits.ensures (record { own = search rules; meets = λ s. stsfld_unfit _ _ _ _ _ _ _ c.if-sp-y.false c.fits.ensures (ap not c.if-not-fits.true) })

pub first_due-requires : goal.first_due-requires
first_due-requires c = record { few = c.requires.reaches.initialiser_few; class_at_most = omega (arith, c.requires.reaches.ranges.owner_few c.args.r, c.wide-class.ensures.0) }

pub returns-in-Some : goal.returns-in-Some
returns-in-Some c = record { own = search rules; meets = λ s. stsfld_waits _ _ _ _ _ _ _ c.if-sp-y.false c.fits.ensures (ap not c.if-not-fits.false) c.wide-class.ensures.0 c.first_due.ensures c.in-Some.is }

pub bounds-marks-class : goal.bounds-marks-class
bounds-marks-class c = omega (arith, c.requires.reaches.ranges.owner_few c.args.r, c.wide-class.ensures.0)

pub bounds-statics-wide : goal.bounds-statics-wide
bounds-statics-wide c = omega (arith, c.requires.reaches.ranges.static_few c.args.r, c.wide.ensures.0)

pub returns : goal.returns
unfolding goto
returns c = record { own = search rules; meets = λ s. stsfld_goes _ _ _ _ _ _ _ c.if-sp-y.false c.fits.ensures (ap not c.if-not-fits.false) c.wide-class.ensures.0 c.first_due.ensures c.in_default.is c.wide.ensures.0 }
