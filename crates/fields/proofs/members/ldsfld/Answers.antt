use borrow.Author.Rules.{rules}
use native.Mathlib.Omega.{arith}
use Rattle.state.specs.Work.{put, goto}
use Rattle.fields.proofs.Reaching.{ldsfld_full, ldsfld_waits, ldsfld_goes}
use Rattle.fields.proofs.members.ldsfld.Goals as goal

pub returns-then-y-sp : goal.returns-then-y-sp
returns-then-y-sp c = rw c.ends.ensures (record { own = search rules; meets = λ s. ldsfld_full _ _ _ _ _ _ c.if-y-sp.true })

pub first_due-requires : goal.first_due-requires
first_due-requires c = record { few = c.requires.initialiser_few; class_at_most = omega (arith, c.requires.ranges.owner_few c.args.r, c.wide-class.ensures.0) }

pub returns-in-Some : goal.returns-in-Some
returns-in-Some c = record { own = search rules; meets = λ s. ldsfld_waits _ _ _ _ _ _ c.if-y-sp.false c.wide-class.ensures.0 c.first_due.ensures c.in-Some.is }

pub bounds-marks-class : goal.bounds-marks-class
bounds-marks-class c = omega (arith, c.requires.ranges.owner_few c.args.r, c.wide-class.ensures.0)

pub bounds-statics-wide : goal.bounds-statics-wide
bounds-statics-wide c = omega (arith, c.requires.ranges.static_few c.args.r, c.wide.ensures.0)

pub returns : goal.returns
unfolding put goto
returns c = record { own = search rules; meets = λ s. ldsfld_goes _ _ _ _ _ _ c.if-y-sp.false c.wide-class.ensures.0 c.first_due.ensures c.in_default.is c.kind_of.ensures c.wide.ensures.0 }
