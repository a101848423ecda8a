use borrow.Author.Rules.{rules}
use native.Mathlib.Omega.{arith}
use Rattle.state.specs.Work.{goto}
use Rattle.fields.proofs.Reaching.{ldfld_none, ldfld_kind, ldfld_other, ldfld_waits, ldfld_null, ldfld_goes}
use mathlib.Core.Path.{ap}
use mathlib.Core.Bool.{not}
use Rattle.fields.proofs.members.ldfld.Goals as goal

pub returns-then-sp-y : goal.returns-then-sp-y
returns-then-sp-y c = rw c.ends.ensures (record { own = search rules; meets = λ s. ldfld_none _ _ _ _ _ _ _ c.if-sp-y.true })

pub returns-then-kinds-sp-ne0 : goal.returns-then-kinds-sp-ne0
returns-then-kinds-sp-ne0 c = rw c.ends-then-kinds-sp-ne0.ensures (record { own = search rules; meets = λ s. ldfld_kind _ _ _ _ _ _ _ c.if-sp-y.false c.if-kinds-sp-ne0.true })

pub returns-then-not-refers : goal.returns-then-not-refers
returns-then-not-refers c = rw c.ends-then-not-refers.ensures (record { own = search rules; meets = λ s. ldfld_other _ _ _ _ _ _ _ c.if-sp-y.false c.if-kinds-sp-ne0.false c.refers.ensures (ap not c.if-not-refers.true) })

pub first_due-requires : goal.first_due-requires
first_due-requires c = record { few = c.requires.reaches.initialiser_few; class_at_most = omega (arith, c.requires.reaches.ranges.owner_few c.args.r, c.wide-class.ensures.0) }

pub returns-in-Some : goal.returns-in-Some
returns-in-Some c = record { own = search rules; meets = λ s. ldfld_waits _ _ _ _ _ _ _ c.if-sp-y.false c.if-kinds-sp-ne0.false c.refers.ensures (ap not c.if-not-refers.false) c.wide-class.ensures.0 c.first_due.ensures c.in-Some.is }

pub returns-then-object-eq0 : goal.returns-then-object-eq0
returns-then-object-eq0 c = rw c.ends-then-object-eq0.ensures (record { own = search rules; meets = λ s. ldfld_null _ _ _ _ _ _ _ c.if-sp-y.false c.if-kinds-sp-ne0.false c.refers.ensures (ap not c.if-not-refers.false) c.wide-class.ensures.0 c.first_due.ensures c.in_default.is c.if-object-eq0.true })

pub bounds-marks-class : goal.bounds-marks-class
bounds-marks-class c = omega (arith, c.requires.reaches.ranges.owner_few c.args.r, c.wide-class.ensures.0)

pub bounds-heap-place : goal.bounds-heap-place
bounds-heap-place c = omega (arith, c.requires.reaches.ranges.cell_few c.args.r c.requires.field_cell_is, c.wide.ensures.0)

pub returns : goal.returns
unfolding goto
returns c = record { own = search rules; meets = λ s. ldfld_goes _ _ _ _ _ _ _ c.if-sp-y.false c.if-kinds-sp-ne0.false c.refers.ensures (ap not c.if-not-refers.false) c.wide-class.ensures.0 c.first_due.ensures c.in_default.is c.if-object-eq0.false c.kind_of.ensures c.wide.ensures.0 }
