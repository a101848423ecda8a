use Rattle.code.proofs.There.{there}
use Rattle.fields.proofs.Naming.{row_cut, row_past, row_found}
use mathlib.Core.Path.{ap}
use mathlib.Core.Bool.{not}
use Rattle.fields.proofs.named.row_after.Goals as goal

pub returns-then-not-whole : goal.returns-then-not-whole
returns-then-not-whole c = row_cut _ _ c.whole.ensures _ _ (ap not c.if-not-whole.true)

pub four_after-requires : goal.four_after-requires
four_after-requires c = there c.whole.ensures (ap not c.if-not-whole.false)

pub returns-then-count-r : goal.returns-then-count-r
returns-then-count-r c = row_past _ _ c.whole.ensures _ _ (ap not c.if-not-whole.false) c.requires.2 c.four_after.ensures.0 c.row_named-r.ensures c.if-count-r.true

pub returns : goal.returns
returns c = row_found _ _ c.whole.ensures _ _ (ap not c.if-not-whole.false) c.requires.2 c.four_after.ensures.0 c.row_named-r.ensures c.if-count-r.false
