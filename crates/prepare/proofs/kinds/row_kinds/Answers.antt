use Rattle.prepare.proofs.Storing.{kinds_none, kinds_more}
use Rattle.prepare.proofs.kinds.row_kinds.Goals as goal

pub loop-i-init : goal.loop-i-init
loop-i-init c = kinds_none _ _ _

pub loop-i-preserved : goal.loop-i-preserved
loop-i-preserved c = kinds_more _ _ _ _ _ _ c.requires.row_below c.loop-i-test.true c.requires.variables_len c.loop-i.invariant c.kind_or_none.ensures
