use native.Mathlib.Omega.{arith}
use Rattle.prepare.proofs.Turns.{filled_none, filled_more}
use Rattle.prepare.proofs.rows.fill.Goals as goal

pub loop-i-init : goal.loop-i-init
loop-i-init c = filled_none _ _ _

pub loop-i-preserved : goal.loop-i-preserved
loop-i-preserved c = filled_more _ _ _ _ _ _ c.loop-i.invariant (omega (arith, c.loop-i.auto.table)) c.or_other.ensures
