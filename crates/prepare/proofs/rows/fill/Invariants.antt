use Rattle.prepare.specs.Rows.{Filled}
use Rattle.prepare.proofs.rows.fill.Given as goal

abbrev pub invariant-loop-i : goal.invariant-loop-i
invariant-loop-i l = Filled l.from l.to l.i l.initial.table l.table
