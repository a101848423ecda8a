use Rattle.prepare.specs.Kinds.{RowKinds}
use Rattle.prepare.proofs.kinds.row_kinds.Given as goal

abbrev pub invariant-loop-i : goal.invariant-loop-i
invariant-loop-i l = RowKinds l.row l.i l.methods l.initial.variables l.variables
