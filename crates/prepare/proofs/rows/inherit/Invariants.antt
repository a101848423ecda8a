use Prim.Native.Nat.{◌+◌, ◌%◌, ◌≤◌}
use Rattle.prepare.specs.Rows.{Inherited}
use Rattle.prepare.proofs.rows.inherit.Given as goal

abbrev pub invariant-loop-c : goal.invariant-loop-c
invariant-loop-c l = (l.c ≤ l.classes % 33 + 1) × Inherited l.parents l.width l.n l.c l.initial.table l.table
