use Rattle.std.proofs.Common.{◌≡◌, List, ◌-◌, length, drop}
use Rattle.model.specs.Answer.{first_row}
use Rattle.model.specs.Tables.{Method, of_root}
use Rattle.loader.specs.Stands.{MethodCells}
use Rattle.loader.proofs.Rules.{root_test}
use Rattle.loader.proofs.overriding.taken.Given as goal

abbrev pub invariant-loop-row : goal.invariant-loop-row
invariant-loop-row l = (ms : List Method) → l.n ≡ length ms → MethodCells ms l.methods → of_root ms l.c l.q ≡ first_row (root_test ms l.c l.q) l.row (drop (l.row - 1) ms)
