use Rattle.passes.proofs.Loops.{Going}
use Rattle.passes.specs.Fused.{Reading, nothing}
use Rattle.visits.specs.Found.{Starts, Kept}
use Rattle.check_operands.specs.Groups.{groups as group_table}
use Rattle.check_operands.specs.Held.{Held}
use Rattle.shapes.specs.Pool.{Fine}
use Rattle.model.specs.Check.{Site, decode_from}
use Rattle.model.specs.Code.{Ins}
use Rattle.model.specs.Tables.{Method, Module}
use Rattle.model.specs.Answer.{ok}
use lib.ListN.{length}
use mathlib.Core.List.{List}
use mathlib.Core.Path.{◌≡◌}
use Prim.Native.Nat.{◌+◌, ◌-◌, ◌≤◌}
use Rattle.passes.proofs.pass.pass.Given as goal

abbrev pub invariant-loop-at : goal.invariant-loop-at
invariant-loop-at l =
    (l.notes.pool.made ≤ l.at + 2) × Reading l.code l.notes.starts l.at × ((M : Module) (m : Method) (all : List (Site Ins))
    → l.tables.groups ≡ group_table → Held M m l.loaded.counts l.row l.max l.loaded.parents l.loaded.fields l.loaded.methods → m.code ≡ l.code
    → Starts all (length l.code) l.initial.notes.starts → decode_from (length l.code) l.code 0 ≡ ok all → Fine l.initial.notes.pool
    → Kept l.initial.notes.pool (length l.code) (nothing (length l.code)) l.initial.notes.found
    → Starts all (length l.code) l.notes.starts × Going M m all l.code l.notes.pool l.notes.found l.at)

abbrev pub decreases-loop-at : goal.decreases-loop-at
decreases-loop-at l =
    length l.code - l.at
