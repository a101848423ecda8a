use Rattle.passes.proofs.Loops.{Searching}
use Rattle.visits.specs.Found.{Starts}
use Rattle.passes.specs.Fused.{Rest, Reading}
use Rattle.check_operands.specs.Groups.{groups as group_table}
use Rattle.check_operands.specs.Held.{Held}
use Rattle.model.specs.Check.{Site}
use Rattle.model.specs.Code.{Ins}
use Rattle.model.specs.Tables.{Method, Module}
use lib.ListN.{length}
use mathlib.Core.List.{List}
use mathlib.Core.Path.{◌≡◌}
use Prim.Native.Nat.{ℕ, ◌-◌}
use Rattle.passes.proofs.pass.late.Given as goal

abbrev pub invariant-loop-at : goal.invariant-loop-at
invariant-loop-at v =
    Reading v.code v.starts v.at × ((M : Module) (m : Method) (all l : List (Site Ins)) (max : ℕ) (parents : List ℕ)
    → v.tables.groups ≡ group_table → Held M m v.loaded.counts v.row max parents v.loaded.fields v.loaded.methods → m.code ≡ v.code
    → Starts all (length v.code) v.starts
    → Rest v.code v.from l → Searching M m all l v.code v.at)

abbrev pub decreases-loop-at : goal.decreases-loop-at
decreases-loop-at l =
    length l.code - l.at
