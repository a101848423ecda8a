-- What a visit of an instruction leaves.
use Rattle.std.specs.Prelude.{ℕ, List, Result, ⊤}
use Rattle.std.proofs.Math.Option.{Option, some}
use Rattle.model.specs.Answer.{only_if}
use Rattle.model.specs.Tables.{Method, Module}
use Rattle.model.specs.Code.{Ins, Act, and_then, operands}
use Rattle.model.specs.Check.{Shapes, Site, targets, all_start, visit}
use Rattle.code.specs.declared.insn.Insn.{Insn}
use Rattle.code.specs.Insn.{ins_of}
use Rattle.shapes.specs.declared.shape.Pool.{Pool}
use Rattle.shapes.specs.Pool.{Fine}
use Rattle.shapes.specs.declared.fault.FaultKind.{FaultKind}
use Rattle.visits.specs.Found.{WentBy}

-- an instruction's act, if its operands and targets are right
unfoldable pub act_of : Module → Method → List (Site Ins) → Ins → Option Act
act_of M m all i = and_then (operands M m i) (λ a. only_if (all_start all (targets a)) (some a))

-- what a visit of the instruction at an offset leaves
unfoldable pub Visits : Module → Method → List (Site Ins) → Shapes → ℕ → Insn → ℕ → Result ⊤ FaultKind → List ℕ → Pool → Type 0
Visits M m all F at i n r found Q =
    WentBy Q n r found (λ a. visit M m F (record { offset = at; what = a; next = i.next })) (act_of M m all (ins_of i)) × Fine Q
