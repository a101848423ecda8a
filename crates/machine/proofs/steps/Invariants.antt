use Prim.Native.Nat.{◌+◌, ◌-◌, ◌≤◌, ◌<◌}
use mathlib.Core.Path.{◌≡◌}
use lib.Dec.{eqb}
use Rattle.model.specs.Answer.{pick}
use Rattle.loaded.specs.Holds.{method_cell}
use Rattle.state.specs.Work.{value_due, due_of_byte, run_w}
use Rattle.state.specs.Meets.{regs_of}
use Rattle.state.specs.Layout.{work_of}
use Rattle.between_steps.proofs.Going.{Going}
use Rattle.machine.proofs.Made.{tables_in}
use Rattle.machine.proofs.Crossed.{ends_with}
use Rattle.machine.proofs.steps.Given as goal

abbrev pub invariant-loop-last : goal.invariant-loop-last
invariant-loop-last l =
    let L = l.loaded in
    let P = tables_in L l.made in
    let whole = run_w P l.code l.budget 0 (work_of (regs_of l.initial.last) l.initial.state) in
    let c = work_of (regs_of l.last) l.state in
    (l.left ≤ l.budget) × ((l.last.how ≡ 0 → Going l.code P l.budget whole (l.budget - l.left) c)
    × (((l.last.how ≡ 0 → ⊥) → (ends_with l.last.how (l.budget - l.left) (value_due c (due_of_byte (method_cell L.methods l.last.row 26))) c ≡ whole) × (l.last.how ≡ 1 → 0 < l.left))
    × (l.state.live ≡ l.initial.state.live)))

abbrev pub decreases-loop-last : goal.decreases-loop-last
decreases-loop-last l = l.left + pick (eqb l.last.how 0) 1 0
