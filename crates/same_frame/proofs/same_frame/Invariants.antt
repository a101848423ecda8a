use Prim.Native.Nat.{ℕ, ◌-◌, ◌≤◌}
use mathlib.Core.List.{List}
use Rattle.state.specs.View.{Work}
use Rattle.state.specs.Work.{Tables, EndedW}
use Rattle.fields.specs.Members.{on_member}
use Rattle.one_step.specs.Told.{Lends}
use Rattle.between_steps.proofs.Going.{Going}
use Rattle.same_frame.specs.Stays.{Place}
use Rattle.same_frame.proofs.same_frame.Given as goal

abbrev pub invariant-loop-left : goal.invariant-loop-left
invariant-loop-left l =
    (l.left ≤ l.budget)
    × ((code : List ℕ) (P : Tables) (c : Work) (most : ℕ) (whole : EndedW) → Lends P l.class_count l.field_count l.methods l.variables l.fields l.initialisers l.ancestors
    → Place code P l.y l.part c.regs → l.budget ≤ most → Going code P most whole (most - l.budget) (on_member c l.at l.sp l.initial.cells l.initial.kinds l.initial.marks l.classes l.initial.heap l.initial.statics)
    → Going code P most whole (most - l.left) (on_member c l.o l.s l.cells l.kinds l.marks l.classes l.heap l.statics))

abbrev pub decreases-loop-left : goal.decreases-loop-left
decreases-loop-left l = l.left
