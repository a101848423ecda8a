-- The steps of one stay in a frame: what they begin with, and what they come to.
use Rattle.std.specs.Prelude.{ℕ, ◌-◌, ◌<◌, ◌≡◌, List}
use Rattle.state.specs.declared.Stay.{Stay}
use Rattle.state.specs.declared.Step.{Step}
use Rattle.state.specs.declared.Step.TheVariants.{On, Start, Ends, Leaves}
use Rattle.state.specs.View.{Regs, Work}
use Rattle.state.specs.Work.{Tables, stay_of, code_of, step_w, EndedW, halted_w}
use Rattle.state.specs.Steps.{first_of, leave_number}
use Rattle.fields.specs.Members.{on_member}
use Rattle.crossing.specs.Crossing.{crossing, Crosses}
use Rattle.one_step.specs.Told.{Lends}
use Rattle.between_steps.specs.Running.{Begins}
use Rattle.between_steps.proofs.Going.{Going}
use Rattle.same_frame.specs.declared.Stayed.{Stayed}

-- the running frame is that of the registers, and `part` its method's code
pub record Place (code : List ℕ) (P : Tables) (y : Stay) (part : List ℕ) (g : Regs) : Type 0 where
  pub stay_is : y ≡ stay_of P g
  pub part_is : part ≡ code_of P code g.row

-- some tables are those lent, and work in order is in the arrays
pub record Sits (y : Stay) (part : List ℕ) (class_count field_count : ℕ) (methods variables fields initialisers ancestors : List ℕ) (at sp : ℕ)
    (cells kinds marks classes heap statics : List ℕ) : Type 0 where
  pub code : List ℕ
  pub tables : Tables
  pub work : Work
  pub lends : Lends tables class_count field_count methods variables fields initialisers ancestors
  pub place : Place code tables y part work.regs
  pub begins : Begins code tables (on_member work at sp cells kinds marks classes heap statics)

-- a step that changes the frame comes next
pub record Leaving (code : List ℕ) (P : Tables) (y : Stay) (part : List ℕ) (r : Stayed) (after : Work) : Type 0 where
  pub more : 0 < r.left
  pub crosses : Crosses r.next r.first r.at part
  pub step : step_w P code after ≡ crossing P part y after r.next r.first

-- the run goes on from the work that is left; where nothing comes next it ends there
pub record Came (code : List ℕ) (P : Tables) (y : Stay) (part : List ℕ) (budget : ℕ) (whole : EndedW) (r : Stayed) (after : Work) : Type 0 where
  pub going : Going code P budget whole (budget - r.left) after
  pub stops : r.next ≡ 0 → halted_w r.how (budget - r.left) after ≡ whole
  pub late : r.next ≡ 0 → 30 < r.how
  pub leaves : (r.next ≡ 0 → ⊥) → Leaving code P y part r after

-- a step that doesn't go on in its frame: one that an initialiser comes before, another function's, or one that ends the run
abbrev pub next_by : Step → ℕ
next_by (On at sp) = 0
next_by (Start first) = 2
next_by (Ends e) = 0
next_by (Leaves l) = leave_number l

abbrev pub how_by : Step → ℕ
how_by (On at sp) = 0
how_by (Start first) = 0
how_by (Ends e) = e
how_by (Leaves l) = 0

abbrev pub stopped_by : Step → ℕ → ℕ → ℕ → Stayed
stopped_by step at sp left = record { next = next_by step; how = how_by step; first = first_of step; at = at; sp = sp; left = left }
