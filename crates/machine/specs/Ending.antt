-- What the loop is given, and how it ends.
use Rattle.std.specs.Prelude.{ℕ, suc, ◌-◌, ◌/◌, ◌≡◌, ◌⊎◌, List, eqb}
use Rattle.model.specs.Answer.{pick}
use Rattle.model.specs.Tables.{Module}
use Rattle.model.specs.Step.{lowest_free}
use Rattle.model.specs.Run.{steps}
use Rattle.loaded.specs.Holds.{method_cell, Holds}
use Rattle.loaded.specs.declared.Loaded.{Loaded}
use Rattle.state.specs.View.{Work, view}
use Rattle.state.specs.Work.{value_due, due_of_byte, EndedW, halted_w, finished_w, ended}
use Rattle.state.specs.Order.{Fine, Good, Bounded}
use Rattle.machine.specs.declared.Stopped.{Stopped}

-- a loaded module in its arrays, and work in order
pub record Sets (code : List ℕ) (L : Loaded) (c : Work) : Type 0 where
  pub module_is : Module
  pub fine : Fine module_is
  pub holds : Holds module_is code L
  pub good : Good module_is c
  pub bounded : Bounded L.counts.methods c

-- how the run on the arrays ended: 1 is a return from the entry, which is a step too
unfoldable pub ended_by : List ℕ → ℕ → Stopped → Work → EndedW
ended_by methods budget r c =
    pick (eqb r.last.how 1)
    (finished_w (suc (budget - r.left)) (value_due c (due_of_byte (method_cell methods r.last.row 26))) c)
    (halted_w r.last.how (budget - r.left) c)

-- a run on the arrays from the work c on that is the model's, with work in order at its end; n is the number of methods
pub record Ends (M : Module) (n budget : ℕ) (c : Work) (x : EndedW) : Type 0 where
  pub says : ended M x ≡ steps lowest_free M budget 0 (view M c)
  pub good : Good M x.work
  pub lives : (x.live ≡ 0) ⊎ (x.live ≡ suc (x.work.regs.fp / 64))
  pub bounded : Bounded n x.work
