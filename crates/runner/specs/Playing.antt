-- What is told of a run beside its state, and what a run from arguments laid in the first frame comes to.
use Rattle.std.specs.Prelude.{ℕ, ◌≡◌, List, replicate, eqb}
use Rattle.std.proofs.Math.Option.{Option, none, some}
use Rattle.model.specs.Answer.{pick}
use Rattle.model.specs.Tables.{Module, method_at}
use Rattle.model.specs.State.{Value}
use Rattle.model.specs.Step.{lowest_free}
use Rattle.model.specs.Run.{admit, first, steps}
use Rattle.loaded.specs.Holds.{method_cell, Holds}
use Rattle.loaded.specs.declared.Loaded.{Loaded}
use Rattle.state.specs.declared.State.{State}
use Rattle.state.specs.View.{value_by}
use Rattle.state.specs.Order.{Fine}
use Rattle.state.specs.Work.{copy_of, EndedW}
use Rattle.begin_end.specs.Admission.{Words}
use Rattle.runner.specs.declared.Ended.{Ended}
use Rattle.runner.specs.declared.summary.Summary.{Summary}
use Rattle.runner.specs.Answers.{value_in, Tells}

-- the value that a method returns, by the byte of its return type
unfoldable pub returned : ℕ → ℕ → ℕ → Option Value
returned byte kind bits = pick (eqb byte 0) none (some (value_by kind bits))

-- what is told of a run on the arrays
unfoldable pub summed : EndedW → Summary
summed x =
    record {
      end = record { number = x.ending; method = x.work.regs.row; offset = x.work.regs.at };
      steps = x.steps;
      value = value_in x.value;
    }

-- with the state
abbrev pub ended_with : Summary → State → Ended
ended_with s state = record { end = s.end; steps = s.steps; value = s.value; state = state }

-- a state in whose arrays all is 0
pub record AllZero (s : State) : Type 0 where
  pub no_cells : s.cells ≡ replicate 2048 0
  pub no_kinds : s.kinds ≡ replicate 2048 0
  pub no_marks : s.marks ≡ replicate 33 0
  pub no_classes : s.classes ≡ replicate 256 0
  pub no_heap : s.heap ≡ replicate 2048 0
  pub no_statics : s.statics ≡ replicate 64 0

-- cells that are 0 but for arguments of the entry
unfoldable pub laid : List ℕ → ℕ → List ℕ → List ℕ
laid methods entry given = copy_of (method_cell methods entry 28) given 0 0 (replicate 2048 0)

-- a state before a run: all is 0 but for the arguments
pub record Begun (L : Loaded) (s : State) : Type 0 where
  pub given : List ℕ
  pub arguments : s.cells ≡ laid L.methods L.counts.entry given
  pub no_kinds : s.kinds ≡ replicate 2048 0
  pub no_marks : s.marks ≡ replicate 33 0
  pub no_classes : s.classes ≡ replicate 256 0
  pub no_heap : s.heap ≡ replicate 2048 0
  pub no_statics : s.statics ≡ replicate 64 0

-- what is told is the model's run, where the cells have arguments that the entry takes
unfoldable pub Plays : List ℕ → Loaded → List ℕ → ℕ → Ended → Type 0
Plays code L cells budget r =
    (M : Module) (given : List ℕ) (vs : List Value) → Fine M → Holds M code L → Words given
    → cells ≡ laid L.methods L.counts.entry given
    → admit (method_at M.methods M.entry).params given ≡ some vs
    → Tells (steps lowest_free M budget 0 (first M vs)) r
