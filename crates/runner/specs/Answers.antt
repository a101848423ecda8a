-- What a run answers, by the model's answer.
use Rattle.std.specs.Prelude.{◌≡◌, List, ℕ}
use Rattle.std.proofs.Math.Option.{Option, none, some}
use Rattle.model.specs.Answer.{Answer, bad, ok}
use Rattle.model.specs.Tables.{Module}
use Rattle.model.specs.Loading.{Refusal}
use Rattle.model.specs.State as Model
use Rattle.model.specs.Run as Run
use Rattle.loaded.specs.Holds.{Holds}
use Rattle.loaded.specs.declared.Loaded.{Loaded}
use Rattle.state.specs.Order.{Fine}
use Rattle.state.specs.Layout.{signed32, lay_out, no_state}
use Rattle.line.specs.Values.{value_of}
use Rattle.line.specs.declared.line.Value.{Value}
use Rattle.line.specs.declared.line.Value.TheVariants.{None, Int32, Int64, Real, Null, Object}
use Rattle.runner.specs.declared.Ended.{Ended}
use Rattle.runner.specs.declared.Reason.{Reason}
use Rattle.runner.specs.declared.Reason.TheVariants.{Arguments, Budget}

-- a module that was loaded, in its arrays
pub record Loads (code : List ℕ) (L : Loaded) : Type 0 where
  pub module_is : Module
  pub fine : Fine module_is
  pub holds : Holds module_is code L

-- a value as it is handed out: an int32 has its sign
unfoldable pub value_in : Option Model.Value → Value
value_in none = None
value_in (some (Model.vint32 n)) = Int32 (signed32 n)
value_in (some (Model.vint64 n)) = Int64 n
value_in (some (Model.v_f n)) = Real n
value_in (some Model.vnull) = Null
value_in (some (Model.vobject n)) = Object n

-- ending and place, steps, value, and the whole state, every dead cell 0
unfoldable pub told : Run.Ended → Ended
told e =
    record {
      end = record { number = e.ending; method = e.method; offset = e.offset };
      steps = e.steps;
      value = value_in e.value;
      state = lay_out e.state;
    }

-- the number of a refusal of the run
unfoldable pub number_of : Reason → ℕ
number_of Arguments = 21
number_of Budget = 22

-- nothing is run: the refusal's number and place, and all else is 0
unfoldable pub refused_by : Refusal → Ended
refused_by f = record { end = record { number = f.number; method = 0; offset = f.place }; steps = 0; value = None; state = no_state }

-- how the run ended, by equality; and the value handed out is the model's
pub record Tells (e : Run.Ended) (r : Ended) : Type 0 where
  pub exact : r ≡ told e
  pub value : value_of r.value ≡ e.value

-- a refusal, or how the run ended
unfoldable pub Answers : Answer Refusal Run.Ended → Ended → Type 0
Answers (bad f) r = r ≡ refused_by f
Answers (ok e) r = Tells e r
