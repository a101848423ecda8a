-- The run: admission of arguments and budget, the beginning, steps within the budget, and the answer with the whole state.
use Rattle.std.specs.Prelude.{ℕ, zero, suc, ◌-◌, Bool, true, false, List, [], ◌∷◌, map, length, set, replicate, leb}
use Rattle.std.proofs.Math.Option.{Option, none, some}
use Rattle.std.specs.Int.{w32, w64}
use Rattle.std.proofs.Common.{to_z, of_z}
use Rattle.model.specs.Answer.{Answer, bad, ok, ◌>>=◌, ◌>>◌, guard, need, only_if, map_option, those}
use Rattle.model.specs.Tables.{most_objects, most_budget, Ty, int32, int64, F, null, class, Module, method_at, field_types, is_static_field, initialiser_of}
use Rattle.model.specs.Loading.{Refusal, refusal, load}
use Rattle.model.specs.Operators.{holds}
use Rattle.model.specs.Code.{and_then}
use Rattle.model.specs.State.{Value, vint32, vint64, zero_of, places, Frame, State, Machine, state_of, frames_gone, enter}
use Rattle.model.specs.Step.{Outcome, goes, ends, Allocator, lowest_free, step}

-- ---- Admission

-- arguments come as int64, in bits; an int32 parameter takes what its range holds
unfoldable pub admit_one : Ty → ℕ → Option Value
admit_one int32 a = only_if (holds w32 (to_z w64 a)) (some (vint32 (of_z w32 (to_z w64 a))))
admit_one int64 a = some (vint64 a)
admit_one F a = none
admit_one null a = none
admit_one (class c) a = none

unfoldable pub admit : List Ty → List ℕ → Option (List Value)
admit [] [] = some []
admit [] (a ∷ l) = none
admit (t ∷ ts) [] = none
admit (t ∷ ts) (a ∷ l) = and_then (admit_one t a) (λ v. map_option (λ vs. v ∷ vs) (admit ts l))

-- ---- The beginning

-- Object starts out initialised, and the entry's class is marked
unfoldable pub first_marks : Module → ℕ → List Bool
first_marks M c = set (set (replicate (length M.parents) false) 0 true) (c - 1) true

-- the entry's frame with its class's initialiser, if any, above it
unfoldable pub first_frames : Module → Frame → Option ℕ → Machine
first_frames M f none =
    record {
      top = f;
      below = [];
      statics = map zero_of (field_types (those is_static_field M.fields));
      marks = first_marks M (method_at M.methods M.entry).owner;
      heap = places most_objects;
    }
first_frames M f (some r) =
    record {
      top = enter r (method_at M.methods r) [];
      below = f ∷ [];
      statics = map zero_of (field_types (those is_static_field M.fields));
      marks = first_marks M (method_at M.methods M.entry).owner;
      heap = places most_objects;
    }

unfoldable pub first : Module → List Value → Machine
first M vs =
    let e = method_at M.methods M.entry in
    first_frames M (enter M.entry e vs) (initialiser_of M.methods e.owner)

-- ---- Steps within the budget

-- how a run ended: place, steps, value and the whole state
pub record Ended : Type 0 where
  pub ending : ℕ
  pub method : ℕ
  pub offset : ℕ
  pub steps : ℕ
  pub value : Option Value
  pub state : State

-- 31 to 46 give the running frame's method and offset, and the state reached
unfoldable pub halted : ℕ → ℕ → Machine → Ended
halted e n s = record { ending = e; method = s.top.method; offset = s.top.offset; steps = n; value = none; state = state_of s }

-- a run's 0 is placed at the entry's `ret`
unfoldable pub finished : ℕ → Option Value → Machine → Ended
finished n v s = record { ending = 0; method = s.top.method; offset = s.top.offset; steps = n; value = v; state = frames_gone s }

-- a step that ends a run otherwise than 0 changes no state and isn't counted
unfoldable pub after : (ℕ → Machine → Ended) → ℕ → Machine → Answer ℕ Outcome → Ended
after on n s (bad e) = halted e n s
after on n s (ok (goes t)) = on (suc n) t
after on n s (ok (ends v)) = finished (suc n) v s

-- at most `budget` more steps, n having been made: before each step a used budget gives 38
unfoldable pub steps : Allocator → Module → ℕ → ℕ → Machine → Ended
steps new M zero n s = halted 38 n s
steps new M (suc budget) n s = after (steps new M budget) n s (step new M s)

-- ---- The answer

-- 21 before 22, both after loading, at place 0
unfoldable pub run_module : Module → List ℕ → ℕ → Answer Refusal Ended
run_module M args budget = do
  vs ← need (admit (method_at M.methods M.entry).params args) (refusal 21 0)
  guard (leb budget most_budget) (refusal 22 0)
  ok (steps lowest_free M budget 0 (first M vs))

-- running loads first and passes a refusal on; it doesn't check
unfoldable pub run : List ℕ → List ℕ → List ℕ → ℕ → Answer Refusal Ended
run tables code args budget = do M ← load tables code; run_module M args budget
