-- The answers over tables and code from what loading says, and what the check and the run of the module say.
use Prim.Native.Nat.{ℕ, ◌≤◌, ◌<◌}
use mathlib.Core.Path.{◌≡◌, refl, sym, ap, ◌∙◌}
use Rattle.std.specs.Prelude.{Option, Result, Ok, Err, ⊤}
use mathlib.Core.List.{List}
use Rattle.model.specs.Answer.{Answer, bad, ok, ◌>>=◌, blame}
use Rattle.model.specs.Tables.{Module}
use Rattle.model.specs.Loading.{Refusal, load}
use Rattle.model.specs.Check.{Shapes, Fault as ModelFault, fault_in, check_module, check, found_at, shape_found}
use Rattle.model.specs.Run.{run_module, run}
use Rattle.model.proofs.Certificate.{check_module_lem}
use Rattle.loaded.specs.Holds.{Holds, nothing}
use Rattle.loaded.specs.declared.Fault.{Fault}
use Rattle.loaded.specs.declared.Loaded.{Loaded}
use Rattle.loader.specs.Answers.{Answers}
use Rattle.loader.specs.Refusals.{fault_of}
use Rattle.state.specs.Order.{Fine}
use Rattle.faithful.proofs.Constants.{Bytes}
use Rattle.faithful.proofs.Loads.{fine}
use Rattle.checker.specs.Bounded.{Bounded}
use Rattle.checker.specs.Answers as Checks
use Rattle.checker.specs.Told.{told}
use Rattle.checker.specs.declared.tell.Found.{Found}
use Rattle.runner.specs.Answers.{Loads, refused_by}
use Rattle.runner.specs.Answers as Ran
use Rattle.runner.specs.declared.Ended.{Ended}
use Rattle.loitsupar.specs.Public.{checked, told_of}
use Rattle.loitsupar.proofs.Bounds.{bounded}

-- the model's refusal, whose number and place the fault has
pub record Refused (tables code : List ℕ) (a : Fault) : Type 0 where
  pub refusal_is : Refusal
  pub refuses : load tables code ≡ bad refusal_is
  pub same : a ≡ fault_of refusal_is

-- the model's module, which was loaded
pub record Stands (tables code : List ℕ) (L : Loaded) : Type 0 where
  pub module_is : Module
  pub loads : load tables code ≡ ok module_is
  pub holds : Holds module_is code L

-- what loading says of its answer and of the module that it fills
abbrev pub Says : List ℕ → List ℕ → Result ⊤ Fault → Loaded → Type 0
Says tables code r L = Answers (load tables code) r (L ≡ nothing) (λ u M. Holds M code L)

module _ {tables code : List ℕ} where
  -- a fault of loading is the model's refusal
  pub refused : (L : Loaded) (a : Fault) → Says tables code (Err a) L → Refused tables code a
  unfolding Answers
  refused L a says = go (load tables code) refl says
    where
      go : (A : Answer Refusal Module) → load tables code ≡ A → Answers A (Err a) (L ≡ nothing) (λ (u : ⊤) M. Holds M code L) → Refused tables code a
      go (bad f) q s = record { refusal_is = f; refuses = q; same = s.0 }
      go (ok M) q s = absurd s

  -- behind what is loaded stands a module
  pub stands : (L : Loaded) → Says tables code (Ok tt) L → Stands tables code L
  unfolding Answers
  stands L says = go (load tables code) refl says
    where
      go : (A : Answer Refusal Module) → load tables code ≡ A → Answers A (Ok tt) (L ≡ nothing) (λ (u : ⊤) M. Holds M code L) → Stands tables code L
      go (bad f) q s = absurd s
      go (ok M) q s = record { module_is = M; loads = q; holds = s }

module _ {tables code : List ℕ} {a : Fault} (r : Refused tables code a) where
  -- a refusal is passed on by the check
  pub not_checked : Err a ≡ checked (check tables code)
  unfolding check checked blame ◌>>=◌ fault_in Checks.fault_of
  not_checked = ap Err r.same ∙ sym (rw r.refuses)

  -- and by the run
  pub not_run : (arguments : List ℕ) (budget : ℕ) (x : Ended) → x ≡ refused_by (record { number = a.number; place = a.offset })
      → Ran.Answers (run tables code arguments budget) x
  unfolding run ◌>>=◌ Ran.Answers
  not_run arguments budget x e = rw r.refuses (e ∙ ap (λ (f : Fault). refused_by (record { number = f.number; place = f.offset })) r.same)

module _ {tables code : List ℕ} {L : Loaded} (s : Stands tables code L) where
  -- a loaded module's check is the answer
  pub checks : (x : Result ⊤ Fault) → ((M : Module) → Bounded M → Holds M code L → Checks.Answers (check_module M) x) → Checks.Answers (check tables code) x
  unfolding check blame ◌>>=◌
  checks x h = rw s.loads (h s.module_is (bounded tables code s.module_is s.loads) s.holds)

  -- a loaded module can be run, and its run is the answer
  pub ready : Bytes code → Loads code L
  ready b = record { module_is = s.module_is; fine = fine tables code s.module_is b s.loads; holds = s.holds }

  pub runs : Bytes code → (arguments : List ℕ) (budget : ℕ) (x : Ended)
      → ((M : Module) → Fine M → Holds M code L → Ran.Answers (run_module M arguments budget) x)
      → Ran.Answers (run tables code arguments budget) x
  unfolding run ◌>>=◌
  runs b arguments budget x h = rw s.loads (h s.module_is (fine tables code s.module_is b s.loads) s.holds)

-- ---- What the check's answer says

module _ (tables code : List ℕ) where
  -- the check's answer is the first fault, or none
  pub is_checked : (x : Result ⊤ Fault) → Checks.Answers (check tables code) x → x ≡ checked (check tables code)
  unfolding checked Checks.Answers
  is_checked x says = go (check tables code) says
    where
      go : (A : Answer ModelFault (List Shapes)) → Checks.Answers A x → x ≡ checked A
      go (bad f) h = h.0
      go (ok found) h = h

  -- behind a fault nothing is found
  pub not_told : (a : Fault) → Err a ≡ checked (check tables code) → (row offset : ℕ) → Err a ≡ told_of (shape_found tables code row offset)
  unfolding shape_found told_of checked ◌>>=◌
  not_told a e row offset = go (check tables code) e
    where
      go : (A : Answer ModelFault (List Shapes)) → Err a ≡ checked A → Err a ≡ told_of (A >>= λ found. ok (found_at found row offset))
      go (bad f) h = cc
      go (ok found) h = absurd cc

  -- behind none the shape is told that the check of the loaded module found
  pub tells : {L : Loaded} → Stands tables code L → Checks.Answers (check tables code) (Ok tt) → (row offset : ℕ) (f : Option Found)
      → ((M : Module) (found : List Shapes) → Bounded M → Holds M code L → check_module M ≡ ok found → f ≡ told (found_at found row offset))
      → Ok f ≡ told_of (shape_found tables code row offset)
  unfolding shape_found told_of Checks.Answers ◌>>=◌
  tells {L} s says row offset f h = go (check tables code) refl says
    where
      go : (A : Answer ModelFault (List Shapes)) → check tables code ≡ A → Checks.Answers A (Ok tt)
          → Ok f ≡ told_of (A >>= λ found. ok (found_at found row offset))
      go (bad g) q k = let z : ◌≡◌ {A = Result ⊤ Fault} (Ok tt) (Err (Checks.fault_of g)) = k.0 in absurd cc
      go (ok found) q k =
          let M = s.module_is in
          let same = h M found (bounded tables code M s.loads) s.holds (check_module_lem tables code M found s.loads q) in
          ap Ok same
