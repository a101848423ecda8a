-- What the public `check`, `run` and `tell` say together of one module (document 01, demand 3).
use Prim.Native.Nat.{ℕ, suc, ◌≤◌}
use mathlib.Core.Path.{◌≡◌, refl, sym, ap, ◌∙◌, subst}
use mathlib.Core.Option.{some}
use mathlib.Core.List.{List, [], ◌∷◌}
use native.Mathlib.Omega.{arith}
use lib.ListN.{length}
use borrow.Author.Tests.{le-leb}
use Rattle.model.specs.Answer.{Answer, bad, ok, ◌>>=◌, guard, need, row}
use Rattle.model.specs.Tables.{most_budget, Method, Module, method_at}
use Rattle.model.specs.Loading.{Refusal, load}
use Rattle.model.specs.Check.{Shape, Shapes, Fault as ModelFault, check, found_at, shape_found}
use Rattle.model.specs.State.{Value, Heap, Frame, Machine}
use Rattle.model.specs.Step.{lowest_free, step}
use Rattle.model.specs.Run.{admit, first, Ended as ModelEnded, halted, run_module, run}
use Rattle.model.proofs.Hoare.{NotStuck}
use Rattle.model.proofs.Loaded.{loaded}
use Rattle.model.proofs.Certificate.{check_module_lem}
use Rattle.model.proofs.States.{AsFound, Standing, gone, running}
use Rattle.model.proofs.Told.{tells}
use Rattle.model.proofs.Safe.{Safe as ModelSafe, safe_run}
use Rattle.model.proofs.Budget.{within_budget, most_steps, used_up}
use Rattle.model.proofs.EachStep.{Passes, passed, before_each_step}
use Rattle.loaded.specs.declared.Fault.{Fault}
use Rattle.state.specs.Layout.{lay_out}
use Rattle.checker.specs.Answers.{fault_of}
use Rattle.checker.proofs.Deep.{found_low}
use Rattle.checker.proofs.Telling.{method_found, method_passed}
use Rattle.runner.specs.Answers.{Answers, told, refused_by}
use Rattle.runner.specs.declared.Ended.{Ended}
use Rattle.loitsupar.specs.Public.{checked, told_of, numbered}
use Rattle.checker.specs.declared.tell.Found.{Found}
use Rattle.std.specs.Prelude.{Option, Result, ⊤}
use Rattle.loitsupar.proofs.Bounds.{bounded}
use Rattle.loitsupar.proofs.Numbers.{fault_numbered, refusal_numbered}
use Rattle.loitsupar.proofs.Sizes.{Sized, run_sized}
use Rattle.loitsupar.proofs.InArrays.{StackTold, stack_told}

-- ---- What is claimed

-- nothing was run: 1 to 7 are loading's numbers, 21 and 22 those of arguments and budget
abbrev pub Refused : Ended → Type 0
Refused r = (1 ≤ r.end.number) × (r.end.number ≤ 22)

-- a run of a module that the check passed, as it is handed back
pub record Safe (tables code : List ℕ) (budget : ℕ) (r : Ended) : Type 0 where
  -- none of 41 to 46
  pub not_stuck : r.end.number ≤ 40
  pub in_budget : r.steps ≤ budget
  pub budget_used : r.end.number ≡ 38 → r.steps ≡ budget
  -- unless it finished, a frame is running
  pub live : (r.end.number ≡ 0 → ⊥) → 1 ≤ r.state.live
  pub model : Module
  pub loads : load tables code ≡ ok model
  -- its stack has the depth, and its cells the types and classes, that `tell` answers for the method and offset of the end
  pub stack : (k : ℕ) → r.state.live ≡ suc k → (t : Result (Option Found) Fault) → t ≡ told_of (shape_found tables code r.end.method r.end.offset)
      → StackTold model.parents k r.state t
  -- the whole state is that of the model's run: every frame, static field and object fits what is declared and what the check found
  pub ended : ModelEnded
  pub same : r ≡ told ended
  pub found : List Shapes
  pub finds : check tables code ≡ ok found
  pub state : AsFound model found ended.state

-- the state that a run comes to after k steps: with a budget of k it is handed back, and the step to come does not get stuck
pub record StepSafe (tables code : List ℕ) (M : Module) (k : ℕ) (s : Machine) (r : Ended) : Type 0 where
  pub handed_back : r ≡ told (halted 38 k s)
  pub safe : Safe tables code k r
  pub goes_on : (e : ℕ) → step lowest_free M s ≡ bad e → e ≤ 40

-- ---- The running frame

module _ (tables code : List ℕ) (M : Module) (found : List Shapes) (loads : load tables code ≡ ok M) (finds : check tables code ≡ ok found) where
  -- a shape found has 32 types at most
  few_types : (r o : ℕ) (m : Method) → row M.methods r ≡ some m → (S : Shape) → found_at found r o ≡ some S → length S ≤ 32
  few_types r o m q S e =
      let k = check_module_lem tables code M found loads finds in
      let (F, p) = method_passed M found k r m q in
      let low = found_low M m F p o S (sym (method_found M found k r m F q p o) ∙ e) in
      let most = (bounded tables code M loads).stack r m q in
      omega arith

  there : {h : Heap} {l : List Frame} → Standing M found h l → (f : Frame) (fs : List Frame) → l ≡ f ∷ fs
      → row M.methods f.method ≡ some (method_at M.methods f.method)
  there gone f fs e = let z : ◌≡◌ {A = ℕ} 0 1 = cc in absurd (omega arith)
  there (running {f = g} p ps) f fs e =
      let z : g ≡ f = cc in
      subst (λ (x : Frame). row M.methods x.method ≡ some (method_at M.methods x.method)) z p.is

  running_told : (e : ModelEnded) → ModelSafe M found e → Sized e → (l : List Frame) → e.state.frames ≡ l → (k : ℕ) → length l ≡ suc k
      → StackTold M.parents k (lay_out e.state) (told_of (shape_found tables code e.method e.offset))
  unfolding told_of
  running_told e S z [] q k n = absurd (omega arith)
  running_told e S z (f ∷ fs) q k n =
      let F = S.stack f fs q in
      let h : shape_found tables code f.method f.offset ≡ ok (some F.shape) = tells tables code found finds _ _ _ F.finds in
      let few = few_types f.method f.offset _ (there S.state.frames f fs q) F.shape F.finds in
      let i : k ≡ length fs = omega arith in
      rw ((z.place f fs q).0, (z.place f fs q).1, h, i)
      (stack_told M (loaded tables code M loads).falls e.state S.state.heap z.places f fs q z.few F.shape F.fits few)

-- ---- Check and run

safely : (tables code arguments : List ℕ) (budget : ℕ) (found : List Shapes) (e : ModelEnded) (r : Ended) → check tables code ≡ ok found
    → run tables code arguments budget ≡ ok e → r ≡ told e → Safe tables code budget r
unfolding told lay_out NotStuck
safely tables code arguments budget found e r c q same =
    let s = safe_run tables code found arguments budget e c q in
    let w = within_budget tables code arguments budget e q in
    let z = run_sized tables code arguments budget e q in
    record {
      not_stuck = rw same s.safe.ending;
      in_budget = rw same (most_steps w);
      budget_used = rw same (used_up w);
      live = rw same z.live;
      model = s.model;
      loads = s.loads;
      stack = rw same (λ k n t h. rw h (running_told tables code s.model found s.loads c e s.safe z e.state.frames refl k n));
      ended = e;
      same = same;
      found = found;
      finds = c;
      state = s.safe.state;
    }

-- with a budget of k, admitted, a run that makes k steps is stopped after them
stopped : (tables code arguments : List ℕ) (k : ℕ) (M : Module) (vs : List Value) (s : Machine) → k ≤ most_budget → load tables code ≡ ok M
    → admit (method_at M.methods M.entry).params arguments ≡ some vs → Passes M (first M vs) k s → run tables code arguments k ≡ ok (halted 38 k s)
unfolding run run_module ◌>>=◌ need guard
stopped tables code arguments k M vs s few l a p = rw (l, a, le-leb k most_budget few, passed k p)

module _ (tables code arguments : List ℕ) (budget : ℕ) (f : Result ⊤ Fault) (r : Ended) (checks : f ≡ checked (check tables code))
    (runs : Answers (run tables code arguments budget) r) (passes : (numbered f).number ≡ 0) where
  -- the check found shapes
  shapes : (found : List Shapes) × (check tables code ≡ ok found)
  unfolding checked fault_of numbered
  shapes = go (check tables code) refl checks
    where
      go : (A : Answer ModelFault (List Shapes)) → check tables code ≡ A → f ≡ checked A → (found : List Shapes) × (check tables code ≡ ok found)
      go (bad g) e q =
          let low = fault_numbered tables code g e in
          let z : g.number ≡ 0 = sym (ap (λ (x : Result ⊤ Fault). (numbered x).number) q) ∙ passes in
          absurd (omega arith)
      go (ok found) e q = (found, e)

  -- the run was refused, or made
  by : {X : Type 0} → (Refused r → X) → ((e : ModelEnded) → run tables code arguments budget ≡ ok e → r ≡ told e → X) → X
  unfolding Answers refused_by
  by {X} if-refused if-made = go (run tables code arguments budget) refl runs
    where
      go : (A : Answer Refusal ModelEnded) → run tables code arguments budget ≡ A → Answers A r → X
      go (bad g) e q = if-refused (rw q (refusal_numbered tables code arguments budget g e))
      go (ok e) q t = if-made e q t.exact

  made : (e : ModelEnded) → run tables code arguments budget ≡ ok e → r ≡ told e → Safe tables code budget r
  made e q t = safely tables code arguments budget shapes.0 e r shapes.1 q t

  -- Whatever the tables, code, arguments and budget: where `check` passes and `run` does not refuse, the run is safe.
  pub checked_runs_safely : (Refused r → ⊥) → Safe tables code budget r
  checked_runs_safely n = by (λ h. absurd (n h)) made

  -- where `check` passes, `run` ends otherwise than 41 to 46
  pub checked_never_stuck : 41 ≤ r.end.number → r.end.number ≤ 46 → ⊥
  checked_never_stuck low high = by (λ h. omega arith) λ e q t. let s = (made e q t).not_stuck in omega arith

  -- and so before each step that it makes
  pub checked_each_step : budget ≤ most_budget → (M : Module) (vs : List Value) (s : Machine) → load tables code ≡ ok M
      → admit (method_at M.methods M.entry).params arguments ≡ some vs → Passes M (first M vs) budget s → StepSafe tables code M budget s r
  unfolding Answers NotStuck
  checked_each_step few M vs s l a p =
      let q = stopped tables code arguments budget M vs s few l a p in
      let t = rw q at runs in
      record {
        handed_back = t.exact;
        safe = made _ q t.exact;
        goes_on = (before_each_step tables code M shapes.0 arguments vs s l shapes.1 a p).step;
      }
