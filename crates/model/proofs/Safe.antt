-- A module that loads and passes the check never gets stuck, and the state that its run hands back is as the check found it.
use mathlib.Core.Path.{◌≡◌, refl, sym, ◌∙◌, subst}
use Prim.Native.Nat.{ℕ, zero, suc}
use native.Mathlib.Omega.{arith}
use mathlib.Core.Option.{Option, none, some}
use mathlib.Core.List.{List, [], ◌∷◌}
use lib.ListN.{length}
use Rattle.model.specs.Answer.{Answer, bad, ok, row}
use Rattle.model.specs.Tables.{most_objects, static, Method, Module, method_at, this_of, arguments, initialiser_of}
use Rattle.model.specs.Loading.{load}
use Rattle.model.specs.State.{Value, Heap, places, Frame, Machine, enter}
use Rattle.model.specs.Step.{Outcome, goes, ends, Allocator, lowest_free, step}
use Rattle.model.specs.Run.{admit, first_frames, first, Ended, halted, finished, after, steps, run_module, run}
use Rattle.model.specs.Check.{Shape, Shapes, check_module, check, found_at, shape_found}
use Rattle.model.proofs.Hoare.{NotStuck, Holds, ok_eq, bind_inv, need_inv, guard_inv, blame_inv}
use Rattle.model.proofs.Ancestors.{Falls}
use Rattle.model.proofs.Certificate.{Certificate, certificates}
use Rattle.model.proofs.Typing.{Fit, fnil, fit_length, fit_zero, places_fit, Grows, lowest_free_grows, admitted}
use Rattle.model.proofs.Loaded.{Loaded, loaded}
use Rattle.model.proofs.Members.{sort_eq, initialiser_is}
use Rattle.model.proofs.Told.{tells}
use Rattle.model.proofs.States.{Fine, on, end, Stands, alone, started, Standing, gone, running, AsFound, Good, good_found, gone_found, runs}
use Rattle.model.proofs.Steps.{entered, step_ok}

-- ---- What is claimed

-- the check found a shape where a frame stands, its stack has that depth, and each value fits the type found there
pub record StackFound (M : Module) (found : List Shapes) (h : Heap) (f : Frame) : Type 0 where
  pub shape : Shape
  pub finds : found_at found f.method f.offset ≡ some shape
  pub depth : length f.stack ≡ length shape
  pub fits : Fit M h f.stack shape

-- an end of a run that is not stuck, in a state as the check found it
pub record Safe (M : Module) (found : List Shapes) (e : Ended) : Type 0 where
  pub ending : NotStuck e.ending
  pub state : AsFound M found e.state
  pub stack : (f : Frame) (fs : List Frame) → e.state.frames ≡ f ∷ fs → StackFound M found e.state.heap f

pub stands_found : (M : Module) (found : List Shapes) → Falls M.parents → (h : Heap) (f : Frame) → Stands M found h f.offset [] f
    → StackFound M found h f
stands_found M found w h f p = let q = runs M found w p in record { shape = p.shape; finds = p.finds; depth = fit_length q; fits = q }

frames_found : (M : Module) (found : List Shapes) → Falls M.parents → (h : Heap) {l : List Frame} → Standing M found h l → (f : Frame) (fs : List Frame)
    → l ≡ f ∷ fs → StackFound M found h f
frames_found M found w h gone f fs e = let z : ◌≡◌ {A = ℕ} 0 1 = cc in absurd (omega arith)
frames_found M found w h (running {f = g} p ps) f fs e = let z : g ≡ f = cc in subst (λ (x : Frame). StackFound M found h x) z (stands_found M found w h g p)

safe_in : (M : Module) (found : List Shapes) → Falls M.parents → (e : Ended) → NotStuck e.ending → AsFound M found e.state → Safe M found e
safe_in M found w e n k = record { ending = n; state = k; stack = λ f fs q. frames_found M found w _ k.frames f fs q }

-- ---- For any allocator that grows the heap

module _ (code : List ℕ) (M : Module) (L : Loaded code M) (found : List Shapes) (c : check_module M ≡ ok found) where
  pub certified : (r : ℕ) (m : Method) → row M.methods r ≡ some m → Certificate M m (found_at found r)
  certified = certificates M found (λ r m e. (L.method r m e).bytes.least) c

  after_safe : (f : ℕ → Machine → Ended) → ((n : ℕ) (s : Machine) → Good M found s → Safe M found (f n s)) → (n : ℕ) (s : Machine) → Good M found s
      → (o : Answer ℕ Outcome) → Holds (Fine M found) o → Safe M found (after f n s o)
  unfolding after halted finished Holds NotStuck
  after_safe f h n s k (bad e) q = safe_in M found L.falls _ q (good_found M found k)
  after_safe f h n s k (ok (goes t)) (on q) = h (suc n) t q
  after_safe f h n s k (ok (ends v)) end = safe_in M found L.falls _ (omega arith) (gone_found M found k)

  -- a run from a state as found, for any budget
  pub steps_safe : (new : Allocator) → Grows new → (budget n : ℕ) (s : Machine) → Good M found s → Safe M found (steps new M budget n s)
  unfolding steps halted NotStuck
  steps_safe new G zero n s k = safe_in M found L.falls _ (omega arith) (good_found M found k)
  steps_safe new G (suc budget) n s k =
      after_safe (steps new M budget) (steps_safe new G budget) n s k (step new M s) (step_ok code M L found certified s k new G)

  first_frames_lem : (f : Frame) (c : ℕ) → Stands M found (places most_objects) f.offset [] f → (o : Option ℕ) → initialiser_of M.methods c ≡ o
      → Good M found (first_frames M f o)
  unfolding first_frames enter
  first_frames_lem f c p none e = record { heap = places_fit M most_objects; statics = fit_zero M L.falls _ _; top = p; waiting = alone }
  first_frames_lem f c p (some r) e =
      let i = initialiser_is code M L c r e in
      record {
        heap = places_fit M most_objects;
        statics = fit_zero M L.falls _ _;
        waiting = started i.sort p alone;
        top = entered code M L found certified (places most_objects) r _ i.is [] (rw i.args fnil);
      }

  entry_arguments : arguments (method_at M.methods M.entry) ≡ (method_at M.methods M.entry).params
  unfolding arguments this_of
  entry_arguments = rw (sort_eq (method_at M.methods M.entry).sort static L.entry.is_static)

  -- the beginning is as found
  pub first_good : (args : List ℕ) (vs : List Value) → admit (method_at M.methods M.entry).params args ≡ some vs → Good M found (first M vs)
  unfolding first enter
  first_good args vs e =
      first_frames_lem _ _ (entered code M L found certified (places most_objects) M.entry _ L.entry.is vs
      (rw entry_arguments (admitted M L.falls (places most_objects) _ args vs e))) _ refl

-- ---- A whole run

-- no run of a module that loads and passes ends 41 to 46, and the state that it hands back is as the check found it
pub safe : (tables code : List ℕ) (M : Module) (found : List Shapes) (args : List ℕ) (budget : ℕ) (e : Ended)
    → load tables code ≡ ok M → check_module M ≡ ok found → run_module M args budget ≡ ok e → Safe M found e
unfolding run_module
safe tables code M found args budget e l c r =
    let L = loaded tables code M l in
    let (vs, e1, e2) = need_inv _ _ _ _ r in
    let (_, e3) = guard_inv _ _ _ _ e2 in
    subst (λ (x : Ended). Safe M found x) (ok_eq e3)
    (steps_safe code M L found c lowest_free lowest_free_grows budget 0 (first M vs) (first_good code M L found c args vs e1))

-- ---- Of `check` and `run` alone

-- a run of a module that the check found right
pub record SafeRun (tables code : List ℕ) (found : List Shapes) (e : Ended) : Type 0 where
  pub model : Module
  pub loads : load tables code ≡ ok model
  pub safe : Safe model found e

pub safe_run : (tables code : List ℕ) (found : List Shapes) (args : List ℕ) (budget : ℕ) (e : Ended) → check tables code ≡ ok found
    → run tables code args budget ≡ ok e → SafeRun tables code found e
unfolding check run
safe_run tables code found args budget e c r =
    let (M, c1, c2) = bind_inv _ _ _ c in
    let (N, r1, r2) = bind_inv _ _ _ r in
    let l : load tables code ≡ ok M = blame_inv _ _ _ c1 in
    let z : N ≡ M = ok_eq (sym r1 ∙ l) in
    record { model = M; loads = l; safe = safe tables code M found args budget e l c2 (subst (λ (x : Module). run_module x args budget ≡ ok e) z r2) }

-- the running frame of a state handed back: `shape_found` tells a shape for its method and offset, its stack has that depth, and each value fits
pub record AsTold (tables code : List ℕ) (e : Ended) (f : Frame) : Type 0 where
  pub model : Module
  pub loads : load tables code ≡ ok model
  pub shape : Shape
  pub tells : shape_found tables code f.method f.offset ≡ ok (some shape)
  pub depth : length f.stack ≡ length shape
  pub fits : Fit model e.state.heap f.stack shape

pub handed_back : (tables code : List ℕ) (found : List Shapes) (args : List ℕ) (budget : ℕ) (e : Ended) → check tables code ≡ ok found
    → run tables code args budget ≡ ok e → (f : Frame) (fs : List Frame) → e.state.frames ≡ f ∷ fs → AsTold tables code e f
handed_back tables code found args budget e c r f fs q =
    let k = safe_run tables code found args budget e c r in
    let s = k.safe.stack f fs q in
    record { model = k.model; loads = k.loads; shape = s.shape; tells = tells tables code found c _ _ _ s.finds; depth = s.depth; fits = s.fits }
