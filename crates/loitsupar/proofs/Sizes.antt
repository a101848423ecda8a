-- Every run, checked or not, keeps to 32 frames and to the 256 places of its heap, and is placed where its running frame stands.
use Prim.Native.Nat.{ℕ, zero, suc, ◌≤◌, ◌<◌}
use mathlib.Core.Path.{◌≡◌, refl, ap, subst, ◌∙◌}
use mathlib.Core.Bool.{Bool}
use mathlib.Core.Option.{Option, none, some}
use mathlib.Core.List.{List, [], ◌∷◌}
use native.Mathlib.Omega.{arith}
use lib.ListN.{length, length-set, length-replicate}
use lib.Dec.{leb→le}
use Rattle.model.specs.Answer.{Answer, bad, ok}
use Rattle.model.specs.Tables.{Method, Module, initialiser_of}
use Rattle.model.specs.Code.{Plain, nop, pop, dup, ret, ldc, binary, unary, Jump, always, iftrue, iffalse, when, Act}
use Rattle.model.specs.State.{Value, Object, Heap, places, store, Frame, Machine, state_of, frames_gone}
use Rattle.model.specs.Step.{Outcome, goes, ends, Placed, place_at, lowest_free, with_top, move, move_with, push, start_by, starting, do_binary, do_unary, do_test}
use Rattle.model.specs.Step.{do_when, do_jump, do_push, do_dup, popping, do_starg, do_stloc, do_call, do_callvirt, do_newobj, return, do_ret, do_cast, do_ldfld, do_stfld}
use Rattle.model.specs.Step.{do_ldsfld, do_stsfld, do_plain, act, step}
use Rattle.model.specs.Run.{first_frames, first, Ended, halted, finished, after, steps, run_module, run}
use Rattle.model.proofs.Hoare.{Yields, ok_eq, bind_inv, need_inv, guard_inv, yields_ok, yields_then, yields_need, yields_guard, yields_pick}

pub record Sized (e : Ended) : Type 0 where
  pub few : length e.state.frames ≤ 32
  pub live : (e.ending ≡ 0 → ⊥) → 1 ≤ length e.state.frames
  pub places : length e.state.heap ≡ 256
  pub place : (f : Frame) (fs : List Frame) → e.state.frames ≡ f ∷ fs → (e.method ≡ f.method) × (e.offset ≡ f.offset)

-- a state with a running frame between two steps, and what a step comes to
record Steady (s : Machine) : Type 0 where
  few : length s.below < 32
  places : length s.heap ≡ 256

unfoldable Went : Outcome → Type 0
Went (goes s) = Steady s
Went (ends v) = Unit {0}

stored : (h : Heap) (n : ℕ) (o : Object) → length (store h n o) ≡ length h
unfolding store
stored h zero o = refl
stored h (suc n) o = length-set h n (some o)

placed : (h : Heap) (o : Object) (f : Option ℕ) (p : Placed) → place_at h o f ≡ some p → length p.heap ≡ length h
unfolding place_at
placed h o none p e = let z : ◌≡◌ {A = ℕ} 0 1 = cc in absurd (omega arith)
placed h o (some n) p e = let z : record { heap = store h n o; number = n } ≡ p = cc in subst (λ (q : Placed). length q.heap ≡ length h) z (stored h n o)

module _ (M : Module) (s : Machine) (z : Steady s) where
  abbrev Goes : Answer ℕ Outcome → Type 0
  Goes x = Yields Went x

  topped : (f : Frame) → Goes (ok (goes (with_top s f)))
  unfolding with_top Went
  topped f = yields_ok _ _ _ (record { few = z.few; places = z.places })

  moves : (o : ℕ) (k : List Value) → Goes (move s o k)
  unfolding move
  moves o k = topped _

  moves_with : (statics : List Value) (marks : List Bool) (h : Heap) (o : ℕ) (k : List Value) → length h ≡ length s.heap
      → Goes (move_with s statics marks h o k)
  unfolding move_with Went
  moves_with statics marks h o k e = yields_ok _ _ _ (record { few = z.few; places = e ∙ z.places })

  pushes : (marks : List Bool) (h : Heap) (k : List Value) (f : Frame) → length h ≡ length s.heap → Goes (push s marks h k f)
  unfolding push Went
  pushes marks h k f e = yields_guard _ _ _ _ λ t. yields_ok _ _ _ (record { few = leb→le _ _ t; places = e ∙ z.places })

  starts : (o : Option ℕ) (f : List Bool → Answer ℕ Outcome) → ((marks : List Bool) → Goes (f marks)) → Goes (starting M s o f)
  unfolding starting start_by
  starts none f h = h _
  starts (some c) f h = yields_pick _ _ _ _ (λ _. h _) (λ _. by (initialiser_of M.methods c))
    where
      by : (i : Option ℕ) → Goes (start_by M s c i f)
      by none = h _
      by (some r) = pushes _ _ _ _ refl

  returns : (m : Method) (vs : List Value) (fs : List Frame) → s.below ≡ fs → Goes (return s m vs fs)
  unfolding return Went
  returns m vs [] e = yields_ok _ _ _ tt
  returns m vs (f ∷ fs) e =
      let l = z.few in
      let k : length s.below ≡ suc (length fs) = rw e in
      yields_ok _ _ _ (record { few = omega arith; places = z.places })

  pushed : (m : Method) (v : Value) (next : ℕ) → Goes (do_push s m v next)
  unfolding do_push
  pushed m v next = yields_then _ _ _ λ _ _. moves _ _

  plain : (m : Method) (p : Plain) (next : ℕ) → Goes (do_plain M s m p next)
  unfolding do_plain do_dup do_ret do_binary do_unary
  plain m nop next = moves _ _
  plain m pop next = yields_then _ _ _ λ _ _. moves _ _
  plain m dup next = yields_then _ _ _ λ _ _. pushed m _ next
  plain m ret next = yields_then _ _ _ λ _ _. yields_then _ _ _ λ _ _. returns m _ _ refl
  plain m (ldc t n) next = pushed m _ next
  plain m (binary o) next = yields_then _ _ _ λ _ _. yields_then _ _ _ λ _ _. yields_then _ _ _ λ _ _. moves _ _
  plain m (unary o) next = yields_then _ _ _ λ _ _. yields_then _ _ _ λ _ _. moves _ _

  jumps : (j : Jump) (target next : ℕ) → Goes (do_jump s j target next)
  unfolding do_jump do_test do_when
  jumps always target next = moves _ _
  jumps iftrue target next = yields_then _ _ _ λ _ _. yields_then _ _ _ λ _ _. moves _ _
  jumps iffalse target next = yields_then _ _ _ λ _ _. yields_then _ _ _ λ _ _. moves _ _
  jumps (when r) target next = yields_then _ _ _ λ _ _. yields_then _ _ _ λ _ _. moves _ _

  casts : (c : ℕ) (miss : Answer ℕ Value) (next : ℕ) → Goes (do_cast M s c miss next)
  unfolding do_cast
  casts c miss next = yields_then _ _ _ λ _ _. yields_then _ _ _ λ _ _. yields_then _ _ _ λ _ _. moves _ _

  acts : (m : Method) (a : Act) (next : ℕ) → Goes (act lowest_free M s m a next)
  unfolding act popping do_starg do_stloc do_call do_callvirt do_newobj do_ldfld do_stfld do_ldsfld do_stsfld lowest_free
  acts m (Act.plain p) next = plain m p next
  acts m (Act.ldarg i t) next = pushed m _ next
  acts m (Act.starg i t) next = yields_then _ _ _ λ _ _. topped _
  acts m (Act.ldloc i t) next = pushed m _ next
  acts m (Act.stloc i t) next = yields_then _ _ _ λ _ _. topped _
  acts m (Act.jump j target) next = jumps j target next
  acts m (Act.call r k) next = yields_then _ _ _ λ _ _. yields_then _ _ _ λ _ _. starts _ _ λ _. pushes _ _ _ _ refl
  acts m (Act.callvirt r k) next =
      yields_then _ _ _ λ _ _. yields_then _ _ _ λ _ _. yields_then _ _ _ λ _ _. starts _ _ λ _. pushes _ _ _ _ refl
  acts m (Act.newobj r k) next =
      yields_then _ _ _ λ _ _. yields_then _ _ _ λ _ _. starts _ _ λ _. yields_need _ _ _ _ λ p e. pushes _ _ _ _ (placed _ _ _ p e)
  acts m (Act.castclass c) next = casts c _ next
  acts m (Act.isinst c) next = casts c _ next
  acts m (Act.ldfld r d) next = yields_then _ _ _ λ _ _. starts _ _ λ _. yields_then _ _ _ λ _ _. moves_with _ _ _ _ _ refl
  acts m (Act.stfld r d) next = yields_then _ _ _ λ _ _. starts _ _ λ _. yields_then _ _ _ λ _ _. moves_with _ _ _ _ _ (stored _ _ _)
  acts m (Act.ldsfld r d) next = yields_then _ _ _ λ _ _. starts _ _ λ _. moves_with _ _ _ _ _ refl
  acts m (Act.stsfld r d) next = yields_then _ _ _ λ _ _. starts _ _ λ _. moves_with _ _ _ _ _ refl

  goes_steady : Goes (step lowest_free M s)
  unfolding step
  goes_steady = yields_then _ _ _ λ _ _. yields_then _ _ _ λ _ _. yields_then _ _ _ λ a _. acts _ a _

-- ---- A run

module _ (M : Module) where
  halts : (k n : ℕ) (s : Machine) → Steady s → Sized (halted k n s)
  unfolding halted state_of
  halts k n s z =
      record {
        few = let l = z.few in omega arith;
        live = λ n. omega arith;
        places = z.places;
        place = λ f fs e. let q : s.top ≡ f = cc in (ap (λ (x : Frame). x.method) q, ap (λ (x : Frame). x.offset) q);
      }

  finishes : (n : ℕ) (v : Option Value) (s : Machine) → Steady s → Sized (finished n v s)
  unfolding finished frames_gone
  finishes n v s z =
      record {
        few = omega arith;
        live = λ n. absurd (n refl);
        places = z.places;
        place = λ f fs e. let q : ◌≡◌ {A = ℕ} 0 1 = cc in absurd (omega arith);
      }

  ended : (f : ℕ → Machine → Ended) → ((n : ℕ) (s : Machine) → Steady s → Sized (f n s)) → (n : ℕ) (s : Machine) → Steady s
      → (o : Answer ℕ Outcome) → Yields Went o → Sized (after f n s o)
  unfolding after Yields Went
  ended f h n s z (bad e) w = halts e n s z
  ended f h n s z (ok (goes t)) w = h (suc n) t w
  ended f h n s z (ok (ends v)) w = finishes (suc n) v s z

  runs : (budget n : ℕ) (s : Machine) → Steady s → Sized (steps lowest_free M budget n s)
  unfolding steps
  runs zero n s z = halts 38 n s z
  runs (suc budget) n s z = ended (steps lowest_free M budget) (runs budget) n s z (step lowest_free M s) (goes_steady M s z)

  begins : (f : Frame) (o : Option ℕ) → Steady (first_frames M f o)
  unfolding first_frames places
  begins f none = record { few = omega arith; places = length-replicate {A = Option Object} 256 none }
  begins f (some r) = record { few = omega arith; places = length-replicate {A = Option Object} 256 none }

-- whatever the tables, code, arguments and budget
pub run_sized : (tables code arguments : List ℕ) (budget : ℕ) (e : Ended) → run tables code arguments budget ≡ ok e → Sized e
unfolding run run_module first
run_sized tables code arguments budget e r =
    let (M, _, r1) = bind_inv _ _ _ r in
    let (vs, _, r2) = need_inv _ _ _ _ r1 in
    let (_, r3) = guard_inv _ _ _ _ r2 in
    subst Sized (ok_eq r3) (runs M budget 0 (first M vs) (begins M _ _))
