-- The state that a run ends with keeps to its module, so its text is the model's.
use Prim.Native.Nat.{ℕ, zero, suc, ◌+◌, ◌*◌, ◌%◌, ◌≤◌, ◌<◌}
use mathlib.Core.Path.{◌≡◌, refl, sym, ap, ◌∙◌, subst}
use mathlib.Core.Bool.{Bool, true, false}
use mathlib.Core.Logic.{◌⊎◌, inl, inr}
use mathlib.Core.Option.{none, some}
use mathlib.Core.List.{List, [], ◌∷◌}
use native.Mathlib.Omega.{arith}
use native.Mathlib.Nat.{mod-mod, mul-add-mod_self_right}
use lib.ListN.{length, get_or}
use lib.Dec.{ltb, eqb}
use borrow.Author.Tests.{eqb-false}
use Rattle.model.specs.Answer.{pick, map_option, at}
use Rattle.model.specs.Tables.{Ty, Module, method_at}
use Rattle.model.specs.State.{Value, Frame, Object, state_of, frames_gone}
use Rattle.model.specs.State as Model
use Rattle.model.specs.Step.{lowest_free}
use Rattle.model.specs.Run.{Ended, admit, first, steps}
use Rattle.model.specs.Replay.{state_text}
use Rattle.loaded.specs.Holds.{Holds}
use Rattle.loaded.specs.declared.Loaded.{Loaded}
use Rattle.state.specs.declared.State.{State}
use Rattle.state.specs.View.{Work, down, kind_of_type, refer_to, value_by, seen, cell, frame_at, height_of, top_of, running_of, waits_of, types_of, place_in, heap_of, marks_of, mark_in, view}
use Rattle.state.specs.Order.{Fine, tables_of, HoldsMade, HoldsTypes, Good}
use Rattle.state.specs.Work.{run_w, state_seen, ended}
use Rattle.state.specs.Layout.{bottom, signed32, cell_in, kind_in, lay_out, first_w}
use Rattle.line.specs.Append.{Appended}
use Rattle.faithful.proofs.Lists.{le_or_lt, length_down, length_span}
use Rattle.faithful.proofs.Seen.{at_seen, length_seen, place_seen}
use Rattle.faithful.proofs.Frames.{saved, top_is}
use Rattle.faithful.proofs.Begins.{first_good}
use Rattle.faithful.proofs.Ends.{run_final}
use Rattle.faithful.proofs.Admits.{whole_run}
use Rattle.state_text.specs.Texts.{Told}
use Rattle.state_text.specs.Keeps.{Typed, FrameKeeps, ObjectKeeps, Keeps}

positive : (n : ℕ) → (n ≡ 0 → ⊥) → 0 < n
positive zero h = absurd (h refl)
positive (suc n) h = omega arith

-- ---- Values

-- the sign of an int32 does not count
low_signed : (b : ℕ) → signed32 b % 4294967296 ≡ b % 4294967296
unfolding signed32 pick
low_signed b = go (ltb (b % 4294967296) 2147483648) where
  go : (x : Bool) → pick x (b % 4294967296) (b % 4294967296 + 18446744069414584320) % 4294967296 ≡ b % 4294967296
  go true = mod-mod b 4294967296
  go false =
      let e : b % 4294967296 + 18446744069414584320 ≡ 4294967295 * 4294967296 + b % 4294967296 = omega arith in
      ap (λ (n : ℕ). n % 4294967296) e ∙ mul-add-mod_self_right 4294967295 4294967296 (b % 4294967296) ∙ mod-mod b 4294967296

typed_again : (k b : ℕ) → value_by k (cell_in (value_by k b)) ≡ value_by k b
unfolding value_by cell_in refer_to
typed_again zero zero = refl
typed_again zero (suc b) = refl
typed_again (suc zero) b = rw (low_signed (b % 4294967296), mod-mod b 4294967296)
typed_again (suc (suc zero)) b = refl
typed_again (suc (suc (suc k))) b = refl

told_again : (k b : ℕ) → value_by (kind_in (value_by k b)) (cell_in (value_by k b)) ≡ value_by k b
unfolding value_by kind_in cell_in refer_to
told_again zero zero = refl
told_again zero (suc b) = refl
told_again (suc zero) b = rw (low_signed (b % 4294967296), mod-mod b 4294967296)
told_again (suc (suc zero)) b = refl
told_again (suc (suc (suc k))) b = refl

typed_seen : (ts : List Ty) (l : List ℕ) (a : ℕ) → Typed ts (seen ts l a)
unfolding map_option
typed_seen ts l a =
    record {
      long = length_seen ts l a;
      told = λ i t v e q.
          let w : some (value_by (kind_of_type t) (get_or l (a + i) 0)) ≡ some v = sym (at_seen ts l a i ∙ rw e) ∙ q in
          let u : value_by (kind_of_type t) (get_or l (a + i) 0) ≡ v = cc in
          rw (sym u) (typed_again (kind_of_type t) (get_or l (a + i) 0));
    }

-- ---- Lists from their bottom

module _ {A : Type 0} (P : A → Type 0) where
  bottom_cons : (y : A) (l : List A) → P y → ((j : ℕ) (x : A) → bottom l j ≡ some x → P x) → (j : ℕ) (x : A) → bottom (y ∷ l) j ≡ some x → P x
  unfolding bottom pick
  bottom_cons y l p h j x e = go (eqb (length l) j) e where
    go : (b : Bool) → pick b (some y) (bottom l j) ≡ some x → P x
    go true q = let w : y ≡ x = cc in subst P w p
    go false q = h j x q

  bottom_nil : (j : ℕ) (x : A) → bottom [] j ≡ some x → P x
  unfolding bottom
  bottom_nil j x e = let z : ◌≡◌ {A = ℕ} 0 1 = cc in absurd (omega arith)

  bottom_each : (g : ℕ → A) (n : ℕ) → ((k : ℕ) → k < n → P (g k)) → (j : ℕ) (x : A) → bottom (down g n) j ≡ some x → P x
  unfolding down
  bottom_each g zero h = bottom_nil
  bottom_each g (suc n) h = bottom_cons (g n) (down g n) (h n (omega arith)) (bottom_each g n (λ k l. h k (omega arith)))

module _ (M : Module) (fin : Fine M) where
  -- ---- Frames

  frame_keeps : (c : Work) (p r o d : ℕ) → d ≤ 32 → FrameKeeps M (frame_at M c p r o d)
  unfolding frame_at cell
  frame_keeps c p r o d h =
      record {
        args_typed = typed_seen _ _ _;
        locals_typed = typed_seen _ _ _;
        stack_told = bottom_each (λ v. value_by (kind_in v) (cell_in v) ≡ v) (cell c.kinds c.cells (p + 24)) d (λ k l. told_again _ _);
        stack_few = rw (length_down (cell c.kinds c.cells (p + 24)) d) h;
      }

  height_few : (c : Work) → Good M c → height_of c ≤ 32
  unfolding height_of
  height_few c g = let a = g.frames.deep in omega arith

  frames_keep : (c : Work) → Good M c → (j : ℕ) (f : Frame) → bottom (running_of M c ∷ down (waits_of M c) (top_of c)) j ≡ some f → FrameKeeps M f
  unfolding running_of waits_of
  frames_keep c g =
      bottom_cons (FrameKeeps M) (running_of M c) (down (waits_of M c) (top_of c)) (frame_keeps c _ _ _ _ (height_few c g))
      (bottom_each (FrameKeeps M) (waits_of M c) (top_of c) (λ k l. let t = top_is M fin c g in frame_keeps c _ _ _ _ (saved M fin c g k (omega arith))))

  -- ---- Objects

  object_keeps : (c : Work) → Good M c → (r : ℕ) (o : Object) → get_or (heap_of M c) r none ≡ some o → ObjectKeeps M o
  unfolding heap_of place_in pick
  object_keeps c g r o e = go (eqb (get_or c.classes r 0) 0) refl (sym (place_seen M c.classes c.heap r g.heap.classes_long) ∙ e) where
    few : (c.regs.made ≤ r) ⊎ (r < c.regs.made) → get_or c.classes r 0 ≤ 32
    few (inl h) = let z = g.heap.unmade r h in omega arith
    few (inr h) = let t = (g.heap.taken r h).1 in let f = fin.classes_few in omega arith

    go : (b : Bool) → eqb (get_or c.classes r 0) 0 ≡ b → pick b none (some (record { class = get_or c.classes r 0; cells = seen (types_of M (get_or c.classes r 0)) c.heap (r * 8) })) ≡ some o → ObjectKeeps M o
    go true q w = let z : ◌≡◌ {A = ℕ} 0 1 = cc in absurd (omega arith)
    go false q w =
        let p : 0 < get_or c.classes r 0 = positive _ (eqb-false _ _ q) in
        let u : record { class = get_or c.classes r 0; cells = seen (types_of M (get_or c.classes r 0)) c.heap (r * 8) } ≡ o = cc in
        subst (ObjectKeeps M) u (record { class_there = p; class_few = few (le_or_lt c.regs.made r); cells_typed = typed_seen _ _ _ })

  -- ---- The whole

  places_long : (c : Work) → length (heap_of M c) ≡ 256
  unfolding heap_of
  places_long c = length_span (place_in M c.classes c.heap) 0 256

  keeps_with : (c : Work) → Good M c → (s : Model.State) → length s.frames ≤ 32 → ((j : ℕ) (f : Frame) → bottom s.frames j ≡ some f → FrameKeeps M f)
      → s.statics ≡ (view M c).statics → s.marks ≡ (view M c).marks → s.heap ≡ (view M c).heap → Keeps M s
  unfolding view marks_of
  keeps_with c g s n f a b h =
      record {
        frames_few = n;
        frame = f;
        statics_typed = rw a (typed_seen _ _ _);
        marks_long = ap length b ∙ length_span (mark_in c.marks) 0 (length M.parents);
        heap_long = ap length h ∙ places_long c;
        object = λ r o e. object_keeps c g r o (rw h at e);
      }

  seen_keeps : (c : Work) → Good M c → (live : ℕ) → Keeps M (state_seen M c live)
  unfolding state_seen frames_gone state_of view
  seen_keeps c g zero = keeps_with c g _ (omega arith) (bottom_nil (FrameKeeps M)) refl refl refl
  seen_keeps c g (suc live) =
      keeps_with c g _ (let l = length_down (waits_of M c) (top_of c) in let t = top_is M fin c g in let k = g.frames.low in omega arith) (frames_keep c g) refl refl refl

  module _ (code : List ℕ) (L : Loaded) (hold : Holds M code L) (bits : List ℕ) (vs : List Value) (wide : (i : ℕ) → get_or bits i 0 < 18446744073709551616)
      (admitted : admit (method_at M.methods M.entry).params bits ≡ some vs) (variables ancestors chosen : List ℕ) (made : HoldsMade M L variables ancestors chosen) where
    -- the state that the model's run ends with, for every budget
    pub run_keeps : (budget : ℕ) → Keeps M (steps lowest_free M budget 0 (first M vs)).state
    unfolding ended
    run_keeps budget =
        let P = tables_of L variables ancestors chosen in
        let x = run_w P code budget 0 (first_w P M.entry bits) in
        let f = run_final M fin code L hold variables ancestors chosen made budget 0 (first_w P M.entry bits) (first_good M fin code L hold variables ancestors chosen bits) in
        let k : Keeps M (ended M x).state = seen_keeps x.work f.good x.live in
        subst (λ (e : Ended). Keeps M e.state) (whole_run M fin code L hold variables ancestors chosen made bits vs wide admitted budget) k

    -- so the text of what a run hands back is the model's text of the state that its run ends with
    pub run_text_lem : (types statics : List ℕ) → HoldsTypes M types statics → (budget : ℕ) (s : State) (before after : List ℕ) (at at' : ℕ)
        → Told L.methods L.fields types s before at after at' → s ≡ lay_out (steps lowest_free M budget 0 (first M vs)).state
        → Appended before at (state_text M (steps lowest_free M budget 0 (first M vs)).state) after at'
    run_text_lem types statics typed budget s before after at at' t q = t.model M code L statics _ hold refl refl fin typed (run_keeps budget) q
