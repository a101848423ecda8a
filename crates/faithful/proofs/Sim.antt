-- Two answers side by side: a step on the arrays and the model's step.
use Prim.Native.Nat.{ℕ, zero, suc, ◌+◌, ◌-◌, ◌*◌, ◌≤◌, ◌<◌}
use mathlib.Core.Path.{◌≡◌, refl, ◌∙◌}
use mathlib.Core.Bool.{Bool, true, false, not, ◌&&◌}
use mathlib.Core.Logic.{◌⊎◌, inl, inr}
use mathlib.Core.Option.{Option, none, some}
use mathlib.Core.List.{List, [], ◌∷◌}
use native.Mathlib.Omega.{arith}
use native.Mathlib.Nat.{add-zero}
use lib.ListN.{length, get_or, set}
use lib.Dec.{leb, ltb, eqb}
use borrow.Author.Tests.{le-leb, lt-leb, ne_eqb, eqb-false, ltb-true, lt-ltb, le-ltb, leb-true}
use Rattle.model.specs.Answer.{Answer, bad, ok, ◌>>=◌, guard, need, pick, only_if, or_else, at, row}
use Rattle.model.specs.Tables.{Ty, byte_of, Method, Module, method_at, arguments, initialiser_of}
use Rattle.model.specs.State.{Value, Popped, firsts, fit_all, fits_value, pops, pop1, pop2, room, Machine, enter, stuck_number}
use Rattle.model.specs.Step.{Outcome, goes, ends, push, is_marked, mark, start_by, starting}
use Rattle.loaded.specs.Holds.{method_cell, Holds}
use Rattle.loaded.specs.declared.Loaded.{Loaded}
use Rattle.state.specs.declared.Stay.{Stay}
use Rattle.state.specs.View.{Work, down, span, kind_of_type, value_by, seen, cell, top_of, height_of, running_of, frame_at, waits_of, heap_of, marks_of, view}
use Rattle.state.specs.Order.{Named, AllNamed, Fine, HoldsMade, GoodMarks, Good, due_of}
use Rattle.state.specs.Work.{Went, runs, over, waits, with_marks, sp_of, kind_at, bits_at, few, fits_w, fit_all_w, starting_w, entered, room_above, start_w, taking_w}
use Rattle.faithful.proofs.Lists.{le_or_lt, leb_same, and_l, and_r, length_down, drop_down, firsts_all, set_same}
use Rattle.faithful.proofs.Seen.{byte_kind, fits_seen, fits_kind}
use Rattle.faithful.proofs.Rows.{stack_few, initialiser_row, initialiser_owner}
use Rattle.faithful.proofs.Frames.{here, top_is, marks_good, entered_good, entered_view}
use Rattle.faithful.proofs.Heap.{mark_seen, mark_set, marks_set_good}

-- arrays in order in which the model's state is seen, or the same value
unfoldable pub SimO : Module → Went → Outcome → Type 0
SimO M (runs c) (goes s) = Good M c × (view M c ≡ s)
SimO M (runs c) (ends v) = ⊥
SimO M (over v) (goes s) = ⊥
SimO M (over v) (ends w) = v ≡ w
SimO M (waits r) o = ⊥

-- the same number, or outcomes that agree
unfoldable pub Sim : Module → Answer ℕ Went → Answer ℕ Outcome → Type 0
Sim M (bad n) (bad k) = n ≡ k
Sim M (bad n) (ok o) = ⊥
Sim M (ok w) (bad k) = ⊥
Sim M (ok w) (ok o) = SimO M w o

-- a work in order, with a fine module and its tables, in which a method that is there runs
pub record Running : Type 0 where
  pub M : Module
  pub code : List ℕ
  pub L : Loaded
  pub variables : List ℕ
  pub ancestors : List ℕ
  pub chosen : List ℕ
  pub fin : Fine M
  pub hold : Holds M code L
  pub made : HoldsMade M L variables ancestors chosen
  pub c : Work
  pub g : Good M c
  pub there : row M.methods c.regs.row ≡ some (method_at M.methods c.regs.row)

-- the answer of an instruction: where an initialiser comes first, it is the frame of that
unfoldable pub Does : Running → Answer ℕ Went → Answer ℕ Outcome → Type 0
Does R (bad n) b = Sim R.M (bad n) b
Does R (ok (runs d)) b = Sim R.M (ok (runs d)) b
Does R (ok (over v)) b = Sim R.M (ok (over v)) b
Does R (ok (waits r)) b = Sim R.M (start_w R.L.methods R.c r) b

module _ (M : Module) where
  sim_goes : (c : Work) (s : Machine) → Good M c → view M c ≡ s → Sim M (ok (runs c)) (ok (goes s))
  unfolding Sim SimO
  sim_goes c s g e = (g, e)

  pub sim_guard : (b e : Bool) (n : ℕ) (f : Unit {0} → Answer ℕ Went) (g : Unit {0} → Answer ℕ Outcome) → e ≡ b → (b ≡ true → Sim M (f tt) (g tt)) → Sim M (guard b n >>= f) (guard e n >>= g)
  unfolding Sim guard ◌>>=◌
  sim_guard true e n f g q h = rw q (h refl)
  sim_guard false e n f g q h = rw q refl

guards_in_row : (a b c : Bool) (x y z : ℕ) (f : Unit {0} → Answer ℕ Went) → ((guard a x >>= λ _. guard b y >>= λ _. guard c z) >>= f) ≡ (guard a x >>= λ _. guard b y >>= λ _. guard c z >>= f)
unfolding guard ◌>>=◌
guards_in_row true true c x y z f = refl
guards_in_row true false c x y z f = refl
guards_in_row false b c x y z f = refl

module _ (R : Running) where
  -- the stack of the running frame, its height, its method, and the stay in it
  abbrev pub H : ℕ → Value
  H = here R.M R.fin R.c R.g

  abbrev pub height : ℕ
  height = height_of R.c

  abbrev pub floor : ℕ
  floor = R.c.regs.fp + 24

  abbrev pub m : Method
  m = method_at R.M.methods R.c.regs.row

  abbrev pub stay : Stay
  stay = record { fp = R.c.regs.fp; mp = R.c.regs.row * 32; floor = R.c.regs.fp + 24; limit = R.c.regs.fp + 24 + method_cell R.L.methods R.c.regs.row 27 }

  pub height_is : (R.c.regs.sp ≡ R.c.regs.fp + 24 + height_of R.c) × (height_of R.c ≤ 32)
  unfolding height_of
  height_is = (omega arith, omega arith)

  few_is : (n : ℕ) → few (stay) R.c n ≡ leb n height
  unfolding few
  few_is n = let e = height_is.0 in leb_same (R.c.regs.fp + 24 + n) R.c.regs.sp n height (λ h. omega arith) (λ h. omega arith)

  pub does_goes : (c : Work) (s : Machine) → Good R.M c → view R.M c ≡ s → Does R (ok (runs c)) (ok (goes s))
  unfolding Does Sim SimO
  does_goes c s g e = (g, e)

  pub does_over : (v w : Option Value) → v ≡ w → Does R (ok (over v)) (ok (ends w))
  unfolding Does Sim SimO
  does_over v w e = e

  does_sim : (a : Answer ℕ Went) (b : Answer ℕ Outcome) → Sim R.M a b → Does R a b
  unfolding Does Sim SimO
  does_sim (bad n) b s = s
  does_sim (ok (runs d)) b s = s
  does_sim (ok (over v)) b s = s
  does_sim (ok (waits r)) (bad k) s = absurd s
  does_sim (ok (waits r)) (ok o) s = absurd s

  -- ---- The same test

  pub does_guard : (b e : Bool) (n : ℕ) (f : Unit {0} → Answer ℕ Went) (g : Unit {0} → Answer ℕ Outcome) → e ≡ b → (b ≡ true → Does R (f tt) (g tt)) → Does R (guard b n >>= f) (guard e n >>= g)
  unfolding Does Sim guard ◌>>=◌
  does_guard true e n f g q h = rw q (h refl)
  does_guard false e n f g q h = rw q refl

  pub does_need : {A : Type 0} (o : Option A) (n : ℕ) (f : A → Answer ℕ Went) (g : A → Answer ℕ Outcome) → ((a : A) → o ≡ some a → Does R (f a) (g a)) → Does R (need o n >>= f) (need o n >>= g)
  unfolding Does Sim need ◌>>=◌
  does_need none n f g h = refl
  does_need (some a) n f g h = h a refl

  -- a test, and what is found where it passes
  pub does_only : {A : Type 0} (b e : Bool) (n : ℕ) (a : A) (f : Unit {0} → Answer ℕ Went) (g : A → Answer ℕ Outcome) → e ≡ b → (b ≡ true → Does R (f tt) (g a)) → Does R (guard b n >>= f) (need (only_if e (some a)) n >>= g)
  unfolding Does Sim guard need only_if ◌>>=◌
  does_only true e n a f g q h = rw q (h refl)
  does_only false e n a f g q h = rw q refl

  pub does_same : {A : Type 0} (x : Answer ℕ A) (f : A → Answer ℕ Went) (g : A → Answer ℕ Outcome) → ((a : A) → x ≡ ok a → Does R (f a) (g a)) → Does R (x >>= f) (x >>= g)
  unfolding Does Sim ◌>>=◌
  does_same (bad n) f g h = refl
  does_same (ok a) f g h = h a refl

  -- ---- Pops

  one_down : (F : ℕ → Value) (d : ℕ) (f : Unit {0} → Answer ℕ Went) (g : ((a : Value) × List Value) → Answer ℕ Outcome)
      → (1 ≤ d → Does R (f tt) (g (F (d - 1), down F (d - 1)))) → Does R (guard (leb 1 d) 43 >>= f) (pop1 stuck_number (down F d) >>= g)
  unfolding Does Sim guard ◌>>=◌ pop1 down
  one_down F zero f g h = refl
  one_down F (suc d) f g h = let e : suc d - 1 ≡ d = omega arith in rw (le-leb 1 (suc d) (omega arith)) (rw e at (h (omega arith)))

  -- one value
  pub does_pop : (f : Unit {0} → Answer ℕ Went) (g : ((a : Value) × List Value) → Answer ℕ Outcome)
      → (1 ≤ height → Does R (f tt) (g (H (height - 1), down H (height - 1)))) → Does R (guard (few stay R.c 1) 43 >>= f) (pop1 stuck_number (down H height) >>= g)
  does_pop f g h = rw (few_is 1) (one_down H height f g h)

  two_down : (F : ℕ → Value) (d : ℕ) (f : Unit {0} → Answer ℕ Went) (g : ((a : Value) × (b : Value) × List Value) → Answer ℕ Outcome)
      → (2 ≤ d → Does R (f tt) (g (F (d - 2), F (d - 1), down F (d - 2)))) → Does R (guard (leb 2 d) 43 >>= f) (pop2 stuck_number (down F d) >>= g)
  unfolding Does Sim guard ◌>>=◌ pop2 down
  two_down F zero f g h = refl
  two_down F (suc zero) f g h = refl
  two_down F (suc (suc d)) f g h =
      let e : suc (suc d) - 1 ≡ suc d = omega arith in
      let k : suc (suc d) - 2 ≡ d = omega arith in
      rw (le-leb 2 (suc (suc d)) (omega arith)) (rw (e, k) at (h (omega arith)))

  -- two, the second on top
  pub does_pop2 : (f : Unit {0} → Answer ℕ Went) (g : ((a : Value) × (b : Value) × List Value) → Answer ℕ Outcome)
      → (2 ≤ height → Does R (f tt) (g (H (height - 2), H (height - 1), down H (height - 2)))) → Does R (guard (few stay R.c 2) 43 >>= f) (pop2 stuck_number (down H height) >>= g)
  does_pop2 f g h = rw (few_is 2) (two_down H height f g h)

  module _ (fit : Value → Ty → Bool) (F : ℕ → Value) (ts : List Ty) (d : ℕ) where
    pops_down : length ts ≤ d
        → pops stuck_number fit ts (down F d) ≡ (guard (fit_all fit ts (span F (d - length ts) (length ts))) 45 >>= λ _. ok (record { got = span F (d - length ts) (length ts); rest = down F (d - length ts) }))
    unfolding pops guard ◌>>=◌
    pops_down l =
        let e : firsts (length ts) (down F d) [] ≡ span F (d - length ts) (length ts) = firsts_all F (length ts) d l in
        rw (length_down F d, le-leb _ _ l, e, drop_down F _ d l)

    pops_few : d < length ts → pops stuck_number fit ts (down F d) ≡ bad 43
    unfolding pops guard ◌>>=◌
    pops_few l = rw (length_down F d, lt-leb _ _ l)

  guards : {A : Type 0} (b e : Bool) (n : ℕ) (a : A) (f : Unit {0} → Answer ℕ Went) (g : A → Answer ℕ Outcome) → e ≡ b → (b ≡ true → Does R (f tt) (g a)) → Does R (guard b n >>= f) (guard e n >>= (λ _. ok a) >>= g)
  unfolding Does Sim guard ◌>>=◌
  guards true e n a f g q h = rw q (h refl)
  guards false e n a f g q h = rw q refl

  -- values of these types
  pub does_pops : (fit : Value → Ty → Bool) (ts : List Ty) (n : ℕ) (b : Bool) (f : Unit {0} → Answer ℕ Went) (g : Popped Value → Answer ℕ Outcome)
      → n ≡ length ts
      → (n ≤ height → fit_all fit ts (span H (height - n) n) ≡ b)
      → (n ≤ height → b ≡ true → Does R (f tt) (g (record { got = span H (height - n) n; rest = down H (height - n) })))
      → Does R (guard (few stay R.c n) 43 >>= λ _. guard b 45 >>= f) (pops stuck_number fit ts (down H height) >>= g)
  unfolding Does Sim guard ◌>>=◌
  does_pops fit ts n b f g q e k = rw (few_is n) (go (le_or_lt n height)) where
    go : (n ≤ height) ⊎ (height < n) → Does R (guard (leb n height) 43 >>= λ _. guard b 45 >>= f) (pops stuck_number fit ts (down H height) >>= g)
    go (inl l) = rw (pops_down fit H ts height (omega arith), le-leb n height l) (rw (← q) (guards b _ 45 _ f g (e l) (k l)))
    go (inr l) = rw (pops_few fit H ts height (omega arith), lt-leb n height l) refl

  max_is : method_cell R.L.methods R.c.regs.row 27 ≡ m.max_stack
  max_is = R.hold.by_method.stack R.c.regs.row

  -- room for n values more above the height d
  does_room : (s d n k : ℕ) (f : Unit {0} → Answer ℕ Went) (g : Unit {0} → Answer ℕ Outcome)
      → s ≡ floor + d → n ≡ k → (d + n ≤ 32 → Does R (f tt) (g tt)) → Does R (guard (leb (s + n) stay.limit) 44 >>= f) (room stuck_number m k (down H d) >>= g)
  unfolding room
  does_room s d n k f g e q h =
      let w = max_is in
      let x : leb (length (down H d) + k) m.max_stack ≡ leb (s + n) stay.limit =
      rw (length_down H d, ← q) (leb_same (d + n) m.max_stack (s + n) stay.limit (λ z. omega arith) (λ z. omega arith)) in
      does_guard (leb (s + n) stay.limit) _ 44 f g x
      (λ t. let u : s + n ≤ stay.limit = leb-true (s + n) stay.limit t in let v = stack_few R.M R.fin R.c.regs.row in h (omega arith))

  -- room for one value on top
  pub does_room1 : (f : Unit {0} → Answer ℕ Went) (g : Unit {0} → Answer ℕ Outcome)
      → (height < 32 → Does R (f tt) (g tt)) → Does R (guard (ltb (sp_of R.c) stay.limit) 44 >>= f) (room stuck_number m 1 (down H height) >>= g)
  does_room1 f g h = rw (same_test (le_or_lt stay.limit (sp_of R.c))) (does_room (sp_of R.c) height 1 1 f g height_is.0 refl (λ l. h (omega arith))) where
    same_test : (stay.limit ≤ sp_of R.c) ⊎ (sp_of R.c < stay.limit) → ltb (sp_of R.c) stay.limit ≡ leb (sp_of R.c + 1) stay.limit
    same_test (inl l) = rw (le-ltb (sp_of R.c) stay.limit l, lt-leb (sp_of R.c + 1) stay.limit (omega arith))
    same_test (inr l) = rw (lt-ltb (sp_of R.c) stay.limit l, le-leb (sp_of R.c + 1) stay.limit (omega arith))

  -- ---- Cells that fit

  abbrev fit : Value → Ty → Bool
  fit = fits_value R.M (heap_of R.M R.c)

  abbrev pub fits_at : ℕ → ℕ → Bool
  fits_at i t = fits_w R.ancestors R.c.classes (kind_at R.c i) (bits_at R.c i) t

  pub classes_few : (i : ℕ) → get_or R.c.classes i 0 ≤ 32
  classes_few i = go (le_or_lt R.c.regs.made i) where
    go : (R.c.regs.made ≤ i) ⊎ (i < R.c.regs.made) → get_or R.c.classes i 0 ≤ 32
    go (inl h) = let e = R.g.heap.unmade i h in omega arith
    go (inr h) = let t = (R.g.heap.taken i h).1 in omega arith

  pub fit_cell : (i d : ℕ) (t : Ty) → i ≡ floor + d → Named t → fits_value R.M (heap_of R.M R.c) (H d) t ≡ fits_at i (byte_of t)
  unfolding cell
  fit_cell i d t e n = rw e (fits_seen R.M R.ancestors R.made.by_class R.c R.g.heap.classes_long classes_few (kind_at R.c (floor + d)) (bits_at R.c (floor + d)) t (R.g.frames.kindly _) n)

  -- a cell that fits is seen by the type's kind
  pub cell_fit : (i d : ℕ) (t : Ty) → i ≡ floor + d → fits_at i (byte_of t) ≡ true → H d ≡ value_by (kind_of_type t) (bits_at R.c i)
  unfolding cell
  cell_fit i d t e f =
      let q : kind_at R.c i ≡ kind_of_type t = fits_kind R.ancestors R.c.classes (kind_at R.c i) (bits_at R.c i) (byte_of t) (R.g.frames.kindly i) f ∙ byte_kind t in
      rw (← e, q)

  abbrev pub fits_from : ℕ → ℕ → ℕ → ℕ → Bool
  fits_from r n i s = fit_all_w R.L.methods R.ancestors R.c r n i s

  -- the types of a method row from its variable i on
  abbrev pub Typed : ℕ → ℕ → List Ty → Type 0
  Typed r i ts = (j : ℕ) (t : Ty) → at ts j ≡ some t → method_cell R.L.methods r (i + j) ≡ byte_of t

  typed_first : (r i : ℕ) (t : Ty) (ts : List Ty) → Typed r i (t ∷ ts) → method_cell R.L.methods r i ≡ byte_of t
  unfolding at
  typed_first r i t ts h = simp add-zero at (h 0 t refl)

  typed_rest : (r i : ℕ) (t : Ty) (ts : List Ty) → Typed r i (t ∷ ts) → Typed r (suc i) ts
  unfolding at
  typed_rest r i t ts h j u e = let x : suc i + j ≡ i + suc j = omega arith in rw x (h (suc j) u e)

  fit_all_cells : (ts : List Ty) (r i s d : ℕ) → s ≡ floor + d → AllNamed ts → Typed r i ts → fit_all (fits_value R.M (heap_of R.M R.c)) ts (span H d (length ts)) ≡ fits_from r (length ts) i s
  unfolding fit_all fit_all_w span AllNamed
  fit_all_cells [] r i s d e n h = refl
  fit_all_cells (t ∷ ts) r i s d e n h = rw (fit_cell s d t e n.0, typed_first r i t ts h, fit_all_cells ts r (suc i) (suc s) (suc d) (omega arith) n.1 (typed_rest r i t ts h))

  -- arguments copied
  pub seen_copied : (ts : List Ty) (r i s d : ℕ) (l : List ℕ) (a : ℕ) → s ≡ floor + d → Typed r i ts → fits_from r (length ts) i s ≡ true
      → ((j : ℕ) → j < length ts → get_or l (a + j) 0 ≡ get_or R.c.cells (s + j) 0) → seen ts l a ≡ span H d (length ts)
  unfolding seen span fit_all_w
  seen_copied [] r i s d l a p h e q = refl
  seen_copied (t ∷ ts) r i s d l a p h e q =
      let z : method_cell R.L.methods r i ≡ byte_of t = typed_first r i t ts h in
      let b : get_or l a 0 ≡ bits_at R.c s = simp add-zero at (q 0 (omega arith)) in
      let f : fits_at s (byte_of t) ≡ true = rw z at (and_l (fits_at s (method_cell R.L.methods r i)) (fits_from r (length ts) (suc i) (suc s)) e) in
      let w : seen ts l (suc a) ≡ span H (suc d) (length ts) =
      seen_copied ts r (suc i) (suc s) (suc d) l (suc a) (omega arith) (typed_rest r i t ts h) (and_r (fits_at s (method_cell R.L.methods r i)) (fits_from r (length ts) (suc i) (suc s)) e)
      (λ j k. let x : suc a + j ≡ a + suc j = omega arith in let y : suc s + j ≡ s + suc j = omega arith in rw (x, y) (q (suc j) (omega arith))) in
      rw (b, w, cell_fit s d t p f)

  -- n values of these types, and room for those due
  pub does_taking : (ts : List Ty) (r n i more k : ℕ) (f : Unit {0} → Answer ℕ Went) (h : Popped Value → Answer ℕ Outcome)
      → n ≡ length ts → more ≡ k → AllNamed ts → Typed r i ts
      → (n ≤ height → fits_from r n i (sp_of R.c - n) ≡ true → height - n + k ≤ 32 → Does R (f tt) (h (record { got = span H (height - n) n; rest = down H (height - n) })))
      → Does R (taking_w R.L.methods R.ancestors stay R.c r n i more >>= f)
      (pops stuck_number (fits_value R.M (heap_of R.M R.c)) ts (view R.M R.c).top.stack >>= λ p. room stuck_number m k p.rest >>= λ _. h p)
  unfolding taking_w view running_of frame_at
  does_taking ts r n i more k f h q w nm ty s =
      let e = height_is.0 in
      rw (guards_in_row (few stay R.c n) (fits_from r n i (sp_of R.c - n)) (leb (sp_of R.c - n + more) stay.limit) 43 45 44 f)
      (does_pops fit ts n _ _ _ q (λ l. rw q (fit_all_cells ts r i (sp_of R.c - length ts) (height - length ts) (omega arith) nm ty)) λ l t.
      does_room (sp_of R.c - n) (height - n) more k _ _ (omega arith) w λ z. s l t (omega arith))

  -- ---- A frame entered

  module _ (c : Work) (g : Good R.M c) (r s d : ℕ) (e : s ≡ c.regs.fp + 24 + d) (h : d + due_of R.M r ≤ 32) (vs : List Value)
      (a : c.regs.fp < 1984 → seen (arguments (method_at R.M.methods r)) c.cells (c.regs.fp + 64) ≡ vs) where
    frames_live : ltb (suc (length (view R.M c).below)) 32 ≡ ltb c.regs.fp 1984
    unfolding view
    frames_live = rw (length_down (waits_of R.M c) (top_of c), top_is R.M R.fin c g) (go (le_or_lt 1984 c.regs.fp)) where
      go : (1984 ≤ c.regs.fp) ⊎ (c.regs.fp < 1984) → ltb (suc g.frames.top) 32 ≡ ltb c.regs.fp 1984
      go (inl l) = rw (le-ltb (suc g.frames.top) 32 (omega arith), le-ltb c.regs.fp 1984 l)
      go (inr l) = rw (lt-ltb (suc g.frames.top) 32 (omega arith), lt-ltb c.regs.fp 1984 l)

    enter_sim : Sim R.M (guard (room_above c) 36 >>= λ _. ok (runs (entered R.L.methods c r s)))
        (push (view R.M c) (view R.M c).marks (view R.M c).heap (down (here R.M R.fin c g) d) (enter r (method_at R.M.methods r) vs))
    unfolding room_above push SimO
    enter_sim =
        sim_guard R.M (ltb c.regs.fp 1984) _ 36 _ _ frames_live λ t.
        let x : c.regs.fp < 1984 = ltb-true _ _ t in
        let lo : suc g.frames.top < 32 = omega arith in
        let n = R.hold.by_method.local_count_lem r in
        sim_goes R.M _ _ (entered_good R.M R.fin c g R.L.methods r s d n e lo h) (rw (← a x) (entered_view R.M R.fin c g R.L.methods r s d n e lo (omega arith)))

    pub does_enter : Does R (guard (room_above c) 36 >>= λ _. ok (runs (entered R.L.methods c r s)))
        (push (view R.M c) (view R.M c).marks (view R.M c).heap (down (here R.M R.fin c g) d) (enter r (method_at R.M.methods r) vs))
    does_enter = does_sim _ _ enter_sim

  -- ---- The start of a class

  module _ (k : ℕ) (lo : 0 < k) (hi : k ≤ length R.M.parents) where
    marked_good : GoodMarks R.M (set R.c.marks k 1)
    marked_good = marks_set_good R.M R.c.marks R.g.marks k lo hi R.fin

    -- its initialiser's frame
    start_sim : (r : ℕ) → initialiser_of R.M.methods k ≡ some r
        → Sim R.M (start_w R.L.methods R.c r) (push (view R.M R.c) (mark (view R.M R.c) k) (view R.M R.c).heap (view R.M R.c).top.stack (enter r (method_at R.M.methods r) []))
    unfolding start_w push mark view running_of frame_at waits_of heap_of top_of due_of seen room_above height_of
    start_sim r e =
        let i = initialiser_row R.M R.fin k r e in
        let o : method_cell R.L.methods r 25 ≡ k = R.hold.by_method.owner r ∙ initialiser_owner R.M R.fin k r e in
        let h = height_is in
        let gm : Good R.M (with_marks R.c (set R.c.marks k 1)) = marks_good R.M R.fin R.c R.g (set R.c.marks k 1) marked_good in
        rw o (rw (mark_set R.M R.c.marks R.g.marks k lo hi R.fin) at
        (enter_sim (with_marks R.c (set R.c.marks k 1)) gm r (sp_of R.c) height h.0 (rw i.1.1 (omega arith)) [] (λ _. rw i.1.0)))

    start_by_lem : (o : Option ℕ) → initialiser_of R.M.methods k ≡ o → (f : List ℕ → Answer ℕ Went) (h : List Bool → Answer ℕ Outcome)
        → Does R (f (set R.c.marks k 1)) (h (marks_of R.M (set R.c.marks k 1)))
        → Does R (pick (true && not (eqb (or_else o 0) 0)) (ok (waits (or_else o 0))) (f (set R.c.marks k 1))) (start_by R.M (view R.M R.c) k o h)
    unfolding Does start_by mark view or_else pick
    start_by_lem none e f h s = rw (← mark_set R.M R.c.marks R.g.marks k lo hi R.fin) s
    start_by_lem (some r) e f h s =
        let i = initialiser_row R.M R.fin k r e in
        rw (ne_eqb r 0 (λ z. omega arith)) (start_sim r e)

    pub does_starting : (f : List ℕ → Answer ℕ Went) (h : List Bool → Answer ℕ Outcome) → ((marks : List ℕ) → GoodMarks R.M marks → Does R (f marks) (h (marks_of R.M marks)))
        → Does R (starting_w R.L.initialisers R.c k f) (starting R.M (view R.M R.c) (some k) h)
    unfolding starting_w starting is_marked view pick
    does_starting f h s = rw (mark_seen R.M R.c.marks R.g.marks k lo hi R.fin, R.hold.by_class.initialiser k) (go (eqb (get_or R.c.marks k 0) 0) refl) where
      go : (b : Bool) → eqb (get_or R.c.marks k 0) 0 ≡ b
          → Does R (pick (b && not (eqb (or_else (initialiser_of R.M.methods k) 0) 0)) (ok (waits (or_else (initialiser_of R.M.methods k) 0))) (f (set R.c.marks k 1)))
          (pick (not b) (h (marks_of R.M R.c.marks)) (start_by R.M (view R.M R.c) k (initialiser_of R.M.methods k) h))
      go true e = start_by_lem (initialiser_of R.M.methods k) refl f h (s (set R.c.marks k 1) marked_good)
      go false e =
          let n = R.g.marks.marks_few k in
          let z : get_or R.c.marks k 0 ≡ 0 → ⊥ = eqb-false _ _ e in
          rw (set_same R.c.marks k 1 (omega arith) (omega arith)) (s R.c.marks R.g.marks)
