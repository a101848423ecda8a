-- Operators, branches, loads and stores on the arrays are the model's through the view.
use Prim.Native.Nat.{ℕ, zero, suc, ◌+◌, ◌-◌, ◌*◌, ◌≤◌, ◌<◌}
use mathlib.Core.Path.{◌≡◌, refl, sym, ap, ◌∙◌}
use mathlib.Core.Bool.{Bool, true, false, not}
use mathlib.Core.Logic.{◌⊎◌, inl, inr}
use mathlib.Core.Option.{Option, none, some}
use mathlib.Core.List.{List, [], ◌∷◌}
use native.Mathlib.Omega.{arith}
use native.Mathlib.Nat.{add-zero}
use lib.ListN.{length, get_or, set}
use lib.Dec.{leb, ltb, eqb}
use borrow.Author.Tests.{le-leb, lt-ltb, le-ltb, ne_eqb}
use Rattle.model.specs.Answer.{Answer, ok, ◌>>=◌, guard, need, pick, only_if, map_option, at}
use Rattle.model.specs.Tables.{Ty, byte_of, arguments}
use Rattle.model.specs.Code.{Binary, Unary, Relation, Jump, always, iftrue, iffalse, when, Act, and_then}
use Rattle.model.specs.Operators.{same, kind_number, testable}
use Rattle.model.specs.State.{Value, vnull, zero_of, bits_in, kind_of, fits_value, fit_all, pop1, stuck_number}
use Rattle.model.specs.Step.{Outcome, goes, Allocator, moved, with_top, move, do_binary, do_unary, do_test, do_when, do_jump, do_push, do_dup, popping, do_starg, do_stloc, act}
use Rattle.loaded.specs.Holds.{byte_at, method_cell}
use Rattle.state.specs.View.{Work, seen, down, span, kind_by, kind_of_type, value_by, cell, running_of, frame_at, heap_of, view}
use Rattle.state.specs.Order.{Named, AllNamed, Good, kind_or_none}
use Rattle.state.specs.Work.{Went, runs, with_cells, sp_of, kind_at, bits_at, shown_at, goto, put, few, push_w, binary_w, unary_w, test_w, when_w, jump_w, branch_w, pop_w, dup_w, load_w, store_w, ldarg_w, starg_w, ldloc_w, stloc_w}
use Rattle.faithful.proofs.Lists.{le_or_lt, and_true, at_in, at_out, get_d_span}
use Rattle.faithful.proofs.Seen.{bits_value, kind_value, kind_few, byte_kind, seen_at}
use Rattle.faithful.proofs.Rows.{row_in, arguments_few, locals_few, arguments_named, locals_named}
use Rattle.faithful.proofs.Frames.{goto_good, goto_view, put_good, put_view, store_good, starg_view, stloc_view}
use Rattle.faithful.proofs.Suits.{suits_value, sees_shown, binary_suits, unary_suits}
use Rattle.faithful.proofs.Sim.{Sim, Running, Does, H, height, floor, m, stay, height_is, does_goes, does_guard, does_need, does_only, does_same, does_pop, does_pop2, does_pops, does_room1, fits_at, fit_cell, cell_fit}

testable_is : (k : ℕ) → testable (kind_by k) ≡ ltb k 3
unfolding testable kind_by same kind_number
testable_is zero = refl
testable_is (suc zero) = refl
testable_is (suc (suc zero)) = refl
testable_is (suc (suc (suc k))) = rw (le-ltb (suc (suc (suc k))) 3 (omega arith))

pub named_at : (ts : List Ty) (i : ℕ) (t : Ty) → AllNamed ts → at ts i ≡ some t → Named t
unfolding AllNamed at
named_at [] i t n e = let z : ◌≡◌ {A = ℕ} 0 1 = cc in absurd (omega arith)
named_at (u ∷ ts) zero t n e = let q : u ≡ t = cc in rw q at n.0
named_at (u ∷ ts) (suc i) t n e = named_at ts i t n.1 e

pub byte_named : (t : Ty) → Named t → 0 < byte_of t
unfolding Named byte_of
byte_named Ty.int32 n = omega arith
byte_named Ty.int64 n = omega arith
byte_named Ty.F n = omega arith
byte_named Ty.null n = absurd n
byte_named (Ty.class c) n = omega arith

module _ (R : Running) where
  pub kind_seen : (i d : ℕ) → i ≡ floor R + d → kind_of (heap_of R.M R.c) (H R d) ≡ kind_by (kind_at R.c i)
  unfolding cell
  kind_seen i d e = rw (← e) (kind_value (heap_of R.M R.c) (kind_at R.c i) (bits_at R.c i))

  pub bits_seen : (i d : ℕ) → i ≡ floor R + d → bits_in (H R d) ≡ shown_at R.c i
  unfolding cell
  bits_seen i d e = rw (← e) (bits_value (kind_at R.c i) (bits_at R.c i))

  -- the index of a cell below the top
  below_top : (n : ℕ) → n ≤ height R → sp_of R.c - n ≡ floor R + (height R - n)
  below_top n h = let e = (height_is R).0 in omega arith

  -- a value of a kind stored at s
  pub does_put : (o s d k b : ℕ) (v : Value) → s ≡ floor R + d → d < 32 → k ≤ 3 → value_by k b ≡ v → Does R (ok (runs (put R.c o s k b))) (move (view R.M R.c) o (v ∷ down (H R) d))
  unfolding move
  does_put o s d k b v x h q e = does_goes R _ _ (put_good R.M R.fin R.c R.g o s d k b x h q) (rw (← e) (put_view R.M R.fin R.c R.g o s d k b x h))

  pub does_goto : (o s d : ℕ) → s ≡ floor R + d → d ≤ 32 → Does R (ok (runs (goto R.c o s))) (move (view R.M R.c) o (down (H R) d))
  unfolding move
  does_goto o s d x h = does_goes R _ _ (goto_good R.M R.fin R.c R.g o s d x h) (goto_view R.M R.fin R.c R.g o s d x)

  -- ---- Operators

  pub binary_does : (o : Binary) (next : ℕ) → Does R (binary_w (stay R) R.c o next) (do_binary (view R.M R.c) o next)
  unfolding binary_w do_binary view running_of frame_at
  binary_does o next =
      let d : ℕ = height R in
      let a : ℕ = sp_of R.c - 2 in
      let b : ℕ = sp_of R.c - 1 in
      does_pop2 R _ _ λ l.
      let x = below_top 2 l in
      let y = below_top 1 (omega arith) in
      rw (kind_seen a (d - 2) x, kind_seen b (d - 1) y, bits_seen a (d - 2) x, bits_seen b (d - 1) y) (does_need R _ 45 _ _ λ q e.
      does_same R (q.bits_of (shown_at R.c a) (shown_at R.c b)) _ _ λ n r.
      does_put next a (d - 2) (kind_of_type q.gives) n _ x (omega arith) (kind_few q.gives)
      (suits_value q.gives n (binary_suits o (kind_by (kind_at R.c a)) (kind_by (kind_at R.c b)) (shown_at R.c a) (shown_at R.c b) n q (sees_shown (kind_at R.c a) (bits_at R.c a)) (sees_shown (kind_at R.c b) (bits_at R.c b)) e r)))

  pub unary_does : (o : Unary) (next : ℕ) → Does R (unary_w (stay R) R.c o next) (do_unary (view R.M R.c) o next)
  unfolding unary_w do_unary view running_of frame_at
  unary_does o next =
      let d : ℕ = height R in
      let b : ℕ = sp_of R.c - 1 in
      does_pop R _ _ λ l.
      let y = below_top 1 l in
      rw (kind_seen b (d - 1) y, bits_seen b (d - 1) y) (does_need R _ 45 _ _ λ q e.
      does_put next b (d - 1) (kind_of_type q.gives) _ _ y (omega arith) (kind_few q.gives)
      (suits_value q.gives _ (unary_suits o (kind_by (kind_at R.c b)) (shown_at R.c b) q (sees_shown (kind_at R.c b) (bits_at R.c b)) e)))

  -- ---- Branches

  test_does : (on_zero onOther : ℕ) → Does R (test_w (stay R) R.c on_zero onOther) (do_test (view R.M R.c) on_zero onOther)
  unfolding test_w do_test view running_of frame_at
  test_does on_zero onOther =
      let d : ℕ = height R in
      let b : ℕ = sp_of R.c - 1 in
      does_pop R _ _ λ l.
      let y = below_top 1 l in
      does_guard R _ _ 45 _ _ (rw (kind_seen b (d - 1) y) (testable_is (kind_at R.c b))) λ _.
      rw (bits_seen b (d - 1) y) (does_goto _ b (d - 1) y (omega arith))

  when_does : (r : Relation) (target next : ℕ) → Does R (when_w (stay R) R.c r target next) (do_when (view R.M R.c) r target next)
  unfolding when_w do_when view running_of frame_at
  when_does r target next =
      let d : ℕ = height R in
      let a : ℕ = sp_of R.c - 2 in
      let b : ℕ = sp_of R.c - 1 in
      does_pop2 R _ _ λ l.
      let x = below_top 2 l in
      let y = below_top 1 (omega arith) in
      rw (kind_seen a (d - 2) x, kind_seen b (d - 1) y, bits_seen a (d - 2) x, bits_seen b (d - 1) y) (does_need R _ 45 _ _ λ q e.
      does_goto _ a (d - 2) x (omega arith))

  jump_does : (j : Jump) (target next : ℕ) → Does R (jump_w (stay R) R.c j target next) (do_jump (view R.M R.c) j target next)
  unfolding jump_w do_jump view running_of frame_at
  jump_does always target next = let h = height_is R in does_goto target (sp_of R.c) (height R) h.0 h.1
  jump_does iftrue target next = test_does next target
  jump_does iffalse target next = test_does target next
  jump_does (when r) target next = when_does r target next

  pub branch_does : (new : Allocator) (n : ℕ) (j : Jump) (t : Option ℕ) (next : ℕ) → n ≡ length (m R).code
      → Does R (branch_w n (stay R) R.c j t next) (need (and_then t (λ o. only_if (ltb o (length (m R).code)) (some (Act.jump j o)))) 42 >>= λ a. act new R.M (view R.M R.c) (m R) a next)
  unfolding branch_w and_then need ◌>>=◌ Does Sim act
  branch_does new n j none next e = refl
  branch_does new n j (some o) next e = does_only R (ltb o n) _ 42 (Act.jump j o) _ (λ a. act new R.M (view R.M R.c) (m R) a next) (rw e) λ _. jump_does j o next

  -- ---- Loads

  pub push_does : (k b : ℕ) (v : Value) (next : ℕ) → k ≤ 3 → value_by k b ≡ v → Does R (push_w (stay R) R.c k b next) (do_push (view R.M R.c) (m R) v next)
  unfolding push_w do_push view running_of frame_at
  push_does k b v next h e = does_room1 R _ _ λ r. does_put next (sp_of R.c) (height R) k b v (height_is R).0 r h e

  pub dup_does : (next : ℕ) → Does R (dup_w (stay R) R.c next) (do_dup (view R.M R.c) (m R) next)
  unfolding dup_w do_dup view running_of frame_at cell
  dup_does next =
      does_pop R _ _ λ l.
      let y = below_top 1 l in
      push_does (kind_at R.c (sp_of R.c - 1)) (bits_at R.c (sp_of R.c - 1)) _ next (R.g.frames.kindly _) (rw y)

  pub pop_does : (next : ℕ) → Does R (pop_w (stay R) R.c next) (pop1 stuck_number (view R.M R.c).top.stack >>= λ p. move (view R.M R.c) next p.1)
  unfolding pop_w view running_of frame_at
  pop_does next = let h = (height_is R).1 in does_pop R _ _ λ l. does_goto next (sp_of R.c - 1) (height R - 1) (below_top 1 l) (omega arith)

  -- ---- A value of a type

  -- a single value that fits
  pub single_fit : (i d : ℕ) (t : Ty) → i ≡ floor R + d → Named t → fit_all (fits_value R.M (heap_of R.M R.c)) (t ∷ []) (span (H R) d 1) ≡ fits_at R i (byte_of t)
  unfolding fit_all span
  single_fit i d t e n = and_true _ ∙ fit_cell R i d t e n

  -- the value on top of the stack, of a type
  pub does_popping : (t : Ty) (f : Unit {0} → Answer ℕ Went) (h : Value → List Value → Answer ℕ Outcome) → Named t
      → (1 ≤ height R → fits_at R (sp_of R.c - 1) (byte_of t) ≡ true → Does R (f tt) (h (H R (height R - 1)) (down (H R) (height R - 1))))
      → Does R (guard (few (stay R) R.c 1) 43 >>= λ _. guard (fits_at R (sp_of R.c - 1) (byte_of t)) 45 >>= f) (popping R.M (view R.M R.c) t h)
  unfolding popping view running_of frame_at
  does_popping t f h n s =
      does_pops R (fits_value R.M (heap_of R.M R.c)) (t ∷ []) 1 _ _ _ refl (λ l. one_fits l) λ l e.
      first_got (s l e)
    where
      one_fits : 1 ≤ height R → fit_all (fits_value R.M (heap_of R.M R.c)) (t ∷ []) (span (H R) (height R - 1) 1) ≡ fits_at R (sp_of R.c - 1) (byte_of t)
      one_fits l = single_fit (sp_of R.c - 1) (height R - 1) t (below_top 1 l) n

      first_got : Does R (f tt) (h (H R (height R - 1)) (down (H R) (height R - 1))) → Does R (f tt) (h (get_or (span (H R) (height R - 1) 1) 0 vnull) (down (H R) (height R - 1)))
      first_got z = rw (get_d_span (H R) (height R - 1) 1 0 vnull (omega arith), add-zero (height R - 1)) z

  -- the value popped stands in the variable v
  abbrev stored : ℕ → ℕ → Work
  stored v next = with_cells (goto R.c next (sp_of R.c - 1)) (set R.c.cells (R.c.regs.fp + v) (bits_at R.c (sp_of R.c - 1))) R.c.kinds

  module _ (next : ℕ) (l : 1 ≤ height R) where
    popped_good : Good R.M (goto R.c next (sp_of R.c - 1))
    popped_good = let h = (height_is R).1 in goto_good R.M R.fin R.c R.g next (sp_of R.c - 1) (height R - 1) (below_top 1 l) (omega arith)

    popped_view : view R.M (goto R.c next (sp_of R.c - 1)) ≡ with_top (view R.M R.c) (moved (view R.M R.c).top next (down (H R) (height R - 1)))
    popped_view = goto_view R.M R.fin R.c R.g next (sp_of R.c - 1) (height R - 1) (below_top 1 l)

    abbrev last : ℕ
    last = bits_at R.c (sp_of R.c - 1)

    arg_stored : (i : ℕ) (t : Ty) → at (arguments (m R)) i ≡ some t → fits_at R (sp_of R.c - 1) (byte_of t) ≡ true
        → Does R (ok (runs (stored i next)))
        (ok (goes (with_top (view R.M R.c) (record { method = (view R.M R.c).top.method; offset = next; args = set (view R.M R.c).top.args i (H R (height R - 1)); locals = (view R.M R.c).top.locals; stack = down (H R) (height R - 1) }))))
    unfolding with_top moved goto
    arg_stored i t a fit =
        let few = arguments_few R.M R.fin R.c.regs.row in
        let ins = at_in _ _ _ a in
        does_goes R _ _ (store_good R.M R.fin _ popped_good i last (omega arith))
        (starg_view R.M R.fin _ popped_good i last t a ∙ rw (popped_view, cell_fit R (sp_of R.c - 1) (height R - 1) t (below_top 1 l) fit) refl)

    loc_stored : (i : ℕ) (t : Ty) → at (m R).locals i ≡ some t → fits_at R (sp_of R.c - 1) (byte_of t) ≡ true
        → Does R (ok (runs (stored (8 + i) next)))
        (ok (goes (with_top (view R.M R.c) (record { method = (view R.M R.c).top.method; offset = next; args = (view R.M R.c).top.args; locals = set (view R.M R.c).top.locals i (H R (height R - 1)); stack = down (H R) (height R - 1) }))))
    unfolding with_top moved goto
    loc_stored i t a fit =
        let few = locals_few R.M R.fin R.c.regs.row in
        let ins = at_in _ _ _ a in
        does_goes R _ _ (store_good R.M R.fin _ popped_good (8 + i) last (omega arith))
        (stloc_view R.M R.fin _ popped_good i last t a ∙ rw (popped_view, cell_fit R (sp_of R.c - 1) (height R - 1) t (below_top 1 l) fit) refl)

  -- ---- Variables

  -- the variable v of the running method is i of a list of types, `most` at most, whose cells begin at `base`
  module _ (new : Allocator) (ts : List Ty) (i v most base : ℕ) (short : length ts ≤ most) (named : AllNamed ts) (typed : i < most → method_cell R.L.methods R.c.regs.row v ≡ byte_at (at ts i))
      (inside : i < most → v < 24) (lies : R.c.regs.fp + v ≡ base + i) (A : Ty → Act) (next : ℕ) where
    abbrev does : Act → Answer ℕ Outcome
    does a = act new R.M (view R.M R.c) (m R) a next

    -- the number is tested, and the variable's type found
    numbered_does : (b : Bool) (f : Unit {0} → Answer ℕ Went) → (i < most → at ts i ≡ none → b ≡ false) → ((t : Ty) → i < most → at ts i ≡ some t → (b ≡ true) × Does R (f tt) (does (A t)))
        → Does R (guard (ltb i most) 42 >>= λ _. guard b 42 >>= f) (need (map_option A (at ts i)) 42 >>= does)
    unfolding guard need ◌>>=◌ map_option Does Sim
    numbered_does b f missing known = go (le_or_lt most i) where
      found : i < most → (o : Option Ty) → at ts i ≡ o → Does R (guard b 42 >>= f) (need (map_option A o) 42 >>= does)
      found h none e = rw (missing h e) refl
      found h (some t) e = let y = known t h e in rw y.0 y.1

      go : (most ≤ i) ⊎ (i < most) → Does R (guard (ltb i most) 42 >>= λ _. guard b 42 >>= f) (need (map_option A (at ts i)) 42 >>= does)
      go (inl h) = rw (le-ltb i most h, at_out ts i (omega arith)) refl
      go (inr h) = rw (lt-ltb i most h) (found h (at ts i) refl)

    -- the kind of the variable
    kind_is : i < most → get_or R.variables (R.c.regs.row * 32 + v) 0 ≡ kind_or_none (byte_at (at ts i))
    kind_is h =
        let r = row_in R.M.methods R.c.regs.row (m R) R.there in
        R.made.by_variable.kind_at_lem R.c.regs.row v r.0 r.1 (inside h) ∙ ap kind_or_none (typed h)

    kind_none : i < most → at ts i ≡ none → leb (get_or R.variables (R.c.regs.row * 32 + v) 0) 3 ≡ false
    unfolding kind_or_none byte_at pick
    kind_none h e = rw (kind_is h, e)

    kind_some : (t : Ty) → i < most → at ts i ≡ some t → get_or R.variables (R.c.regs.row * 32 + v) 0 ≡ kind_of_type t
    unfolding kind_or_none byte_at pick
    kind_some t h e = let n = byte_named t (named_at ts i t named e) in kind_is h ∙ rw (e, ne_eqb (byte_of t) 0 (λ z. omega arith)) (byte_kind t)

    load_does : ((t : Ty) → does (A t) ≡ do_push (view R.M R.c) (m R) (get_or (seen ts R.c.cells base) i (zero_of t)) next)
        → Does R (guard (ltb i most) 42 >>= λ _. load_w R.variables (stay R) R.c v next) (need (map_option A (at ts i)) 42 >>= does)
    unfolding load_w
    load_does q =
        numbered_does _ _ kind_none λ t h e.
        let k = kind_some t h e in
        let few = kind_few t in
        (rw k (le-leb (kind_of_type t) 3 few), rw (q t, k, lies) (push_does (kind_of_type t) _ _ next few (sym (seen_at ts R.c.cells base i t (zero_of t) e))))

    byte_none : i < most → at ts i ≡ none → not (eqb (method_cell R.L.methods R.c.regs.row v) 0) ≡ false
    unfolding byte_at
    byte_none h e = rw (typed h, e)

    store_does : (h : Ty → Value → List Value → Answer ℕ Outcome) → ((t : Ty) → does (A t) ≡ popping R.M (view R.M R.c) t (h t))
        → ((t : Ty) → at ts i ≡ some t → 1 ≤ height R → fits_at R (sp_of R.c - 1) (byte_of t) ≡ true → Does R (ok (runs (stored v next))) (h t (H R (height R - 1)) (down (H R) (height R - 1))))
        → Does R (guard (ltb i most) 42 >>= λ _. store_w R.L.methods R.ancestors (stay R) R.c v next) (need (map_option A (at ts i)) 42 >>= does)
    unfolding store_w byte_at
    store_does h q s =
        numbered_does _ _ byte_none λ t k e.
        let b : method_cell R.L.methods R.c.regs.row v ≡ byte_of t = typed k ∙ rw e in
        let n = named_at ts i t named e in
        let p = byte_named t n in
        (rw (b, ne_eqb (byte_of t) 0 (λ z. omega arith)), rw (q t, b) (does_popping t _ (h t) n λ l fit. s t e l fit))

  pub ldarg_does : (new : Allocator) (i next : ℕ)
      → Does R (ldarg_w R.variables (stay R) R.c i next) (need (map_option (Act.ldarg i) (at (arguments (m R)) i)) 42 >>= λ a. act new R.M (view R.M R.c) (m R) a next)
  unfolding ldarg_w act view running_of frame_at
  ldarg_does new i next =
      load_does new (arguments (m R)) i i 8 R.c.regs.fp (arguments_few R.M R.fin R.c.regs.row) (arguments_named R.M R.fin R.c.regs.row)
      (λ h. R.hold.by_method.argument_type R.c.regs.row i h) (λ h. omega arith) refl (Act.ldarg i) next (λ t. refl)

  pub ldloc_does : (new : Allocator) (i next : ℕ)
      → Does R (ldloc_w R.variables (stay R) R.c i next) (need (map_option (Act.ldloc i) (at (m R).locals i)) 42 >>= λ a. act new R.M (view R.M R.c) (m R) a next)
  unfolding ldloc_w act view running_of frame_at
  ldloc_does new i next =
      load_does new (m R).locals i (8 + i) 16 (R.c.regs.fp + 8) (locals_few R.M R.fin R.c.regs.row) (locals_named R.M R.fin R.c.regs.row)
      (λ h. R.hold.by_method.local_type_lem R.c.regs.row i h) (λ h. omega arith) (omega arith) (Act.ldloc i) next (λ t. refl)

  pub starg_does : (new : Allocator) (i next : ℕ)
      → Does R (starg_w R.L.methods R.ancestors (stay R) R.c i next) (need (map_option (Act.starg i) (at (arguments (m R)) i)) 42 >>= λ a. act new R.M (view R.M R.c) (m R) a next)
  unfolding starg_w act do_starg
  starg_does new i next =
      store_does new (arguments (m R)) i i 8 R.c.regs.fp (arguments_few R.M R.fin R.c.regs.row) (arguments_named R.M R.fin R.c.regs.row)
      (λ h. R.hold.by_method.argument_type R.c.regs.row i h) (λ h. omega arith) refl (Act.starg i) next _ (λ t. refl) (λ t e l fit. arg_stored next l i t e fit)

  pub stloc_does : (new : Allocator) (i next : ℕ)
      → Does R (stloc_w R.L.methods R.ancestors (stay R) R.c i next) (need (map_option (Act.stloc i) (at (m R).locals i)) 42 >>= λ a. act new R.M (view R.M R.c) (m R) a next)
  unfolding stloc_w act do_stloc
  stloc_does new i next =
      store_does new (m R).locals i (8 + i) 16 (R.c.regs.fp + 8) (locals_few R.M R.fin R.c.regs.row) (locals_named R.M R.fin R.c.regs.row)
      (λ h. R.hold.by_method.local_type_lem R.c.regs.row i h) (λ h. omega arith) (omega arith) (Act.stloc i) next _ (λ t. refl) (λ t e l fit. loc_stored next l i t e fit)
