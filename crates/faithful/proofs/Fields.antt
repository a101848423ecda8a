-- Fields and casts on the arrays are the model's through the view.
use Prim.Native.Nat.{ℕ, zero, suc, ◌+◌, ◌-◌, ◌*◌, ◌≤◌, ◌<◌}
use mathlib.Core.Path.{◌≡◌, refl, sym, ap, ◌∙◌}
use mathlib.Core.Bool.{Bool, true, false, not, ◌&&◌}
use mathlib.Core.Option.{Option, none, some}
use mathlib.Core.List.{List, [], ◌∷◌}
use native.Mathlib.Omega.{arith}
use native.Mathlib.Nat.{add-zero}
use lib.ListN.{length, get_or, set, length-set, length-map}
use lib.Dec.{leb, eqb}
use borrow.Author.Tests.{eqb-true, leb-true, ne_eqb}
use Rattle.model.specs.Answer.{Answer, bad, ok, ◌>>=◌, guard, need, pick, map_option, or_else, at, row}
use Rattle.model.specs.Tables.{class, byte_of, field_types, Field}
use Rattle.model.specs.Loading.{within, no_field}
use Rattle.model.specs.Code.{Act, class_of, field_of}
use Rattle.model.specs.Operators.{kind_number, reference, same, flag}
use Rattle.model.specs.State.{Value, vnull, zero_of, store, object_at, fits_value, fit_all, Machine}
use Rattle.model.specs.Step.{Outcome, Allocator, moved, with_top, move, move_with, started_by_field, do_cast, slot_in, do_ldfld, with_cell, do_stfld, do_ldsfld, do_stsfld, act}
use Rattle.loaded.specs.Holds.{from_row, field_cell}
use Rattle.state.specs.View.{down, span, kind_by, kind_of_type, refer_to, value_by, seen, cell, top_of, height_of, running_of, frame_at, waits_of, types_of, static_types, heap_of, marks_of, view}
use Rattle.state.specs.Order.{Named, GoodMarks}
use Rattle.state.specs.Work.{Went, runs, with_cells, with_statics, with_marks, with_heap, sp_of, kind_at, bits_at, goto, put, few, refers_w, is_token, row_of_token, cast_w, ldfld_row, stfld_row, ldsfld_row, stsfld_row, is_field}
use Rattle.faithful.proofs.Lists.{and_true, and_l, and_r, at_in, get_d_span, set_same}
use Rattle.faithful.proofs.Seen.{kind_few, byte_kind, seen_at, seen_set, refers_seen}
use Rattle.faithful.proofs.Rows.{field_at, row_is, field_token, class_token, token_row}
use Rattle.faithful.proofs.Slots.{slot_found, static_found}
use Rattle.faithful.proofs.Frames.{frames_good, put_good, put_view, marks_good}
use Rattle.faithful.proofs.Heap.{object_seen, heap_put, put_heap_good}
use Rattle.faithful.proofs.Sim.{Sim, Running, Does, H, height, floor, m, stay, height_is, does_goes, does_guard, does_only, does_pop, does_pops, does_room1, does_starting, classes_few, fits_at, fit_cell, cell_fit}
use Rattle.faithful.proofs.Values.{kind_seen, does_put, does_popping}
use Rattle.faithful.proofs.References.{Names, class_fit, reference_bits, refers_by_row}
use Rattle.faithful.proofs.Calls.{does_null}

value_reference : (b : ℕ) → value_by 0 b ≡ refer_to b
unfolding value_by
value_reference b = refl

reference_is : (k : ℕ) → same (kind_by k) reference ≡ eqb k 0
unfolding same kind_by kind_number
reference_is zero = refl
reference_is (suc zero) = refl
reference_is (suc (suc zero)) = refl
reference_is (suc (suc (suc k))) = rw (ne_eqb (suc (suc (suc k))) 0 (λ e. omega arith))

-- two tests with one number
both_tests : (a b : Bool) (n : ℕ) (f : Unit {0} → Answer ℕ Went) → (guard a n >>= λ _. guard b n >>= f) ≡ (guard (a && b) n >>= f)
unfolding guard ◌>>=◌
both_tests true b n f = refl
both_tests false b n f = refl

module _ (R : Running) where
  both_does : (t a b : Bool) (f : Unit {0} → Answer ℕ Went) (x : Answer ℕ Outcome) → Does R (guard t 43 >>= λ _. guard (a && b) 45 >>= f) x → Does R (guard t 43 >>= λ _. guard a 45 >>= λ _. guard b 45 >>= f) x
  both_does t a b f x s = rw (both_tests a b 45 f) s

  -- ---- Casts

  cell_reference : (i d : ℕ) → i ≡ floor R + d → kind_at R.c i ≡ 0 → H R d ≡ refer_to (bits_at R.c i)
  unfolding cell value_by
  cell_reference i d x e = rw (← x, e)

  -- both misses
  cast_on : (t : Bool) (b : ℕ) (miss : Answer ℕ ℕ) (missed : Answer ℕ Value) (f : ℕ → Answer ℕ Went) (h : Value → Answer ℕ Outcome)
      → Does R (f b) (h (refer_to b)) → Does R (miss >>= f) (missed >>= h) → Does R (pick t (ok b) miss >>= f) (pick t (ok (refer_to b)) missed >>= h)
  unfolding pick ◌>>=◌
  cast_on true b miss missed f h p q = p
  cast_on false b miss missed f h p q = q

  -- another reference on top of the stack
  put_reference : (o b : ℕ) → 1 ≤ height R → kind_at R.c (sp_of R.c - 1) ≡ 0
      → Does R (ok (runs (with_cells (goto R.c o (sp_of R.c)) (set R.c.cells (sp_of R.c - 1) b) R.c.kinds))) (move (view R.M R.c) o (refer_to b ∷ down (H R) (height R - 1)))
  unfolding put goto
  put_reference o b l e =
      let x = (height_is R).0 in
      let y : sp_of R.c - 1 + 1 ≡ sp_of R.c = omega arith in
      rw (y, set_same R.c.kinds (sp_of R.c - 1) 0 (omega arith) e) at
      (does_put R o (sp_of R.c - 1) (height R - 1) 0 b (refer_to b) (omega arith) (omega arith) (omega arith) (value_reference b))

  cast_row : (r next : ℕ) (miss : Answer ℕ ℕ) (missed : Answer ℕ Value) → 0 < r → r ≤ 32
      → ((f : ℕ → Answer ℕ Went) (h : Value → Answer ℕ Outcome) → ((b : ℕ) → Does R (f b) (h (refer_to b))) → Does R (miss >>= f) (missed >>= h))
      → Does R (guard (few (stay R) R.c 1) 43 >>= λ _. guard (eqb (kind_at R.c (sp_of R.c - 1)) 0) 45 >>= λ _. pick (refers_w R.ancestors R.c.classes (bits_at R.c (sp_of R.c - 1)) r) (ok (bits_at R.c (sp_of R.c - 1))) miss >>= λ b. ok (runs (with_cells (goto R.c next (sp_of R.c)) (set R.c.cells (sp_of R.c - 1) b) R.c.kinds)))
      (do_cast R.M (view R.M R.c) r missed next)
  unfolding do_cast view running_of frame_at
  cast_row r next miss missed pos most on =
      let d : ℕ = height R - 1 in
      let i : ℕ = sp_of R.c - 1 in
      let y = (height_is R).0 in
      does_pop R _ _ λ l.
      let x : i ≡ floor R + d = omega arith in
      does_guard R _ _ 45 _ _ (rw (kind_seen R i d x) (reference_is (kind_at R.c i))) λ q.
      let k : kind_at R.c i ≡ 0 = eqb-true _ _ q in
      let v : H R d ≡ refer_to (bits_at R.c i) = cell_reference i d x k in
      rw (v, refers_seen R.M R.ancestors R.made.by_class R.c R.g.heap.classes_long (classes_few R) (bits_at R.c i) r pos most)
      (cast_on (refers_w R.ancestors R.c.classes (bits_at R.c i) r) (bits_at R.c i) miss missed _ _ (put_reference next (bits_at R.c i) l k) (on _ _ (λ b. put_reference next b l k)))

  -- a token's row is one of the rows
  token_rows : (k n t : ℕ) → is_token k n t ≡ true → (0 < row_of_token t) × (row_of_token t ≤ n)
  unfolding within
  token_rows k n t e =
      let w = token_row k n t e in
      let lo : 1 ≤ row_of_token t = leb-true 1 (row_of_token t) (and_l (leb 1 (row_of_token t)) (leb (row_of_token t) n) w) in
      (omega arith, leb-true (row_of_token t) n (and_r (leb 1 (row_of_token t)) (leb (row_of_token t) n) w))

  missed_35 : (f : ℕ → Answer ℕ Went) (h : Value → Answer ℕ Outcome) → ((b : ℕ) → Does R (f b) (h (refer_to b))) → Does R (bad 35 >>= f) (bad 35 >>= h)
  unfolding Does Sim ◌>>=◌
  missed_35 f h s = refl

  missed_null : (f : ℕ → Answer ℕ Went) (h : Value → Answer ℕ Outcome) → ((b : ℕ) → Does R (f b) (h (refer_to b))) → Does R (ok 0 >>= f) (ok vnull >>= h)
  unfolding ◌>>=◌ refer_to
  missed_null f h s = s 0

  class_rows : (t : ℕ) → is_token 2 R.L.counts.classes t ≡ true → (0 < row_of_token t) × (row_of_token t ≤ 32)
  class_rows t q = let w = token_rows 2 R.L.counts.classes t q in let lo = w.0 in (lo, omega arith)

  pub castclass_does : (new : Allocator) (t next : ℕ)
      → Does R (cast_w R.L.counts.classes R.ancestors (stay R) R.c t (bad 35) next) (need (map_option Act.castclass (class_of R.M t)) 42 >>= λ a. act new R.M (view R.M R.c) (m R) a next)
  unfolding cast_w act
  castclass_does new t next =
      rw (class_token R.M Act.castclass t) (does_only R _ _ 42 _ _ _ (rw R.hold.class_count) λ q.
      let w = class_rows t q in
      cast_row (row_of_token t) next (bad 35) (bad 35) w.0 w.1 missed_35)

  pub isinst_does : (new : Allocator) (t next : ℕ)
      → Does R (cast_w R.L.counts.classes R.ancestors (stay R) R.c t (ok 0) next) (need (map_option Act.isinst (class_of R.M t)) 42 >>= λ a. act new R.M (view R.M R.c) (m R) a next)
  unfolding cast_w act
  isinst_does new t next =
      rw (class_token R.M Act.isinst t) (does_only R _ _ 42 _ _ _ (rw R.hold.class_count) λ q.
      let w = class_rows t q in
      cast_row (row_of_token t) next (ok 0) (ok vnull) w.0 w.1 missed_null)

  -- ---- Instance fields

  -- a value stored at s, with other marks
  put_marked : (o s d k b : ℕ) (v : Value) (marks : List ℕ) → s ≡ floor R + d → GoodMarks R.M marks → d < 32 → k ≤ 3 → value_by k b ≡ v
      → Does R (ok (runs (with_marks (put R.c o s k b) marks))) (move_with (view R.M R.c) (view R.M R.c).statics (marks_of R.M marks) (view R.M R.c).heap o (v ∷ down (H R) d))
  unfolding move_with put goto view running_of frame_at waits_of heap_of with_top moved top_of height_of
  put_marked o s d k b v marks x gm h q e =
      let marked : Machine → Machine = λ s. record { top = s.top; below = s.below; statics = s.statics; marks = marks_of R.M marks; heap = s.heap } in
      does_goes R _ _ (marks_good R.M R.fin (put R.c o s k b) (put_good R.M R.fin R.c R.g o s d k b x h q) marks gm) (rw (← e) (ap marked (put_view R.M R.fin R.c R.g o s d k b x h)))

  object_at_lem : (b : ℕ) → (b ≡ 0 → ⊥) → 0 < get_or R.c.classes (b - 1) 0
      → object_at (heap_of R.M R.c) b ≡ record { class = get_or R.c.classes (b - 1) 0; cells = seen (types_of R.M (get_or R.c.classes (b - 1) 0)) R.c.heap ((b - 1) * 8) }
  unfolding heap_of
  object_at_lem zero nz h = absurd (nz refl)
  object_at_lem (suc n) nz h = let x : suc n - 1 ≡ n = omega arith in rw x (object_seen R.M R.fin R.c.regs.made R.c.classes R.c.heap R.g.heap n (rw x at h))

  module _ (r : ℕ) (d : Field) (e : row R.M.fields r ≡ some d) where
    slot_is : field_cell R.L.fields r 3 ≡ slot_in R.M r d
    unfolding slot_in from_row
    slot_is = R.hold.by_field.slot_at r ∙ rw e

    owner_is : field_cell R.L.fields r 0 ≡ d.owner
    unfolding from_row
    owner_is = R.hold.by_field.owner r ∙ rw e

    type_is : field_cell R.L.fields r 2 ≡ byte_of d.type
    unfolding from_row
    type_is = R.hold.by_field.type r ∙ rw e

    -- the owner is a class
    owner_row : (0 < d.owner) × ((d.owner ≤ length R.M.parents) × (d.owner ≤ 32))
    owner_row = let o = (R.fin.field r d e).owned in let lo = o.0 in let hi = o.1 in (lo, (hi, omega arith))

    field_read : (b : ℕ) → d.is_static ≡ false → (b ≡ 0 → ⊥) → Names R b d.owner
        → get_or (object_at (heap_of R.M R.c) b).cells (slot_in R.M r d) (zero_of d.type) ≡ value_by (kind_of_type d.type) (get_or R.c.heap ((b - 1) * 8 + slot_in R.M r d) 0)
    field_read b s nz K =
        rw (object_at_lem b nz K.class_above) (seen_at (types_of R.M (get_or R.c.classes (b - 1) 0)) R.c.heap ((b - 1) * 8) (slot_in R.M r d) d.type (zero_of d.type) (slot_found R.M R.fin r (get_or R.c.classes (b - 1) 0) d e s K.class_descends))

    -- whether a cell is a reference that fits the owner
    abbrev owned : ℕ → Bool
    owned i = eqb (kind_at R.c i) 0 && refers_w R.ancestors R.c.classes (bits_at R.c i) d.owner

    one_fits : 1 ≤ height R → fit_all (fits_value R.M (heap_of R.M R.c)) (class d.owner ∷ []) (span (H R) (height R - 1) 1) ≡ owned (sp_of R.c - 1)
    unfolding fit_all span
    one_fits l =
        let y = (height_is R).0 in
        let o = owner_row in
        and_true _ ∙ class_fit R (sp_of R.c - 1) (height R - 1) d.owner (omega arith) o.0 o.1.1

    -- what such a cell names, if it isn't null
    owner_named : (i : ℕ) → owned i ≡ true → (kind_at R.c i ≡ 0) × ((bits_at R.c i ≡ 0 → ⊥) → Names R (bits_at R.c i) d.owner)
    owner_named i q =
        let o = owner_row in
        let f : refers_w R.ancestors R.c.classes (bits_at R.c i) d.owner ≡ true = and_r (eqb (kind_at R.c i) 0) (refers_w R.ancestors R.c.classes (bits_at R.c i) d.owner) q in
        (eqb-true _ _ (and_l (eqb (kind_at R.c i) 0) (refers_w R.ancestors R.c.classes (bits_at R.c i) d.owner) q), λ nz. refers_by_row R (bits_at R.c i) d.owner o.0 o.1.1 f nz)

    ldfld_row_lem : (next : ℕ) → d.is_static ≡ false → Does R (ldfld_row R.L.fields R.L.initialisers R.ancestors (stay R) R.c r next) (do_ldfld R.M (view R.M R.c) r d next)
    unfolding ldfld_row do_ldfld started_by_field view running_of frame_at
    ldfld_row_lem next s =
        let o = owner_row in
        let y = (height_is R).0 in
        let i : ℕ = sp_of R.c - 1 in
        let j : ℕ = height R - 1 in
        let b : ℕ = bits_at R.c i in
        rw (owner_is, slot_is, type_is, byte_kind d.type) (does_pops R (fits_value R.M (heap_of R.M R.c)) (class d.owner ∷ []) 1 _ _ _ refl (λ l. one_fits l) λ l q.
        let x : i ≡ floor R + j = omega arith in
        let N = owner_named i q in
        does_starting R d.owner o.0 o.1.0 _ _ λ marks gm.
        does_null R b _ _ _ (rw (get_d_span (H R) j 1 0 vnull (omega arith), add-zero j) (reference_bits R i j x N.0)) λ nz.
        let K = N.1 nz in
        rw K.place_is (put_marked next i j _ _ _ marks x gm (omega arith) (kind_few d.type) (sym (field_read b s nz K))))

    -- the field's cell of an object written, with other marks
    stored_field : (o s h b v : ℕ) (marks : List ℕ) → s ≡ floor R + h → GoodMarks R.M marks → h ≤ 32 → d.is_static ≡ false → (b ≡ 0 → ⊥) → Names R b d.owner
        → Does R (ok (runs (with_marks (with_heap (goto R.c o s) R.c.classes (set R.c.heap ((b - 1) * 8 + slot_in R.M r d) v)) marks)))
        (move_with (view R.M R.c) (view R.M R.c).statics (marks_of R.M marks) (store (view R.M R.c).heap b (with_cell (object_at (view R.M R.c).heap b) (slot_in R.M r d) (value_by (kind_of_type d.type) v))) o (down (H R) h))
    unfolding move_with goto view running_of frame_at waits_of heap_of moved top_of height_of
    stored_field o s h b v marks x gm hi st nz K =
        let G = R.g.frames in
        let found : at (types_of R.M (get_or R.c.classes (b - 1) 0)) (slot_in R.M r d) ≡ some d.type = slot_found R.M R.fin r (get_or R.c.classes (b - 1) 0) d e st K.class_descends in
        let y : suc (b - 1) ≡ b = omega arith in
        let z : s - (R.c.regs.fp + 24) ≡ h = omega arith in
        does_goes R _ _
        (record {
          frames = frames_good R.M R.fin R.c _ G refl refl (omega arith) (omega arith) G.cells_long G.kinds_long G.kindly (λ f q j i. refl) refl;
          statics_long = R.g.statics_long;
          marks = gm;
          heap = put_heap_good R.M R.fin R.c.regs.made R.c.classes R.c.heap R.g.heap (b - 1) (slot_in R.M r d) v d.type found;
        })
        (rw (z, heap_put R.M R.fin R.c.regs.made R.c.classes R.c.heap R.g.heap (b - 1) (slot_in R.M r d) v d.type K.class_above found, y))

    -- the reference and the value, the second on top
    two_fit : 2 ≤ height R → Named d.type
        → fit_all (fits_value R.M (heap_of R.M R.c)) (class d.owner ∷ d.type ∷ []) (span (H R) (height R - 2) 2) ≡ (owned (sp_of R.c - 2) && fits_at R (sp_of R.c - 1) (byte_of d.type))
    unfolding fit_all span
    two_fit l nm =
        let y = (height_is R).0 in
        let o = owner_row in
        let x : suc (height R - 2) ≡ height R - 1 = omega arith in
        rw (x, class_fit R (sp_of R.c - 2) (height R - 2) d.owner (omega arith) o.0 o.1.1, fit_cell R (sp_of R.c - 1) (height R - 1) d.type (omega arith) nm, and_true (fits_at R (sp_of R.c - 1) (byte_of d.type)))

    second_got : (n : ℕ) → 2 ≤ n → get_or (span (H R) (n - 2) 2) 1 vnull ≡ H R (n - 1)
    second_got n h = let x : n - 2 + 1 ≡ n - 1 = omega arith in get_d_span (H R) (n - 2) 2 1 vnull (omega arith) ∙ rw x

    first_got : (n : ℕ) → get_or (span (H R) (n - 2) 2) 0 vnull ≡ H R (n - 2)
    first_got n = get_d_span (H R) (n - 2) 2 0 vnull (omega arith) ∙ rw (add-zero (n - 2))

    stfld_row_lem : (next : ℕ) → d.is_static ≡ false → Does R (stfld_row R.L.fields R.L.initialisers R.ancestors (stay R) R.c r next) (do_stfld R.M (view R.M R.c) r d next)
    unfolding stfld_row do_stfld started_by_field view running_of frame_at
    stfld_row_lem next s =
        let F = R.fin.field r d e in
        let o = owner_row in
        let y = (height_is R).0 in
        let n : ℕ = height R in
        let i : ℕ = sp_of R.c - 2 in
        let p : ℕ = sp_of R.c - 1 in
        rw (owner_is, slot_is, type_is) (both_does (few (stay R) R.c 2) (owned i) (fits_at R p (byte_of d.type)) _ _ (does_pops R (fits_value R.M (heap_of R.M R.c)) (class d.owner ∷ d.type ∷ []) 2 _ _ _ refl (λ l. two_fit l F.named) λ l q.
        let x : i ≡ floor R + (n - 2) = omega arith in
        let N = owner_named i (and_l (owned i) (fits_at R p (byte_of d.type)) q) in
        let val : H R (n - 1) ≡ value_by (kind_of_type d.type) (bits_at R.c p) = cell_fit R p (n - 1) d.type (omega arith) (and_r (owned i) (fits_at R p (byte_of d.type)) q) in
        does_starting R d.owner o.0 o.1.0 _ _ λ marks gm.
        does_null R (bits_at R.c i) _ _ _ (rw (first_got n) (reference_bits R i (n - 2) x N.0)) λ nz.
        let K = N.1 nz in
        rw (K.place_is, second_got n l, val) (stored_field next i (n - 2) (bits_at R.c i) (bits_at R.c p) marks x gm (omega arith) s nz K)))

    -- ---- Static fields

    static_read : d.is_static ≡ true → get_or (view R.M R.c).statics (slot_in R.M r d) (zero_of d.type) ≡ value_by (kind_of_type d.type) (get_or R.c.statics (slot_in R.M r d) 0)
    unfolding view
    static_read s =
        let x : 0 + slot_in R.M r d ≡ slot_in R.M r d = omega arith in
        seen_at (static_types R.M) R.c.statics 0 (slot_in R.M r d) d.type (zero_of d.type) (static_found R.M R.fin r d e s) ∙ rw x

    ldsfld_row_lem : (next : ℕ) → d.is_static ≡ true → Does R (ldsfld_row R.L.fields R.L.initialisers (stay R) R.c r next) (do_ldsfld R.M (view R.M R.c) (m R) r d next)
    unfolding ldsfld_row do_ldsfld started_by_field view running_of frame_at
    ldsfld_row_lem next s =
        let o = owner_row in
        rw (owner_is, slot_is, type_is, byte_kind d.type) (does_room1 R _ _ λ w.
        does_starting R d.owner o.0 o.1.0 _ _ λ marks gm.
        put_marked next (sp_of R.c) (height R) _ _ _ marks (height_is R).0 gm w (kind_few d.type) (sym (static_read s)))

    static_count : length (static_types R.M) ≤ 64
    unfolding static_types field_types
    static_count = let few = R.fin.statics_few in simp length-map few

    stored_static : (o s h v : ℕ) (marks : List ℕ) → s ≡ floor R + h → GoodMarks R.M marks → h ≤ 32 → d.is_static ≡ true
        → Does R (ok (runs (with_marks (with_statics (goto R.c o s) (set R.c.statics (slot_in R.M r d) v)) marks)))
        (move_with (view R.M R.c) (set (view R.M R.c).statics (slot_in R.M r d) (value_by (kind_of_type d.type) v)) (marks_of R.M marks) (view R.M R.c).heap o (down (H R) h))
    unfolding move_with goto view running_of frame_at waits_of heap_of moved top_of height_of
    stored_static o s h v marks x gm hi st =
        let G = R.g.frames in
        let few = static_count in
        let found : at (static_types R.M) (slot_in R.M r d) ≡ some d.type = static_found R.M R.fin r d e st in
        let ins : slot_in R.M r d < length (static_types R.M) = at_in (static_types R.M) (slot_in R.M r d) d.type found in
        let z : 0 + slot_in R.M r d ≡ slot_in R.M r d = omega arith in
        let y : s - (R.c.regs.fp + 24) ≡ h = omega arith in
        let w : seen (static_types R.M) (set R.c.statics (0 + slot_in R.M r d) v) 0 ≡ set (seen (static_types R.M) R.c.statics 0) (slot_in R.M r d) (value_by (kind_of_type d.type) v) =
        seen_set (static_types R.M) R.c.statics 0 (slot_in R.M r d) v d.type found (omega arith) in
        let w' : seen (static_types R.M) (set R.c.statics (slot_in R.M r d) v) 0 ≡ set (seen (static_types R.M) R.c.statics 0) (slot_in R.M r d) (value_by (kind_of_type d.type) v) = rw z at w in
        does_goes R _ _
        (record {
          frames = frames_good R.M R.fin R.c _ G refl refl (omega arith) (omega arith) G.cells_long G.kinds_long G.kindly (λ f q j i. refl) refl;
          statics_long = simp length-set R.g.statics_long;
          marks = gm;
          heap = R.g.heap;
        })
        (rw (y, w'))

    stsfld_row_lem : (next : ℕ) → d.is_static ≡ true → Does R (stsfld_row R.L.fields R.L.initialisers R.ancestors (stay R) R.c r next) (do_stsfld R.M (view R.M R.c) r d next)
    unfolding stsfld_row do_stsfld started_by_field
    stsfld_row_lem next s =
        let F = R.fin.field r d e in
        let o = owner_row in
        let y = (height_is R).0 in
        rw (owner_is, slot_is, type_is) (does_popping R d.type _ _ F.named λ l q.
        let x : sp_of R.c - 1 ≡ floor R + (height R - 1) = omega arith in
        does_starting R d.owner o.0 o.1.0 _ _ λ marks gm.
        rw (cell_fit R (sp_of R.c - 1) (height R - 1) d.type x q) (stored_static next (sp_of R.c - 1) (height R - 1) (bits_at R.c (sp_of R.c - 1)) marks x gm (omega arith) s))

  -- ---- Tokens of fields

  -- the flag of a field
  flag_is : (b : Bool) → (eqb (flag b) 0 ≡ not b) × (eqb (flag b) 1 ≡ b)
  unfolding flag
  flag_is true = (refl, refl)
  flag_is false = (refl, refl)

  flag_at : (r : ℕ) → field_cell R.L.fields r 1 ≡ flag (field_at R.M.fields r).is_static
  unfolding from_row field_at or_else no_field flag
  flag_at r = R.hold.by_field.static r ∙ go (row R.M.fields r) where
    go : (o : Option Field) → from_row (λ (d : Field). flag d.is_static) o ≡ flag (or_else o no_field).is_static
    go none = refl
    go (some d) = refl

  field_found : (b : Bool) (t : ℕ) → (is_token 4 R.L.counts.fields t && b) ≡ true → row R.M.fields (row_of_token t) ≡ some (field_at R.M.fields (row_of_token t))
  unfolding field_at
  field_found b t e =
      let q : within 1 R.L.counts.fields (row_of_token t) ≡ true = token_row 4 R.L.counts.fields t (and_l (is_token 4 R.L.counts.fields t) b e) in
      row_is R.M.fields (row_of_token t) no_field (rw R.hold.field_count at q)

  -- an access to a field of a kind, static or not
  field_does : (new : Allocator) (s : Bool) (n : ℕ) (f : ℕ → Field → Act) (t next : ℕ) (h : ℕ → Answer ℕ Went)
      → ((b : Bool) → eqb (flag b) n ≡ pick s b (not b))
      → ((r : ℕ) (d : Field) → row R.M.fields r ≡ some d → d.is_static ≡ s → Does R (h r) (act new R.M (view R.M R.c) (m R) (f r d) next))
      → Does R (guard (is_field R.L.counts.fields R.L.fields n t) 42 >>= λ _. h (row_of_token t)) (need (field_of R.M s f t) 42 >>= λ a. act new R.M (view R.M R.c) (m R) a next)
  unfolding pick is_field
  field_does new s n f t next h w k =
      rw (field_token R.M s f t) (does_only R _ _ 42 _ _ _ (rw (R.hold.field_count, flag_at (row_of_token t), w (field_at R.M.fields (row_of_token t)).is_static)) λ q.
      k (row_of_token t) (field_at R.M.fields (row_of_token t)) (field_found _ t q)
      (kind_of s (field_at R.M.fields (row_of_token t)).is_static
      (sym (w (field_at R.M.fields (row_of_token t)).is_static) ∙ (rw (flag_at (row_of_token t)) at (and_r (is_token 4 R.L.counts.fields t) (eqb (field_cell R.L.fields (row_of_token t) 1) n) q)))))
    where
      kind_of : (s b : Bool) → pick s b (not b) ≡ true → b ≡ s
      kind_of true true e = refl
      kind_of true false e = e
      kind_of false true e = sym e
      kind_of false false e = refl

  pub ldfld_does : (new : Allocator) (t next : ℕ)
      → Does R (guard (is_field R.L.counts.fields R.L.fields 0 t) 42 >>= λ _. ldfld_row R.L.fields R.L.initialisers R.ancestors (stay R) R.c (row_of_token t) next)
      (need (field_of R.M false Act.ldfld t) 42 >>= λ a. act new R.M (view R.M R.c) (m R) a next)
  unfolding act pick
  ldfld_does new t next = field_does new false 0 Act.ldfld t next (λ r. ldfld_row R.L.fields R.L.initialisers R.ancestors (stay R) R.c r next) (λ b. (flag_is b).0) (λ r d e s. ldfld_row_lem r d e next s)

  pub stfld_does : (new : Allocator) (t next : ℕ)
      → Does R (guard (is_field R.L.counts.fields R.L.fields 0 t) 42 >>= λ _. stfld_row R.L.fields R.L.initialisers R.ancestors (stay R) R.c (row_of_token t) next)
      (need (field_of R.M false Act.stfld t) 42 >>= λ a. act new R.M (view R.M R.c) (m R) a next)
  unfolding act pick
  stfld_does new t next = field_does new false 0 Act.stfld t next (λ r. stfld_row R.L.fields R.L.initialisers R.ancestors (stay R) R.c r next) (λ b. (flag_is b).0) (λ r d e s. stfld_row_lem r d e next s)

  pub ldsfld_does : (new : Allocator) (t next : ℕ)
      → Does R (guard (is_field R.L.counts.fields R.L.fields 1 t) 42 >>= λ _. ldsfld_row R.L.fields R.L.initialisers (stay R) R.c (row_of_token t) next)
      (need (field_of R.M true Act.ldsfld t) 42 >>= λ a. act new R.M (view R.M R.c) (m R) a next)
  unfolding act pick
  ldsfld_does new t next = field_does new true 1 Act.ldsfld t next (λ r. ldsfld_row R.L.fields R.L.initialisers (stay R) R.c r next) (λ b. (flag_is b).1) (λ r d e s. ldsfld_row_lem r d e next s)

  pub stsfld_does : (new : Allocator) (t next : ℕ)
      → Does R (guard (is_field R.L.counts.fields R.L.fields 1 t) 42 >>= λ _. stsfld_row R.L.fields R.L.initialisers R.ancestors (stay R) R.c (row_of_token t) next)
      (need (field_of R.M true Act.stsfld t) 42 >>= λ a. act new R.M (view R.M R.c) (m R) a next)
  unfolding act pick
  stsfld_does new t next = field_does new true 1 Act.stsfld t next (λ r. stsfld_row R.L.fields R.L.initialisers R.ancestors (stay R) R.c r next) (λ b. (flag_is b).1) (λ r d e s. stsfld_row_lem r d e next s)
