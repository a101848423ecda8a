-- callvirt on the arrays is the model's through the view.
use Prim.Native.Nat.{ℕ, zero, suc, ◌+◌, ◌-◌, ◌*◌, ◌≤◌, ◌<◌}
use mathlib.Core.Path.{◌≡◌, refl, sym, ap, ◌∙◌}
use mathlib.Core.Bool.{Bool, true, false}
use mathlib.Core.Option.{Option, none, some}
use mathlib.Core.List.{List, ◌∷◌, ◌++◌}
use native.Mathlib.Omega.{arith}
use native.Mathlib.Nat.{add-zero}
use lib.ListN.{length, get_or}
use lib.Dec.{eqb}
use borrow.Author.Tests.{ne_eqb}
use Rattle.model.specs.Answer.{◌>>=◌, guard, need, pick, or_else, at, row}
use Rattle.model.specs.Tables.{Ty, class, byte_of, Sort, static, instance, virtual, constructor, initialiser, sort_byte, is_sort, Method, method_at, this_of, arguments, due, root}
use Rattle.model.specs.Loading.{within}
use Rattle.model.specs.Code.{Act, method_of, dispatched}
use Rattle.model.specs.State.{vnull, enter}
use Rattle.model.specs.Step.{Allocator, push, started_by_call, starting, choose_up, choose, do_callvirt, act}
use Rattle.loaded.specs.Holds.{method_cell, from_row}
use Rattle.state.specs.View.{down, span, view}
use Rattle.state.specs.Work.{sp_of, kind_at, bits_at, class_of, refers_w, fit_all_w, is_token, row_of_token, is_method, callvirt_sort, invoke_w, chosen_row, callvirt_row}
use Rattle.faithful.proofs.Lists.{and_l, and_r, get_d_span}
use Rattle.faithful.proofs.Rows.{row_in, row_some, method_is, method_token, dispatched_is, arguments_named, Alike, chosen_alike, rooted, alike_kinds, alike_due}
use Rattle.faithful.proofs.Sim.{Running, Does, H, height, floor, m, stay, height_is, does_only, fits_at, fits_from, does_taking, does_starting}
use Rattle.faithful.proofs.References.{reference_fits, reference_bits, refers_by_type, object_class}
use Rattle.faithful.proofs.Calls.{does_null, enter_handed, arg_types, due_is, due_room, owned, method_found}

or_some : (o : Option ℕ) (r : ℕ) → ((x : ℕ) → o ≡ some x → 0 < x) → or_else o r ≡ pick (eqb (or_else o 0) 0) r (or_else o 0)
unfolding or_else pick
or_some none r h = refl
or_some (some x) r h = let p = h x refl in rw (ne_eqb x 0 (λ e. omega arith))

-- `this` comes first
this_first : (s : Sort) (o : ℕ) (ts : List Ty) → within 1 2 (sort_byte s) ≡ true → this_of s o ++ ts ≡ class o ∷ ts
unfolding this_of within sort_byte
this_first static o ts e = let z : ◌≡◌ {A = ℕ} 0 1 = cc in absurd (omega arith)
this_first instance o ts e = refl
this_first virtual o ts e = refl
this_first constructor o ts e = let z : ◌≡◌ {A = ℕ} 0 1 = cc in absurd (omega arith)
this_first initialiser o ts e = let z : ◌≡◌ {A = ℕ} 0 1 = cc in absurd (omega arith)

alike_refl : (k : Method) → Alike k k
alike_refl k = record { same_sort = refl; same_params = refl; same_returns = refl }

module _ (R : Running) where
  abbrev method_of_row : ℕ → Method
  method_of_row r = method_at R.M.methods r

  -- how many arguments a method row takes
  abbrev takes : ℕ → ℕ
  takes r = method_cell R.L.methods r 28

  -- the first of the cells that fit
  first_fit : (r n i s : ℕ) → 0 < n → fits_from R r n i s ≡ true → fits_at R s (method_cell R.L.methods r i) ≡ true
  unfolding fit_all_w
  first_fit r zero i s h e = absurd (omega arith)
  first_fit r (suc n) i s h e = and_l (fits_at R s (method_cell R.L.methods r i)) (fits_from R r n (suc i) (suc s)) e

  these : (r : ℕ) → within 1 2 (sort_byte (method_of_row r).sort) ≡ true → arguments (method_of_row r) ≡ class (method_of_row r).owner ∷ (method_of_row r).params
  unfolding arguments
  these r s = this_first (method_of_row r).sort (method_of_row r).owner (method_of_row r).params s

  at_first : (r : ℕ) → arguments (method_of_row r) ≡ class (method_of_row r).owner ∷ (method_of_row r).params → at (arguments (method_of_row r)) 0 ≡ some (class (method_of_row r).owner)
  unfolding at
  at_first r e = rw e

  -- `this` of a call is a reference that fits the method's class
  this_reference : (r : ℕ) → within 1 2 (sort_byte (method_of_row r).sort) ≡ true → (s : ℕ) → fits_from R r (takes r) 0 s ≡ true
      → (0 < takes r) × ((kind_at R.c s ≡ 0) × (refers_w R.ancestors R.c.classes (bits_at R.c s) (32 + (method_of_row r).owner) ≡ true))
  unfolding byte_of
  this_reference r s d fit =
      let a : arguments (method_of_row r) ≡ class (method_of_row r).owner ∷ (method_of_row r).params = these r s in
      let n : takes r ≡ length (arguments (method_of_row r)) = R.hold.by_method.argument_count r in
      let k : length (arguments (method_of_row r)) ≡ suc (length (method_of_row r).params) = rw a in
      let pos : 0 < takes r = omega arith in
      let ty : method_cell R.L.methods r (0 + 0) ≡ byte_of (class (method_of_row r).owner) = arg_types R r 0 (class (method_of_row r).owner) (at_first r a) in
      (pos, reference_fits R d (method_of_row r).owner (rw ty at (first_fit r (takes r) 0 d pos fit)))

  root_is : (r : ℕ) → row R.M.methods r ≡ some (method_of_row r) → method_cell R.L.methods r 30 ≡ root R.M.methods r
  unfolding from_row
  root_is r e = R.hold.by_method.root_at_lem r ∙ rw e

  chosen_is : (r k : ℕ) → row R.M.methods r ≡ some (method_of_row r) → 0 < k → k ≤ length R.M.parents → chosen_row R.L.methods R.chosen r k ≡ choose R.M r (method_of_row r) k
  unfolding chosen_row choose is_sort sort_byte
  chosen_is r k e p q =
      let i = row_in R.M.methods r (method_of_row r) e in
      let T = rooted R.M R.fin r i.0 i.1 in
      let x : get_or R.chosen (k * 129 + root R.M.methods r) 0 ≡ or_else (choose_up R.M (root R.M.methods r) k k) 0 = R.made.by_root.row_at k (root R.M.methods r) p q T.above T.below in
      let o : or_else (choose_up R.M (root R.M.methods r) k k) r ≡ pick (eqb (or_else (choose_up R.M (root R.M.methods r) k k) 0) 0) r (or_else (choose_up R.M (root R.M.methods r) k k) 0) =
      or_some (choose_up R.M (root R.M.methods r) k k) r (λ y e. (chosen_alike R.M R.fin r k y i.0 i.1 e).0.0) in
      rw (R.hold.by_method.sort r, root_is r e, x, o)

  -- the method taken is a row, and takes and gives what the one named does
  taken_alike : (r k : ℕ) → 0 < r → r ≤ length R.M.methods
      → ((0 < choose R.M r (method_of_row r) k) × (choose R.M r (method_of_row r) k ≤ length R.M.methods)) × Alike (method_of_row (choose R.M r (method_of_row r) k)) (method_of_row r)
  unfolding choose pick or_else
  taken_alike r k lo hi = go (is_sort (method_of_row r).sort virtual) (choose_up R.M (root R.M.methods r) k k) (λ y e. chosen_alike R.M R.fin r k y lo hi e) where
    go : (b : Bool) (o : Option ℕ) → ((y : ℕ) → o ≡ some y → ((0 < y) × (y ≤ length R.M.methods)) × Alike (method_of_row y) (method_of_row r))
        → ((0 < pick b (or_else o r) r) × (pick b (or_else o r) r ≤ length R.M.methods)) × Alike (method_of_row (pick b (or_else o r) r)) (method_of_row r)
    go true none f = ((lo, hi), alike_refl _)
    go true (some y) f = f y refl
    go false o f = ((lo, hi), alike_refl _)

  taken_row : (x : ℕ) → 0 < x → x ≤ length R.M.methods → row R.M.methods x ≡ some (method_of_row x)
  taken_row x lo hi = let (k, e) = row_some R.M.methods x lo hi in e ∙ ap some (sym (method_is R.M.methods x k e))

  -- after the null test
  virtual_start : (r s d k : ℕ) → s ≡ floor R + d → row R.M.methods r ≡ some (method_of_row r) → fits_from R r (takes r) 0 s ≡ true → d + length (due (method_of_row r)) ≤ 32
      → s ≡ sp_of R.c - takes r → 0 < k → k ≤ length R.M.parents
      → Does R (invoke_w R.L.methods R.L.initialisers R.c (chosen_row R.L.methods R.chosen r k) (takes r))
      (starting R.M (view R.M R.c) (some (method_of_row (choose R.M r (method_of_row r) k)).owner) λ marks.
      push (view R.M R.c) marks (view R.M R.c).heap (down (H R) d) (enter (choose R.M r (method_of_row r) k) (method_of_row (choose R.M r (method_of_row r) k)) (span (H R) d (takes r))))
  unfolding invoke_w
  virtual_start r s d k x e fit w y p q =
      let i = row_in R.M.methods r (method_of_row r) e in
      let T = taken_alike r k i.0 i.1 in
      let o = owned R (choose R.M r (method_of_row r) k) (taken_row (choose R.M r (method_of_row r) k) T.0.0 T.0.1) in
      rw (chosen_is r k e p q, R.hold.by_method.owner (choose R.M r (method_of_row r) k), ← y) (does_starting R _ o.0 o.1 _ _ λ marks gm.
      enter_handed R r (choose R.M r (method_of_row r) k) (takes r) s d marks refl x gm (alike_kinds R.M R.fin (method_of_row (choose R.M r (method_of_row r) k)) (method_of_row r) T.1)
      (due_room R (choose R.M r (method_of_row r) k) d (rw (alike_due R.M R.fin (method_of_row (choose R.M r (method_of_row r) k)) (method_of_row r) T.1) w)) fit)

  callvirt_row_lem : (r : ℕ) → row R.M.methods r ≡ some (method_of_row r) → within 1 2 (sort_byte (method_of_row r).sort) ≡ true
      → Does R (callvirt_row R.L.methods R.L.initialisers R.ancestors R.chosen (stay R) R.c r) (do_callvirt R.M (view R.M R.c) (m R) r (method_of_row r))
  unfolding callvirt_row do_callvirt started_by_call view
  callvirt_row_lem r e s =
      let n : ℕ = takes r in
      let d : ℕ = height R - n in
      let p : ℕ = sp_of R.c - n in
      let x = (height_is R).0 in
      let o = owned R r e in
      let lo = o.0 in
      does_taking R (arguments (method_of_row r)) r n 0 _ _ _ _ (R.hold.by_method.argument_count r) (due_is R r) (arguments_named R.M R.fin r) (arg_types R r) λ l fit w.
      let y : p ≡ floor R + d = omega arith in
      let T = this_reference r s p fit in
      does_null R (bits_at R.c p) _ _ _ (rw (get_d_span (H R) d n 0 vnull T.0, add-zero d) (reference_bits R p d y T.1.0)) λ nz.
      let K = refers_by_type R (bits_at R.c p) (method_of_row r).owner lo (omega arith) T.1.1 nz in
      rw (object_class R (bits_at R.c p) nz, K.place_is) (virtual_start r p d (class_of R.c.classes (bits_at R.c p)) y e fit w refl K.class_above K.class_row)

  pub callvirt_does : (new : Allocator) (t next : ℕ)
      → Does R (guard (is_method R.L.counts.methods R.L.methods callvirt_sort t) 42 >>= λ _. callvirt_row R.L.methods R.L.initialisers R.ancestors R.chosen (stay R) R.c (row_of_token t))
      (need (method_of R.M dispatched Act.callvirt t) 42 >>= λ a. act new R.M (view R.M R.c) (m R) a next)
  unfolding is_method act
  callvirt_does new t next =
      rw (method_token R.M dispatched Act.callvirt t) (does_only R _ _ 42 _ _ _ (rw (R.hold.method_count, R.hold.by_method.sort (row_of_token t), dispatched_is (method_of_row (row_of_token t)).sort)) λ q.
      callvirt_row_lem (row_of_token t) (method_found R _ t q)
      (rw (R.hold.by_method.sort (row_of_token t)) at (and_r (is_token 6 R.L.counts.methods t) (within 1 2 (method_cell R.L.methods (row_of_token t) 24)) q)))
