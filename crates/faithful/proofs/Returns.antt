-- ret on the arrays is the model's through the view.
use Prim.Native.Nat.{ℕ, zero, suc, ◌+◌, ◌-◌, ◌*◌, ◌≤◌}
use mathlib.Core.Path.{◌≡◌, refl, sym, ap, ◌∙◌}
use mathlib.Core.Bool.{Bool, true, false, ◌||◌}
use mathlib.Core.Option.{Option, none, some}
use mathlib.Core.List.{[], ◌++◌}
use native.Mathlib.Omega.{arith}
use native.Mathlib.Nat.{add-zero}
use lib.ListN.{length}
use lib.Dec.{eqb}
use borrow.Author.Tests.{eq-eqb, ne_eqb, eqb-true}
use Rattle.model.specs.Answer.{Answer, ◌>>=◌, guard, pick, is_nil, at}
use Rattle.model.specs.Tables.{Ty, byte_of, initialiser, sort_byte, is_sort, as_list, due}
use Rattle.model.specs.State.{fits_value, fit_all}
use Rattle.model.specs.Step.{moved, resumed, return, do_ret}
use Rattle.loaded.specs.Holds.{byte_at, method_cell}
use Rattle.state.specs.View.{down, span, at_of, top_of, running_of, frame_at, waits_of, heap_of, view}
use Rattle.state.specs.Order.{AllNamed, due_of}
use Rattle.state.specs.Work.{Went, sp_of, due_of_byte, value_due, return_w, ret_w}
use Rattle.faithful.proofs.Lists.{eqb_same}
use Rattle.faithful.proofs.Rows.{sort_is, due_named, initialiser_void}
use Rattle.faithful.proofs.Frames.{top_is, left_good, left_view}
use Rattle.faithful.proofs.Sim.{Running, Does, H, height, floor, m, stay, height_is, does_goes, does_over, does_guard, does_pops, fits_at}
use Rattle.faithful.proofs.Values.{byte_named, single_fit}
use Rattle.faithful.proofs.Calls.{due_is}

nil_down : {A : Type 0} (f : ℕ → A) (n : ℕ) → is_nil (down f n) ≡ eqb n 0
unfolding is_nil down
nil_down f zero = refl
nil_down f (suc n) = rw (ne_eqb (suc n) 0 (λ e. omega arith))

few_due : (o : Option Ty) → length (as_list o) ≤ 1
unfolding as_list
few_due none = omega arith
few_due (some t) = omega arith

-- two tests with one number, in either order
either_first : (a b d : Bool) (f : Unit {0} → Answer ℕ Went) → (a ≡ true → b ≡ d) → (guard a 45 >>= λ _. guard b 45 >>= f) ≡ (guard d 45 >>= λ _. guard a 45 >>= f)
unfolding guard ◌>>=◌
either_first true b true f h = rw (h refl) refl
either_first true b false f h = rw (h refl) refl
either_first false b true f h = refl
either_first false b false f h = refl

module _ (R : Running) where
  -- the byte of what is due, and how many values
  abbrev byte : ℕ
  byte = method_cell R.L.methods R.c.regs.row 26

  abbrev count : ℕ
  count = due_of_byte (method_cell R.L.methods R.c.regs.row 26)

  -- the value due fits, if there is one
  fits_due : (o : Option Ty) → AllNamed (as_list o) → length (as_list o) ≤ height R
      → fit_all (fits_value R.M (heap_of R.M R.c)) (as_list o) (span (H R) (height R - length (as_list o)) (length (as_list o))) ≡ (eqb (byte_at o) 0 || fits_at R (sp_of R.c - 1) (byte_at o))
  unfolding as_list byte_at fit_all AllNamed
  fits_due none n l = refl
  fits_due (some t) n l =
      let h = byte_named t n.0 in
      let e = (height_is R).0 in
      rw (ne_eqb (byte_of t) 0 (λ e. omega arith)) (single_fit R (sp_of R.c - 1) (height R - 1) t (omega arith) n.0)

  -- where nothing else is on the stack, the value due is its bottom
  fits_bottom : (t : ℕ) → sp_of R.c ≡ floor R + due_of_byte t → (eqb t 0 || fits_at R (floor R) t) ≡ (eqb t 0 || fits_at R (sp_of R.c - 1) t)
  unfolding due_of_byte pick
  fits_bottom t e = go (eqb t 0) e where
    go : (b : Bool) → sp_of R.c ≡ floor R + pick b 0 1 → (b || fits_at R (floor R) t) ≡ (b || fits_at R (sp_of R.c - 1) t)
    go true q = refl
    go false q = let x : sp_of R.c - 1 ≡ floor R = omega arith in rw x

  value_due_lem : (o : Option Ty) → value_due R.c (length (as_list o)) ≡ at (span (H R) 0 (length (as_list o))) 0
  unfolding value_due as_list span at
  value_due_lem none = refl
  value_due_lem (some t) = refl

  -- the caller's frame after the call
  resumed_is : (t n : ℕ) → n ≡ length (due (m R))
      → moved (waits_of R.M R.c t) (at_of R.c.cells t + pick (eqb (sort_byte (m R).sort) 4) 0 5) (span (H R) 0 n ++ (waits_of R.M R.c t).stack) ≡ resumed (m R) (waits_of R.M R.c t) (span (H R) 0 n)
  unfolding resumed is_sort sort_byte pick moved waits_of frame_at span
  resumed_is t n e = go (eqb (sort_byte (m R).sort) 4) (λ q. initialiser_void R.M R.fin R.c.regs.row (sort_is (m R).sort initialiser (is_initialiser q))) where
    is_initialiser : eqb (sort_byte (m R).sort) 4 ≡ true → is_sort (m R).sort initialiser ≡ true
    is_initialiser q = q

    go : (b : Bool) → (b ≡ true → due (m R) ≡ []) → moved (waits_of R.M R.c t) (at_of R.c.cells t + pick b 0 5) (span (H R) 0 n ++ (waits_of R.M R.c t).stack)
        ≡ pick b (waits_of R.M R.c t) (moved (waits_of R.M R.c t) ((waits_of R.M R.c t).offset + 5) (span (H R) 0 n ++ (waits_of R.M R.c t).stack))
    go true f = let z : n ≡ 0 = e ∙ ap length (f refl) in rw (z, add-zero (at_of R.c.cells t))
    go false f = refl

  le_due : (n : ℕ) → n ≡ length (due (m R)) → n ≤ due_of R.M R.c.regs.row
  unfolding due_of
  le_due n e = omega arith

  return_does : (n : ℕ) → n ≡ length (due (m R)) → (t : ℕ) → top_of R.c ≡ t
      → Does R (return_w R.c (sort_byte (m R).sort) n) (return (view R.M R.c) (m R) (span (H R) 0 n) (down (waits_of R.M R.c) t))
  unfolding return_w return down due pick
  return_does n e zero q = let y = top_is R.M R.fin R.c R.g in rw (eq-eqb R.c.regs.fp 0 (omega arith)) (does_over R _ _ (rw e (value_due_lem (m R).returns)))
  return_does n e (suc t) q =
      let y : R.g.frames.top ≡ suc t = sym (top_is R.M R.fin R.c R.g) ∙ q in
      let few : length (due (m R)) ≤ 1 = few_due (m R).returns in
      let le : n ≤ due_of R.M R.c.regs.row = le_due n e in
      let p : R.c.regs.fp - 64 ≡ t * 64 = omega arith in
      rw (ne_eqb R.c.regs.fp 0 (λ x. omega arith))
      (does_goes R _ _ (left_good R.M R.fin R.c R.g (R.c.regs.fp - 64) t y p _ n le) (left_view R.M R.fin R.c R.g (R.c.regs.fp - 64) t y p _ n le (omega arith) ∙ rw (resumed_is t n e)))

  pub ret_does : Does R (ret_w R.L.methods R.ancestors (stay R) R.c) (do_ret R.M (view R.M R.c) (m R))
  unfolding ret_w do_ret view running_of frame_at due
  ret_does =
      let e : count ≡ length (due (m R)) = due_is R R.c.regs.row in
      let x = (height_is R).0 in
      rw (either_first (eqb (sp_of R.c) (floor R + count)) (eqb byte 0 || fits_at R (floor R) byte) (eqb byte 0 || fits_at R (sp_of R.c - 1) byte) (λ _. return_w R.c (method_cell R.L.methods R.c.regs.row 24) count) (λ t. fits_bottom byte (eqb-true _ _ t)))
      (does_pops R (fits_value R.M (heap_of R.M R.c)) (due (m R)) count _ _ _ e (λ l. rw (e, R.hold.by_method.returns R.c.regs.row) (fits_due (m R).returns (due_named R.M R.fin R.c.regs.row) (rw (← e) l))) λ l q.
      does_guard R _ _ 45 _ _ (nil_down (H R) (height R - count) ∙ all_taken l) λ p.
      let z : sp_of R.c ≡ floor R + count = eqb-true _ _ p in
      let y : height R - count ≡ 0 = omega arith in
      rw (y, R.hold.by_method.sort R.c.regs.row) (return_does count e (top_of R.c) refl))
    where
      all_taken : count ≤ height R → eqb (height R - count) 0 ≡ eqb (sp_of R.c) (floor R + count)
      all_taken l = let x = (height_is R).0 in eqb_same (height R - count) 0 (sp_of R.c) (floor R + count) (λ e. omega arith) (λ e. omega arith)
