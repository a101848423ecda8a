-- Arguments taken from the stack, cell by cell.
use Prim.Native.Nat.{ℕ, suc, ◌+◌, ◌-◌, ◌*◌, ◌≤◌, ◌<◌}
use mathlib.Core.Path.{◌≡◌, sym, ap, ◌∙◌}
use mathlib.Core.Bool.{Bool, true, false, ◌&&◌}
use mathlib.Core.List.{List}
use native.Mathlib.Omega.{arith}
use lib.ListN.{get_or}
use borrow.Author.Tests.{le-leb, lt-leb, eq-eqb, ne_eqb}
use Rattle.model.specs.Answer.{bad, ok, ◌>>=◌, guard, pick}
use Rattle.state.specs.declared.Stay.{Stay}
use Rattle.state.specs.View.{Work}
use Rattle.state.specs.Work.{kind_at, bits_at, few, fits_w, fit_all_w, taking_w, due_of_byte}

-- ---- A loop that tests each cell

module _ (methods ancestors : List ℕ) (c : Work) (r n first from : ℕ) where
  -- what is left after i cells
  abbrev pub rest_fits : ℕ → Bool
  rest_fits i = fit_all_w methods ancestors c r (n - i) (first + i) (from + i)

  pub fit_first : rest_fits 0 ≡ fit_all_w methods ancestors c r n first from
  fit_first =
      let a : n - 0 ≡ n = omega arith in
      let e : first + 0 ≡ first = omega arith in
      let f : from + 0 ≡ from = omega arith in
      rw (a, e, f)

  module _ (i : ℕ) (h : i < n) {b : Bool} (q : b ≡ fits_w ancestors c.classes (kind_at c (from + i)) (bits_at c (from + i)) (get_or methods (r * 32 + first + i) 0)) where
    fit_more : rest_fits i ≡ (b && rest_fits (i + 1))
    unfolding fit_all_w
    fit_more =
        let a : n - i ≡ suc (n - (i + 1)) = omega arith in
        let e : first + (i + 1) ≡ suc (first + i) = omega arith in
        let f : from + (i + 1) ≡ suc (from + i) = omega arith in
        let d : r * 32 + first + i ≡ r * 32 + (first + i) = omega arith in
        rw (a, e, f, q ∙ ap (λ k. fits_w ancestors c.classes (kind_at c (from + i)) (bits_at c (from + i)) (get_or methods k 0)) d)

    -- the rest decides what all do
    module _ {all : Bool} (rest : rest_fits i ≡ all) where
      pub fit_fails : b ≡ false → false ≡ all
      fit_fails z = sym (simp (z) at fit_more) ∙ rest

      pub fit_goes : b ≡ true → rest_fits (i + 1) ≡ all
      fit_goes z = sym (simp (z) at fit_more) ∙ rest

  pub fit_done : {i : ℕ} → n ≤ i → rest_fits i ≡ true
  unfolding fit_all_w
  fit_done {i} h =
      let a : n - i ≡ 0 = omega arith in
      rw a

-- ---- Arguments taken

module _ (methods ancestors : List ℕ) (y : Stay) (c : Work) (r n first more : ℕ) {sp : ℕ} (top : c.regs.sp ≡ sp) where
  pub taking_few : sp < y.floor + n → taking_w methods ancestors y c r n first more ≡ bad 43
  unfolding taking_w few guard ◌>>=◌
  taking_few h = simp (top, lt-leb _ _ h)

  module _ (h : y.floor + n ≤ sp) where
    pub taking_unfit : fit_all_w methods ancestors c r n first (sp - n) ≡ false → taking_w methods ancestors y c r n first more ≡ bad 45
    unfolding taking_w few guard ◌>>=◌
    taking_unfit f = simp (top, le-leb _ _ h, f)

    module _ (f : fit_all_w methods ancestors c r n first (sp - n) ≡ true) where
      pub taking_full : y.limit < sp - n + more → taking_w methods ancestors y c r n first more ≡ bad 44
      unfolding taking_w few guard ◌>>=◌
      taking_full l = simp (top, le-leb _ _ h, f, lt-leb _ _ l)

      pub taking_goes : sp - n + more ≤ y.limit → taking_w methods ancestors y c r n first more ≡ ok tt
      unfolding taking_w few guard ◌>>=◌
      taking_goes l = simp (top, le-leb _ _ h, f, le-leb _ _ l)

-- ---- What is due

pub due_none : {b : ℕ} → b ≡ 0 → due_of_byte b ≡ 0
unfolding due_of_byte pick
due_none h = simp (eq-eqb _ _ h)

pub due_one : {b : ℕ} → (b ≡ 0 → ⊥) → due_of_byte b ≡ 1
unfolding due_of_byte pick
due_one h = simp (ne_eqb _ _ h)
