-- Returns, by the tests that led to their answers.
use Prim.Native.Nat.{ℕ, ◌+◌, ◌-◌, ◌*◌, ◌≤◌}
use mathlib.Core.Path.{◌≡◌, refl}
use mathlib.Core.Bool.{Bool, true, false}
use mathlib.Core.List.{List}
use native.Mathlib.Omega.{arith}
use native.Mathlib.Nat.{add-zero}
use lib.ListN.{get_or, set}
use lib.Dec.{leb, eqb}
use borrow.Author.Tests.{le-leb, lt-leb, eq-eqb, ne_eqb}
use Rattle.model.specs.Answer.{Answer, bad, ok, ◌>>=◌, guard, pick}
use Rattle.state.specs.declared.Stay.{Stay}
use Rattle.state.specs.View.{Work}
use Rattle.state.specs.Work.{Went, runs, over, with_regs, with_cells, kind_at, bits_at, few, fits_w, copy_of, left, due_of_byte, value_due, return_w, ret_w}
use Rattle.state.specs.Order.{Saved}
use Rattle.across_frames.specs.Lent.{back_to, Framed, Landed}
use Rattle.across_frames.proofs.Taken.{due_none, due_one}

-- ---- What is due stands on the stack, and nothing else

module _ (methods ancestors : List ℕ) (y : Stay) (c : Work) {byte sp : ℕ} (q : byte ≡ get_or methods (y.mp + 26) 0) (top : c.regs.sp ≡ sp) where
  abbrev rest : Answer ℕ Went
  rest = return_w c (get_or methods (y.mp + 24) 0) (due_of_byte byte)

  pub ret_void : byte ≡ 0 → sp ≡ y.floor → ret_w methods ancestors y c ≡ rest
  unfolding ret_w few guard ◌>>=◌
  ret_void z d =
      let l : leb (y.floor + 0) sp ≡ true = le-leb (y.floor + 0) sp (omega arith) in
      let e : eqb sp (y.floor + 0) ≡ true = eq-eqb sp (y.floor + 0) (omega arith) in
      simp (top, ← q, z, due_none {b = 0} refl, l, e)

  pub ret_more : byte ≡ 0 → y.floor ≤ sp → (sp ≡ y.floor → ⊥) → ret_w methods ancestors y c ≡ bad 45
  unfolding ret_w few guard ◌>>=◌
  ret_more z h d =
      let l : leb (y.floor + 0) sp ≡ true = le-leb (y.floor + 0) sp (omega arith) in
      let e : eqb sp (y.floor + 0) ≡ false = ne_eqb sp (y.floor + 0) (λ z. d (omega arith)) in
      simp (top, ← q, z, due_none {b = 0} refl, l, e)

  module _ (some : byte ≡ 0 → ⊥) where
    pub ret_few : sp ≡ y.floor → ret_w methods ancestors y c ≡ bad 43
    unfolding ret_w few guard ◌>>=◌
    ret_few d =
        let l : leb (y.floor + 1) sp ≡ false = lt-leb (y.floor + 1) sp (omega arith) in
        simp (top, ← q, due_one some, l)

    pub ret_many : y.floor ≤ sp → (sp ≡ y.floor → ⊥) → (sp ≡ y.floor + 1 → ⊥) → ret_w methods ancestors y c ≡ bad 45
    unfolding ret_w few guard ◌>>=◌
    ret_many h d m =
        let l : leb (y.floor + 1) sp ≡ true = le-leb (y.floor + 1) sp (omega arith) in
        simp (top, ← q, due_one some, l, ne_eqb _ _ m)

    module _ (d : sp ≡ y.floor + 1) {b : Bool} (f : b ≡ fits_w ancestors c.classes (kind_at c y.floor) (bits_at c y.floor) byte) where
      pub ret_one : b ≡ true → ret_w methods ancestors y c ≡ rest
      unfolding ret_w few guard ◌>>=◌
      ret_one z =
          let l : leb (y.floor + 1) sp ≡ true = le-leb (y.floor + 1) sp (omega arith) in
          simp (top, ← q, due_one some, l, eq-eqb _ _ d, ne_eqb _ _ some, ← f, z)

      pub ret_unfit : b ≡ false → ret_w methods ancestors y c ≡ bad 45
      unfolding ret_w few guard ◌>>=◌
      ret_unfit z =
          let l : leb (y.floor + 1) sp ≡ true = le-leb (y.floor + 1) sp (omega arith) in
          simp (top, ← q, due_one some, l, eq-eqb _ _ d, ne_eqb _ _ some, ← f, z)

-- ---- The frame below

module _ {fp : ℕ} {cells : List ℕ} (f : Framed fp) (s : Saved 128 cells) (above : fp ≡ 0 → ⊥) where
  below : (f.top - 1) * 64 ≡ fp - 64
  below = omega arith

  pub below_at : get_or cells (fp - 64 + 56) 0 ≤ 1024
  below_at = rw (← below) (s.at_few (f.top - 1) (omega arith))

  pub below_depth : get_or cells (fp - 64 + 57) 0 ≤ 32
  below_depth = rw (← below) (s.depth_few (f.top - 1) (omega arith))

  pub landed_back : {at sp made : ℕ} → fp - 64 + 24 ≤ sp → Landed (back_to (fp - 64) (get_or cells (fp - 64 + 58) 0) at sp made)
  landed_back h =
      record {
        frame = record { top = f.top - 1; low = omega arith; framed = omega arith };
        row = rw (← below) (s.row_few (f.top - 1) (omega arith));
        bottom = h;
      }

-- ---- The caller goes on

module _ (c : Work) (sort n : ℕ) where
  pub return_over : c.regs.fp ≡ 0 → return_w c sort n ≡ ok (over (value_due c n))
  unfolding return_w pick
  return_over h = simp (eq-eqb _ _ h)

  pub return_back : (c.regs.fp ≡ 0 → ⊥) → return_w c sort n ≡ ok (runs (left c (c.regs.fp - 64) (pick (eqb sort 4) 0 5) n))
  unfolding return_w pick
  return_back h = simp (ne_eqb _ _ h)

module _ (c : Work) (p sort : ℕ) {n bytes : ℕ} (b : bytes ≡ pick (eqb sort 4) 0 5) where
  pub back_none : n ≡ 0
      → with_regs c (record { fp = p; row = get_or c.cells (p + 58) 0; at = get_or c.cells (p + 56) 0 + bytes; sp = p + 24 + get_or c.cells (p + 57) 0; made = c.regs.made }) ≡ left c p (pick (eqb sort 4) 0 5) n
  unfolding left copy_of
  back_none h = simp (← b, h, add-zero)

  pub back_one : n ≡ 1 → {floor : ℕ} → floor ≡ c.regs.fp + 24
      → with_regs (with_cells c (set c.cells (p + 24 + get_or c.cells (p + 57) 0) (get_or c.cells floor 0)) (set c.kinds (p + 24 + get_or c.cells (p + 57) 0) (get_or c.kinds floor 0)))
      (record { fp = p; row = get_or c.cells (p + 58) 0; at = get_or c.cells (p + 56) 0 + bytes; sp = p + 24 + get_or c.cells (p + 57) 0 + 1; made = c.regs.made }) ≡ left c p (pick (eqb sort 4) 0 5) n
  unfolding left copy_of
  back_one h e = simp (← b, h, e)
