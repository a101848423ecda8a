-- Cells copied and cleared by fours.
use Prim.Native.Nat.{ℕ, zero, suc, ◌+◌, ◌≤◌, ◌<◌}
use mathlib.Core.Path.{◌≡◌, refl, sym, ap, ◌∙◌}
use mathlib.Core.List.{List, []}
use native.Mathlib.Omega.{arith}
use native.Mathlib.Numerals.{towards_suc}
use native.Mathlib.Nat.{zero-add, add-zero, suc-add}
use lib.ListN.{get_or, set}
use lib.Seq.{get_or-set_other}
use borrow.Author.Tests.{le-leb, lt-leb, eq-eqb, ne_eqb}
use Rattle.model.specs.Answer.{pick}
use Rattle.state.specs.Work.{copy_of, fours}

-- a copy in two parts
pub copy_split : (a b : ℕ) (src : List ℕ) (from to : ℕ) (dst : List ℕ) → copy_of (a + b) src from to dst ≡ copy_of b src (from + a) (to + a) (copy_of a src from to dst)
unfolding copy_of
copy_split zero b src from to dst = rw (zero-add, add-zero, add-zero)
copy_split (suc a) b src from to dst =
    let f : from + suc a ≡ suc from + a = omega arith in
    let t : to + suc a ≡ suc to + a = omega arith in
    rw (suc-add, f, t) (copy_split a b src (suc from) (suc to) (set dst to (get_or src from 0)))

-- what lies below the copy stays
pub copy_below : (k : ℕ) (src : List ℕ) (from to : ℕ) (dst : List ℕ) (i : ℕ) → i < to → get_or (copy_of k src from to dst) i 0 ≡ get_or dst i 0
unfolding copy_of
copy_below zero src from to dst i h = refl
copy_below (suc k) src from to dst i h = copy_below k src (suc from) (suc to) (set dst to (get_or src from 0)) i (omega arith) ∙ get_or-set_other dst to i _ 0 (λ e. omega arith)

-- only the cells that are read count
pub copy_source : (k : ℕ) (src other : List ℕ) (from to : ℕ) (dst : List ℕ) → ((i : ℕ) → i < from + k → get_or src i 0 ≡ get_or other i 0) → copy_of k src from to dst ≡ copy_of k other from to dst
unfolding copy_of
copy_source zero src other from to dst h = refl
copy_source (suc k) src other from to dst h = rw (h from (omega arith)) (copy_source k src other (suc from) (suc to) _ (λ i l. h i (omega arith)))

-- four cells, one after the other
pub four_sets : (src dst : List ℕ) (from to : ℕ)
    → set (set (set (set dst to (get_or src from 0)) (to + 1) (get_or src (from + 1) 0)) (to + 2) (get_or src (from + 2) 0)) (to + 3) (get_or src (from + 3) 0) ≡ copy_of 4 src from to dst
unfolding copy_of
four_sets src dst from to = simp towards_suc

pub four_cleared : (dst : List ℕ) (to : ℕ) → set (set (set (set dst to 0) (to + 1) 0) (to + 2) 0) (to + 3) 0 ≡ copy_of 4 [] 0 to dst
unfolding copy_of
four_cleared dst to = simp towards_suc

-- ---- How many fours

pub fours_none : {n : ℕ} → n ≡ 0 → fours n ≡ 0
unfolding fours pick
fours_none h = simp (eq-eqb _ _ h)

module _ {n : ℕ} (some : n ≡ 0 → ⊥) where
  pub fours_one : n ≤ 4 → fours n ≡ 4
  unfolding fours pick
  fours_one h = simp (ne_eqb _ _ some, le-leb _ _ h)

  module _ (more : 4 < n) where
    pub fours_two : n ≤ 8 → fours n ≡ 8
    unfolding fours pick
    fours_two h = simp (ne_eqb _ _ some, lt-leb _ _ more, le-leb _ _ h)

    pub fours_four : 8 < n → fours n ≡ 16
    unfolding fours pick
    fours_four h = simp (ne_eqb _ _ some, lt-leb _ _ more, lt-leb _ _ h)

-- ---- Copied and cleared by fours

module _ (c : List ℕ) (from to n : ℕ) (some : n ≡ 0 → ⊥) {x : List ℕ} (first : x ≡ copy_of 4 c from to c) where
  pub copied_one : n ≤ 4 → x ≡ copy_of (fours n) c from to c
  copied_one h = first ∙ rw (fours_one some h)

  pub copied_two : 4 < n → n ≤ 8 → from + 8 ≤ to → {z : List ℕ} → z ≡ copy_of 4 x (from + 4) (to + 4) x → z ≡ copy_of (fours n) c from to c
  copied_two m h apart q =
      q
      ∙ copy_source 4 x c (from + 4) (to + 4) x (λ i l. ap (λ (l : List ℕ). get_or l i 0) first ∙ copy_below 4 c from to c i (omega arith))
      ∙ ap (copy_of 4 c (from + 4) (to + 4)) first
      ∙ rw (fours_two some m h) (sym (copy_split 4 4 c from to c))

-- 4 cells more are cleared
clear_more : (k : ℕ) (to : ℕ) (c : List ℕ) → copy_of (k + 4) [] 0 to c ≡ copy_of 4 [] 0 (to + k) (copy_of k [] 0 to c)
unfolding copy_of
clear_more k to c = copy_split k 4 [] 0 to c

module _ (c : List ℕ) (to n : ℕ) (some : n ≡ 0 → ⊥) {x : List ℕ} (first : x ≡ copy_of 4 [] 0 to c) where
  pub cleared_one : n ≤ 4 → x ≡ copy_of (fours n) [] 0 to c
  cleared_one h = first ∙ rw (fours_one some h)

  module _ (m : 4 < n) {z : List ℕ} (second : z ≡ copy_of 4 [] 0 (to + 4) x) where
    eight : z ≡ copy_of 8 [] 0 to c
    eight = second ∙ ap (copy_of 4 [] 0 (to + 4)) first ∙ sym (clear_more 4 to c)

    pub cleared_two : n ≤ 8 → z ≡ copy_of (fours n) [] 0 to c
    cleared_two h = eight ∙ rw (fours_two some m h)

    pub cleared_four : 8 < n → {u v : List ℕ} → u ≡ copy_of 4 [] 0 (to + 8) z → v ≡ copy_of 4 [] 0 (to + 12) u → v ≡ copy_of (fours n) [] 0 to c
    cleared_four h q r =
        r
        ∙ ap (copy_of 4 [] 0 (to + 12)) (q ∙ ap (copy_of 4 [] 0 (to + 8)) eight ∙ sym (clear_more 8 to c))
        ∙ sym (clear_more 12 to c)
        ∙ rw (fours_four some m h)
