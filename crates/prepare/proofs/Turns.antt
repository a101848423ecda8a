-- What the loops over rows do to a table, a turn at a time, and what the whole table then says.
use Prim.Native.Nat.{ℕ, zero, suc, ◌+◌, ◌*◌, ◌%◌, ◌≤◌, ◌<◌}
use mathlib.Core.Path.{◌≡◌, refl, sym, ap, ◌∙◌}
use mathlib.Core.Logic.{◌⊎◌, inl, inr}
use mathlib.Core.Bool.{Bool, true, false, ◌&&◌}
use mathlib.Core.List.{List}
use native.Mathlib.Omega.{arith}
use native.Mathlib.Decide.{ℕ_discrete}
use native.Mathlib.Nat.{suc-mul, zero-mul, mul-le-mul_right, mod-eq_of_lt}
use native.Mathlib.Numerals.{add-one}
use lib.ListN.{length, get_or, set, replicate, length-set, get_or-eq_default, get_or-replicate, length-replicate}
use lib.Seq.{get_or-set_same, get_or-set_other}
use lib.Dec.{eqb, ltb, eqb-suc-zero}
use borrow.Author.Tests.{eq-eqb, ne_eqb, ltb-true, ltb-false}
use Rattle.model.specs.Answer.{pick}
use Rattle.prepare.specs.Rows.{or_other, Filled, Inherited}

-- ---- Rows of a width

-- a row ends where a later one begins, or before
pub row_ends : (a b w : ℕ) → a < b → a * w + w ≤ b * w
row_ends a b w h = rw suc-mul at (mul-le-mul_right {m = suc a} {n = b} w (omega arith))

pub row_next : (c w : ℕ) → (c + 1) * w ≡ c * w + w
row_next c w = rw (add-one, suc-mul)

-- a place in rows is a row and a place in it
same_place : (width c q o w : ℕ) → q < width → w < width → c * width + q ≡ o * width + w → (c ≡ o) × (q ≡ w)
same_place width c q o w hq hw e = go (ltb c o) (ltb o c) refl refl
  where
    go : (a b : Bool) → ltb c o ≡ a → ltb o c ≡ b → (c ≡ o) × (q ≡ w)
    go true b x y = absurd (omega (arith, row_ends c o width (ltb-true c o x)))
    go false true x y = absurd (omega (arith, row_ends o c width (ltb-true o c y)))
    go false false x y =
        let s : c ≡ o = omega (arith, ltb-false c o x, ltb-false o c y) in
        (s, omega (arith, ap (λ k. k * width) s))

-- what stands in a list, and in a row, after a store
pub stored_one : (l : List ℕ) (s v i : ℕ) → s < length l → get_or (set l s v) i 0 ≡ pick (eqb s i) v (get_or l i 0)
unfolding pick
stored_one l s v i h = go (ℕ_discrete s i)
  where
    go : Dec (s ≡ i) → get_or (set l s v) i 0 ≡ pick (eqb s i) v (get_or l i 0)
    go (yes e) = rw (eq-eqb s i e, ← e) (get_or-set_same l s v 0 h)
    go (no n) = rw (ne_eqb s i n) (get_or-set_other l s i v 0 (λ e. n (sym e)))

pub stored : (width : ℕ) (l : List ℕ) (o w v c q : ℕ) → o * width + w < length l → w < width → q < width
    → get_or (set l (o * width + w) v) (c * width + q) 0 ≡ pick (eqb o c && eqb w q) v (get_or l (c * width + q) 0)
unfolding pick
stored width l o w v c q h hw hq = go (ℕ_discrete o c) (ℕ_discrete w q)
  where
    go : Dec (o ≡ c) → Dec (w ≡ q) → get_or (set l (o * width + w) v) (c * width + q) 0 ≡ pick (eqb o c && eqb w q) v (get_or l (c * width + q) 0)
    go (yes a) (yes b) = rw (eq-eqb o c a, eq-eqb w q b, ← a, ← b) (get_or-set_same l (o * width + w) v 0 h)
    go (yes a) (no n) = rw (eq-eqb o c a, ne_eqb w q n) (get_or-set_other l (o * width + w) (c * width + q) v 0
        (λ e. n (sym (same_place width c q o w hq hw e).1)))
    go (no n) b = rw (ne_eqb o c n) (get_or-set_other l (o * width + w) (c * width + q) v 0 (λ e. n (sym (same_place width c q o w hq hw e).0)))

pub set_few : (l : List ℕ) (s v m : ℕ) → s < length l → v ≤ m → ((i : ℕ) → get_or l i 0 ≤ m) → (i : ℕ) → get_or (set l s v) i 0 ≤ m
set_few l s v m h hv hl i = go (ℕ_discrete i s)
  where
    go : Dec (i ≡ s) → get_or (set l s v) i 0 ≤ m
    go (yes e) = rw (e, get_or-set_same l s v 0 h) hv
    go (no n) = rw (get_or-set_other l s i v 0 n) (hl i)

-- a list of zeros
pub zeros : (n : ℕ) (l : List ℕ) → l ≡ replicate n 0 → (k : ℕ) → get_or l k 0 ≡ 0
zeros n l w k = rw w (go (ltb k n) refl)
  where
    go : (b : Bool) → ltb k n ≡ b → ◌≡◌ {A = ℕ} (get_or (replicate {A = ℕ} n 0) k 0) 0
    go true e = get_or-replicate n k 0 0 (ltb-true k n e)
    go false e = get_or-eq_default (replicate {A = ℕ} n 0) 0 (let l : n ≤ k = ltb-false k n e in omega (arith, length-replicate {A = ℕ} n 0))

pub zeros_long : (n : ℕ) (l : List ℕ) → l ≡ replicate n 0 → length l ≡ n
zeros_long n l w = ap length w ∙ length-replicate {A = ℕ} n 0

-- ---- A row is filled

or_few : (a b m : ℕ) → a ≤ m → b ≤ m → or_other a b ≤ m
unfolding or_other pick
or_few a b m ha hb = go (eqb a 0)
  where
    go : (t : Bool) → pick t b a ≤ m
    go true = hb
    go false = ha

module _ (from to i v : ℕ) (before after : List ℕ) (F : Filled from to i before after) (h : to + i < length after)
    (e : v ≡ or_other (get_or after (to + i) 0) (get_or after (from + i) 0)) where
  filled_inside : from + (i + 1) ≤ to → (j : ℕ) → j < i + 1 → get_or (set after (to + i) v) (to + j) 0 ≡ or_other (get_or before (to + j) 0)
      (get_or before (from + j) 0)
  filled_inside l j k = go (ℕ_discrete j i)
    where
      go : Dec (j ≡ i) → get_or (set after (to + i) v) (to + j) 0 ≡ or_other (get_or before (to + j) 0) (get_or before (from + j) 0)
      go (yes q) =
          let own : get_or after (to + i) 0 ≡ get_or before (to + i) 0 = F.outside (to + i) (inr (omega arith)) in
          let other : get_or after (from + i) 0 ≡ get_or before (from + i) 0 = F.outside (from + i) (inl (omega arith)) in
          let new : get_or (set after (to + i) v) (to + i) 0 ≡ v = get_or-set_same after (to + i) v 0 h in
          cc
      go (no n) = get_or-set_other after (to + i) (to + j) v 0 (λ q. n (omega arith)) ∙ F.inside (omega arith) j (omega arith)

  pub filled_more : Filled from to (i + 1) before (set after (to + i) v)
  filled_more = record {
    long = length-set after (to + i) v ∙ F.long;
    inside = filled_inside;
    outside = λ k w. get_or-set_other after (to + i) k v 0 (λ q. apart k w q) ∙ F.outside k (keeps k w);
    few = λ m l. set_few after (to + i) v m h (rw e (or_few _ _ m (F.few m l (to + i)) (F.few m l (from + i)))) (F.few m l);
  }
    where
      apart : (k : ℕ) → (k < to) ⊎ (to + (i + 1) ≤ k) → k ≡ to + i → ⊥
      apart k (inl l) q = omega arith
      apart k (inr l) q = omega arith

      keeps : (k : ℕ) → (k < to) ⊎ (to + (i + 1) ≤ k) → (k < to) ⊎ (to + i ≤ k)
      keeps k (inl l) = inl l
      keeps k (inr l) = inr (omega arith)

pub filled_none : (from to : ℕ) (l : List ℕ) → Filled from to 0 l l
filled_none from to l = record { long = refl; inside = λ _ i h. absurd (omega arith); outside = λ k _. refl; few = λ m l. l }

-- ---- Rows inherit

pub inherited_none : (parents : List ℕ) (width n : ℕ) (l : List ℕ) → Inherited parents width n 1 l l
inherited_none parents width n l = record { long = refl; first = λ q h. refl; later = λ k q p h _ _. absurd (omega arith); rest = λ k h. refl; few = λ m h. h }

module _ (parents : List ℕ) (width n c p : ℕ) (within : n ≤ width) (before after made : List ℕ)
    (I : Inherited parents width n c before after) (e : p ≡ get_or parents c 0 % 33) (F : Filled (p * width) (c * width) n after made) (low : 0 < c)
    (high : c < 33) where
  inherited_first : (q : ℕ) → q < n → get_or made q 0 ≡ get_or before q 0
  inherited_first q h =
      let l : 0 * width + width ≤ c * width = row_ends 0 c width low in
      F.outside q (inl (omega (arith, zero-mul width))) ∙ I.first q h

  inherited_later : (k q : ℕ) → 0 < k → k < c + 1 → q < n → get_or parents k 0 < k
      → get_or made (k * width + q) 0 ≡ or_other (get_or before (k * width + q) 0) (get_or made (get_or parents k 0 * width + q) 0)
  inherited_later k q pos less h fall = go (ℕ_discrete k c)
    where
      kept : (j : ℕ) → j < c → get_or made (j * width + q) 0 ≡ get_or after (j * width + q) 0
      kept j l = F.outside (j * width + q) (inl (omega (arith, row_ends j c width l)))

      go : Dec (k ≡ c) → get_or made (k * width + q) 0 ≡ or_other (get_or before (k * width + q) 0) (get_or made (get_or parents k 0 * width + q) 0)
      go (no w) =
          let own : get_or made (k * width + q) 0 ≡ get_or after (k * width + q) 0 = kept k (omega arith) in
          let up : get_or made (get_or parents k 0 * width + q) 0 ≡ get_or after (get_or parents k 0 * width + q) 0 = kept (get_or parents k 0) (omega arith) in
          let step : get_or after (k * width + q) 0 ≡ or_other (get_or before (k * width + q) 0)
          (get_or after (get_or parents k 0 * width + q) 0) = I.later k q pos (omega arith) h fall in
          cc
      go (yes w) =
          let falls : get_or parents c 0 < c = rw w at fall in
          let parent : p ≡ get_or parents c 0 = e ∙ mod-eq_of_lt (omega arith) in
          let up : get_or made (p * width + q) 0 ≡ get_or after (p * width + q) 0 = kept p (omega arith) in
          let own : get_or after (c * width + q) 0 ≡ get_or before (c * width + q) 0 = I.rest (c * width + q) (omega arith) in
          let step : get_or made (c * width + q) 0 ≡ or_other (get_or after (c * width + q) 0) (get_or after (p * width + q) 0) = F.inside
          (omega (arith, row_ends p c width (omega arith))) q h in
          cc

  pub inherited_more : Inherited parents width n (c + 1) before made
  inherited_more = record {
    long = F.long ∙ I.long;
    first = inherited_first;
    later = inherited_later;
    rest = λ k h. F.outside k (inr (omega (arith, row_next c width))) ∙ I.rest k (omega (arith, row_next c width));
    few = λ m h. F.few m (I.few m h);
  }

or_none : (a : ℕ) → or_other a 0 ≡ a
unfolding or_other pick
or_none zero = refl
or_none (suc a) = rw (eqb-suc-zero a)

-- what goes from parent to parent as the rows do is what the rows have; past the last class there is no parent
module _ (parents : List ℕ) (classes width n : ℕ) (before after : List ℕ) (I : Inherited parents width n (classes + 1) before after)
    (falls : (c : ℕ) → 0 < c → get_or parents c 0 < c) (past : (c : ℕ) → classes < c → get_or parents c 0 ≡ 0)
    (F : ℕ → ℕ) (q : ℕ) (h : q < n) (first : get_or before q 0 ≡ 0) (none : F 0 ≡ 0)
    (up : (c : ℕ) → 0 < c → c < 33 → F c ≡ or_other (get_or before (c * width + q) 0) (F (get_or parents c 0))) where
  rows_below : (m c : ℕ) → c < m → c < 33 → get_or after (c * width + q) 0 ≡ F c
  rows_below zero c l k = absurd (omega arith)
  rows_below (suc m) zero l k = let z : 0 * width + q ≡ q = omega (arith, zero-mul width) in rw z (I.first q h ∙ first ∙ sym none)
  rows_below (suc m) (suc c) l below = go (ltb c classes) refl
      (rows_below m (get_or parents (suc c) 0) (omega (arith, falls (suc c) (omega arith))) (omega (arith, falls (suc c) (omega arith))))
    where
      go : (b : Bool) → ltb c classes ≡ b → get_or after (get_or parents (suc c) 0 * width + q) 0 ≡ F (get_or parents (suc c) 0)
          → get_or after (suc c * width + q) 0 ≡ F (suc c)
      go true e above =
          let k : c < classes = ltb-true c classes e in
          I.later (suc c) q (omega arith) (omega arith) h (falls (suc c) (omega arith))
          ∙ ap (or_other (get_or before (suc c * width + q) 0)) above
          ∙ sym (up (suc c) (omega arith) below)
      go false e above =
          let k : classes < suc c = omega (arith, ltb-false c classes e) in
          I.rest (suc c * width + q) (omega (arith, row_next classes width, row_ends classes (suc c) width k))
          ∙ sym (up (suc c) (omega arith) below ∙ rw (past (suc c) k, none) (or_none (get_or before (suc c * width + q) 0)))

  pub rows_are : (c : ℕ) → c < 33 → get_or after (c * width + q) 0 ≡ F c
  rows_are c m = rows_below (suc c) c (omega arith) m
