-- Laws of the model's small functions on lists.
use Prim.Native.Nat.{ℕ, zero, suc, ◌-◌, ◌≤◌, ◌<◌}
use mathlib.Core.Path.{◌≡◌, refl, sym, ap, ◌∙◌}
use mathlib.Core.Bool.{Bool, true, false}
use mathlib.Core.Option.{none, some}
use mathlib.Core.List.{List, [], ◌∷◌, ◌++◌, map, append-nil}
use native.Mathlib.Omega.{arith}
use lib.ListN.{length, take, drop, length-append, take-append-drop}
use lib.Dec.{ltb}
use borrow.Author.Tests.{ltb-true, ltb-false}
use Rattle.model.specs.Answer.{pick, at, row, keep_if, those, first_row}

module _ {A : Type 0} where
  -- ---- The element at an index

  pub record There (l : List A) (n : ℕ) : Type 0 where
    pub one : A
    pub at_is : at l n ≡ some one
    pub drop_is : drop n l ≡ one ∷ drop (suc n) l
    pub take_is : take (suc n) l ≡ take n l ++ (one ∷ [])

  pub there : (l : List A) (n : ℕ) → n < length l → There l n
  unfolding at
  there [] n h = absurd (omega arith)
  there (x ∷ l) zero h = record { one = x; at_is = refl; drop_is = refl; take_is = refl }
  there (x ∷ l) (suc n) h =
      let t : There l n = there l n (omega arith) in
      record { one = t.one; at_is = t.at_is; drop_is = t.drop_is; take_is = ap (λ k. x ∷ k) t.take_is }

  pub at_past : (l : List A) (n : ℕ) → length l ≤ n → at l n ≡ none
  unfolding at
  at_past [] n h = refl
  at_past (x ∷ l) zero h = absurd (omega arith)
  at_past (x ∷ l) (suc n) h = at_past l n (omega arith)

  pub at_left : (l k : List A) (n : ℕ) → n < length l → at (l ++ k) n ≡ at l n
  unfolding at
  at_left [] k n h = absurd (omega arith)
  at_left (x ∷ l) k zero h = refl
  at_left (x ∷ l) k (suc n) h = at_left l k n (omega arith)

  pub at_right : (l k : List A) (n : ℕ) → length l ≤ n → at (l ++ k) n ≡ at k (n - length l)
  unfolding at
  at_right [] k n h = let e : n - 0 ≡ n = omega arith in rw e
  at_right (x ∷ l) k zero h = absurd (omega arith)
  at_right (x ∷ l) k (suc n) h = let e : suc n - suc (length l) ≡ n - length l = omega arith in rw e (at_right l k n (omega arith))

  pub row_in : (l : List A) (r : ℕ) (x : A) → row l r ≡ some x → (0 < r) × (r ≤ length l)
  unfolding row
  row_in l zero x e = let z : ◌≡◌ {A = ℕ} 0 1 = cc in absurd (omega arith)
  row_in l (suc n) x e = go (ltb n (length l)) refl
    where
      go : (b : Bool) → ltb n (length l) ≡ b → (0 < suc n) × (suc n ≤ length l)
      go true h = let k : n < length l = ltb-true n (length l) h in omega arith
      go false h = let k : at l n ≡ none = at_past l n (ltb-false n (length l) h) in let z : ◌≡◌ {A = ℕ} 0 1 = cc in absurd (omega arith)

  -- ---- Those that pass a test

  module _ (p : A → Bool) where
    pub those_append : (l k : List A) → those p (l ++ k) ≡ those p l ++ those p k
    unfolding those keep_if
    those_append [] k = refl
    those_append (x ∷ l) k = go (p x) (those_append l k)
      where
        go : (b : Bool) → those p (l ++ k) ≡ those p l ++ those p k → keep_if b x (those p (l ++ k)) ≡ keep_if b x (those p l) ++ those p k
        go true e = ap (λ r. x ∷ r) e
        go false e = e

    pub those_nothing : (l : List A) → ((n : ℕ) (x : A) → at l n ≡ some x → p x ≡ false) → those p l ≡ []
    unfolding those keep_if at
    those_nothing [] h = refl
    those_nothing (x ∷ l) h = rw (h 0 x refl) (those_nothing l (λ n y e. h (suc n) y e))

    module _ (l : List A) (n : ℕ) (t : There l n) where
      pub those_one : p t.one ≡ true → those p (take (suc n) l) ≡ those p (take n l) ++ (t.one ∷ [])
      unfolding those keep_if
      those_one e = rw (t.take_is, those_append, e)

      pub those_none : p t.one ≡ false → those p (take (suc n) l) ≡ those p (take n l)
      unfolding those keep_if
      those_none e = rw (t.take_is, those_append, e) (append-nil (those p (take n l)))

      -- one more is to come
      pub those_less : p t.one ≡ true → length (those p (take n l)) < length (those p l)
      unfolding those keep_if
      those_less e =
          let whole : those p l ≡ those p (take n l) ++ those p (drop n l) = ap (those p) (sym (take-append-drop n l)) ∙ those_append (take n l) (drop n l) in
          let more : those p (drop n l) ≡ t.one ∷ those p (drop (suc n) l) = rw (t.drop_is, e) in
          omega (arith, ap length whole, length-append (those p (take n l)) (those p (drop n l)), ap length more)

  -- ---- The first that passes a test

  module _ (p : ℕ → A → Bool) where
    pub first_least : (r : ℕ) (l : List A) (k : ℕ) → first_row p r l ≡ some k → r ≤ k
    unfolding first_row pick
    first_least r [] k e = let z : ◌≡◌ {A = ℕ} 0 1 = cc in absurd (omega arith)
    first_least r (x ∷ l) k e = go (p r x) (first_least (suc r) l k) e
      where
        go : (b : Bool) → (first_row p (suc r) l ≡ some k → suc r ≤ k) → pick b (some r) (first_row p (suc r) l) ≡ some k → r ≤ k
        go true h w = let z : r ≡ k = cc in omega arith
        go false h w = let z : suc r ≤ k = h w in omega arith

    pub first_none : (r : ℕ) (l : List A) → ((n : ℕ) (x : A) → at l n ≡ some x → (k : ℕ) → p k x ≡ false) → first_row p r l ≡ none
    unfolding first_row pick at
    first_none r [] h = refl
    first_none r (x ∷ l) h = rw (h 0 x refl r) (first_none (suc r) l (λ n y e. h (suc n) y e))

-- ---- Mapped

module _ {A B : Type 0} (f : A → B) where
  pub map_joined : (l k : List A) → map f (l ++ k) ≡ map f l ++ map f k
  map_joined [] k = refl
  map_joined (x ∷ l) k = ap (λ r. f x ∷ r) (map_joined l k)
