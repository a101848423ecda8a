-- Rows of a list that grows at its end or has its last element changed, and an array beside it.
use mathlib.Core.Path.{◌≡◌, refl, sym, ap, ◌∙◌, subst}
use Prim.Native.Nat.{ℕ, zero, suc, ◌+◌, ◌≤◌, ◌<◌}
use mathlib.Core.Bool.{Bool, true, false}
use mathlib.Core.Option.{Option, none, some}
use mathlib.Core.List.{List, [], ◌∷◌, ◌++◌}
use native.Mathlib.Omega.{arith}
use native.Mathlib.Numerals.{add-one}
use native.Mathlib.Decide.{ℕ_discrete}
use lib.ListN.{length, get_or, set, drop, length-set, length-append}
use lib.Seq.{get_or-set_same, get_or-set_other}
use Rattle.model.specs.Answer.{pick, or_else, map_option, at, row, keep_if, those, first_row, last_of, on_last, only_if, or_next}
use Rattle.loader.specs.Stands.{Column}

-- ---- Rows

module _ {A : Type 0} where
  pub at_here : (l : List A) (x : A) → at (l ++ (x ∷ [])) (length l) ≡ some x
  unfolding at
  at_here [] x = refl
  at_here (y ∷ l) x = at_here l x

  pub at_there : (l : List A) (x : A) (k : ℕ) → (k ≡ length l → ⊥) → at (l ++ (x ∷ [])) k ≡ at l k
  unfolding at
  at_there [] x zero h = absurd (h refl)
  at_there [] x (suc k) h = refl
  at_there (y ∷ l) x zero h = refl
  at_there (y ∷ l) x (suc k) h = at_there l x k (λ e. h (ap suc e))

  pub row_here : (l : List A) (x : A) → row (l ++ (x ∷ [])) (suc (length l)) ≡ some x
  unfolding row
  row_here l x = at_here l x

  pub row_there : (l : List A) (x : A) (r : ℕ) → (r ≡ suc (length l) → ⊥) → row (l ++ (x ∷ [])) r ≡ row l r
  unfolding row
  row_there l x zero h = refl
  row_there l x (suc r) h = at_there l x r (λ e. h (ap suc e))

  -- past the last there is none
  pub at_past : (l : List A) (k : ℕ) → length l ≤ k → at l k ≡ none
  unfolding at
  at_past [] k h = refl
  at_past (y ∷ l) zero h = absurd (omega arith)
  at_past (y ∷ l) (suc k) h = at_past l k (omega arith)

  pub row_past : (l : List A) (r : ℕ) → length l < r → row l r ≡ none
  unfolding row
  row_past l zero h = refl
  row_past l (suc r) h = at_past l r (omega arith)

  pub at_some : (l : List A) (k : ℕ) (x : A) → at l k ≡ some x → k < length l
  unfolding at
  at_some [] k x e = let z : ◌≡◌ {A = ℕ} 0 1 = cc in absurd (omega arith)
  at_some (y ∷ l) zero x e = omega arith
  at_some (y ∷ l) (suc k) x e = let h : k < length l = at_some l k x e in omega arith

  pub row_some : (l : List A) (r : ℕ) (x : A) → row l r ≡ some x → (0 < r) × (r ≤ length l)
  unfolding row
  row_some l zero x e = let z : ◌≡◌ {A = ℕ} 0 1 = cc in absurd (omega arith)
  row_some l (suc r) x e = let h : r < length l = at_some l r x e in (omega arith, omega arith)

  pub grown : (l : List A) (x : A) → length (l ++ (x ∷ [])) ≡ length l + 1
  grown l x = length-append l (x ∷ [])

  -- ---- The last

  pub length_last : (f : A → A) (l : List A) → length (on_last f l) ≡ length l
  unfolding on_last
  length_last f [] = refl
  length_last f (x ∷ []) = refl
  length_last f (x ∷ y ∷ l) = ap suc (length_last f (y ∷ l))

  at_last : (f : A → A) (x : A) (l : List A) → at (on_last f (x ∷ l)) (length l) ≡ map_option f (at (x ∷ l) (length l))
  unfolding at on_last map_option
  at_last f x [] = refl
  at_last f x (y ∷ l) = at_last f y l

  pub row_last : (f : A → A) (l : List A) → row (on_last f l) (length l) ≡ map_option f (row l (length l))
  unfolding row on_last map_option
  row_last f [] = refl
  row_last f (x ∷ l) = at_last f x l

  at_kept : (f : A → A) (x : A) (l : List A) (k : ℕ) → (k ≡ length l → ⊥) → at (on_last f (x ∷ l)) k ≡ at (x ∷ l) k
  unfolding at on_last
  at_kept f x [] zero h = absurd (h refl)
  at_kept f x [] (suc k) h = refl
  at_kept f x (y ∷ l) zero h = refl
  at_kept f x (y ∷ l) (suc k) h = at_kept f y l k (λ e. h (ap suc e))

  pub row_kept : (f : A → A) (l : List A) (r : ℕ) → (r ≡ length l → ⊥) → row (on_last f l) r ≡ row l r
  unfolding row on_last
  row_kept f [] r h = refl
  row_kept f (x ∷ l) zero h = refl
  row_kept f (x ∷ l) (suc r) h = at_kept f x l r (λ e. h (ap suc e))

  at_last_of : (x : A) (l : List A) → at (x ∷ l) (length l) ≡ some (last_of x l)
  unfolding at last_of
  at_last_of x [] = refl
  at_last_of x (y ∷ l) = at_last_of y l

  -- the last of a list stands at its length
  pub last_row : (d : A) (l : List A) → or_else (row l (length l)) d ≡ last_of d l
  unfolding row or_else last_of
  last_row d [] = refl
  last_row d (x ∷ l) = ap (λ (o : Option A). or_else o d) (at_last_of x l)

  pub last_snoc : (d : A) (l : List A) (x : A) → last_of d (l ++ (x ∷ [])) ≡ x
  unfolding last_of
  last_snoc d [] x = refl
  last_snoc d (y ∷ l) x = last_snoc y l x

  -- ---- Those that pass a test

  pub those_snoc : (p : A → Bool) (l : List A) (x : A) → those p (l ++ (x ∷ [])) ≡ those p l ++ keep_if (p x) x []
  unfolding those keep_if
  those_snoc p [] x = refl
  those_snoc p (y ∷ l) x = ap (keep_if (p y) y) (those_snoc p l x) ∙ out (p y)
    where
      out : (b : Bool) → keep_if b y (those p l ++ keep_if (p x) x []) ≡ keep_if b y (those p l) ++ keep_if (p x) x []
      out true = refl
      out false = refl

  -- ---- The first row that passes a test

  pub first_snoc : (p : ℕ → A → Bool) (r : ℕ) (l : List A) (x : A) →
      first_row p r (l ++ (x ∷ [])) ≡ or_next (first_row p r l) (only_if (p (r + length l) x) (some (r + length l)))
  unfolding first_row or_next only_if pick
  first_snoc p r [] x = one (p r x) ∙ ap (λ (k : ℕ). only_if (p k x) (some k)) (omega arith)
    where
      one : (b : Bool) → pick b (some r) none ≡ only_if b (some r)
      one true = refl
      one false = refl
  first_snoc p r (y ∷ l) x =
      ap (λ (o : Option ℕ). pick (p r y) (some r) o) (first_snoc p (suc r) l x ∙ ap (λ (k : ℕ). or_next (first_row p (suc r) l) (only_if (p k x) (some k))) (omega arith))
      ∙ out (p r y)
    where
      out : (b : Bool) → pick b (some r) (or_next (first_row p (suc r) l) (only_if (p (r + suc (length l)) x) (some (r + suc (length l))))) ≡ or_next (pick b (some r) (first_row p (suc r) l)) (only_if (p (r + suc (length l)) x) (some (r + suc (length l))))
      out true = refl
      out false = refl

  -- a test that does not see the change
  pub first_kept : (p : ℕ → A → Bool) (f : A → A) → ((r : ℕ) (x : A) → p r (f x) ≡ p r x) → (r : ℕ) (l : List A) → first_row p r (on_last f l) ≡ first_row p r l
  unfolding first_row on_last
  first_kept p f h r [] = refl
  first_kept p f h r (x ∷ []) = ap (λ (b : Bool). pick b (some r) none) (h r x)
  first_kept p f h r (x ∷ y ∷ l) = ap (λ (o : Option ℕ). pick (p r x) (some r) o) (first_kept p f h (suc r) (y ∷ l))

  -- the first row is no smaller than where the count begins
  pub first_least : (p : ℕ → A → Bool) (r : ℕ) (l : List A) (k : ℕ) → first_row p r l ≡ some k → (r ≤ k) × (k < r + length l)
  unfolding first_row pick
  first_least p r [] k e = let z : ◌≡◌ {A = ℕ} 0 1 = cc in absurd (omega arith)
  first_least p r (x ∷ l) k e = go (p r x) (first_least p (suc r) l k) e
    where
      go : (b : Bool) → (first_row p (suc r) l ≡ some k → (suc r ≤ k) × (k < suc r + length l)) → pick b (some r) (first_row p (suc r) l) ≡ some k → (r ≤ k) × (k < r + length (x ∷ l))
      go true h e = let z : r ≡ k = cc in (omega arith, omega arith)
      go false h e = (omega (arith, (h e).0), omega (arith, (h e).1))

  -- one step of a search: the first k rows are passed
  pub drop_at : (l : List A) (k : ℕ) → k < length l → (x : A) × (at l k ≡ some x) × (drop k l ≡ x ∷ drop (suc k) l)
  unfolding at
  drop_at [] k h = absurd (omega arith)
  drop_at (x ∷ l) zero h = (x, refl, refl)
  drop_at (x ∷ l) (suc k) h = drop_at l k (omega arith)

-- ---- An array beside the rows

-- a new row
pub column_snoc : {size : ℕ} {rows a : List ℕ} → Column size rows a → length rows + 1 < size → (x : ℕ) → Column size (rows ++ (x ∷ [])) (set a (length rows + 1) x)
unfolding or_else
column_snoc {rows = rows} {a = a} C h x = record { long = length-set a _ x ∙ C.long; each = λ r. go r (ℕ_discrete r (length rows + 1)) }
  where
    go : (r : ℕ) → Dec (r ≡ length rows + 1) → get_or (set a (length rows + 1) x) r 0 ≡ or_else (row (rows ++ (x ∷ [])) r) 0
    go r (yes q) =
        ap (λ (k : ℕ). get_or (set a (length rows + 1) x) k 0) q
        ∙ get_or-set_same a (length rows + 1) x 0 (subst (λ (k : ℕ). length rows + 1 < k) (sym C.long) h)
        ∙ ap (λ (o : Option ℕ). or_else o 0) (sym (row_here rows x))
        ∙ ap (λ (k : ℕ). or_else (row (rows ++ (x ∷ [])) k) 0) (sym (add-one (length rows)) ∙ sym q)
    go r (no n) =
        get_or-set_other a (length rows + 1) r x 0 n ∙ C.each r ∙ ap (λ (o : Option ℕ). or_else o 0) (sym (row_there rows x r (λ q. n (q ∙ sym (add-one (length rows))))))
