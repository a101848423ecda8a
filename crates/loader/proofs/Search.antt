-- Searches over rows, one row at a time; lists of types beside their cells.
use mathlib.Core.Path.{◌≡◌, refl, sym, ap, ◌∙◌, subst}
use Prim.Native.Nat.{ℕ, zero, suc, ◌+◌, ◌-◌, ◌≤◌, ◌<◌}
use mathlib.Core.Bool.{Bool, true, false, ◌&&◌, ◌||◌}
use mathlib.Core.Option.{Option, none, some}
use mathlib.Core.List.{List, [], ◌∷◌}
use native.Mathlib.Omega.{arith}
use native.Mathlib.Numerals.{add-one}
use Rattle.std.specs.Prelude.{◌↔◌, IsTrue, EachIndex}
use Rattle.std.proofs.Common.{drop-cons}
use lib.Pointwise.{pointwise}
use lib.Seq.{get_or-drop, length-take-le}
use Rattle.std.proofs.lemmas.List.{get_or-take}
use lib.ListN.{length, get_or, take, drop, drop_of_length-le, length-drop}
use lib.Dec.{eqb}
use borrow.Author.Tests.{ne_eqb}
use Rattle.model.specs.Answer.{pick, or_else, at, row, first_row}
use Rattle.model.specs.Tables.{Ty, byte_of, eq_ty, eq_tys, Method, no_method, method_at}
use Rattle.model.specs.Loading.{is_integer, all}
use Rattle.loaded.specs.Holds.{byte_at}
use Rattle.loader.proofs.Rows.{drop_at}
use Rattle.loader.proofs.Ladder.{both_true}

-- ---- The first row that passes a test

method_at_lem : (x : Method) (ms : List Method) (k : ℕ) → at ms k ≡ some x → method_at ms (k + 1) ≡ x
unfolding method_at row or_else
method_at_lem x ms k e = ap (λ (i : ℕ). or_else (row ms i) no_method) (add-one k) ∙ ap (λ (o : Option Method). or_else o no_method) e

-- the row behind the first k
pub next_row : (p : ℕ → Method → Bool) (ms : List Method) (k : ℕ) → k < length ms
    → first_row p (k + 1) (drop k ms) ≡ pick (p (k + 1) (method_at ms (k + 1))) (some (k + 1)) (first_row p (k + 1 + 1) (drop (k + 1) ms))
unfolding first_row
next_row p ms k h =
    let w = drop_at ms k h in
    ap (first_row p (k + 1)) w.2
    ∙ ap (λ (i : ℕ). pick (p (k + 1) w.0) (some (k + 1)) (first_row p i (drop (suc k) ms))) (sym (add-one (k + 1)))
    ∙ ap (λ (i : ℕ). pick (p (k + 1) w.0) (some (k + 1)) (first_row p (k + 1 + 1) (drop i ms))) (sym (add-one k))
    ∙ ap (λ (x : Method). pick (p (k + 1) x) (some (k + 1)) (first_row p (k + 1 + 1) (drop (k + 1) ms))) (sym (method_at_lem w.0 ms k w.1))

module _ (p : ℕ → Method → Bool) (ms : List Method) (r : ℕ) (lo : 0 < r) where
  row_is : r - 1 + 1 ≡ r
  row_is = omega arith

  at_row : r ≤ length ms → first_row p r (drop (r - 1) ms) ≡ pick (p r (method_at ms r)) (some r) (first_row p (r + 1) (drop (r + 1 - 1) ms))
  at_row h =
      let z : r - 1 + 1 ≡ r + 1 - 1 = omega arith in
      subst (λ (i : ℕ). first_row p i (drop (r - 1) ms) ≡ pick (p i (method_at ms i)) (some i) (first_row p (i + 1) (drop (r + 1 - 1) ms))) row_is
      (next_row p ms (r - 1) (omega arith) ∙ ap (λ (i : ℕ). pick (p (r - 1 + 1) (method_at ms (r - 1 + 1))) (some (r - 1 + 1)) (first_row p (r - 1 + 1 + 1) (drop i ms))) z)

  pub hit : r ≤ length ms → p r (method_at ms r) ≡ true → first_row p r (drop (r - 1) ms) ≡ some r
  unfolding pick
  hit h e = at_row h ∙ ap (λ (b : Bool). pick b (some r) (first_row p (r + 1) (drop (r + 1 - 1) ms))) e

  pub miss : r ≤ length ms → p r (method_at ms r) ≡ false → first_row p r (drop (r - 1) ms) ≡ first_row p (r + 1) (drop (r + 1 - 1) ms)
  unfolding pick
  miss h e = at_row h ∙ ap (λ (b : Bool). pick b (some r) (first_row p (r + 1) (drop (r + 1 - 1) ms))) e

  pub none_left : length ms < r → first_row p r (drop (r - 1) ms) ≡ none
  unfolding first_row
  none_left h = ap (first_row p r) (drop_of_length-le ms (omega arith))

-- ---- Types

-- the cell of the type behind the first k
pub type_at : (l : List Ty) (k : ℕ) → k < length l → (t : Ty) × (byte_at (at l k) ≡ byte_of t) × (drop k l ≡ t ∷ drop (k + 1) l)
unfolding byte_at
type_at l k h =
    let w = drop_at l k h in
    (w.0, ap byte_at w.1, w.2 ∙ ap (λ (i : ℕ). w.0 ∷ drop i l) (sym (add-one k)))

integer_bytes : (b : ℕ) → (b ≡ 0 → ⊥) → b ≤ 2 → eqb b 1 || eqb b 2 ≡ true
integer_bytes zero nz h = absurd (nz refl)
integer_bytes (suc zero) nz h = refl
integer_bytes (suc (suc zero)) nz h = refl
integer_bytes (suc (suc (suc b))) nz h = absurd (omega arith)

other_bytes : (b : ℕ) → (b ≡ 1 → ⊥) → (b ≡ 2 → ⊥) → eqb b 1 || eqb b 2 ≡ false
other_bytes b one two = ap (λ (x : Bool). x || eqb b 2) (ne_eqb b 1 one) ∙ ne_eqb b 2 two

integer_only : (b : ℕ) → eqb b 1 || eqb b 2 ≡ true → (0 < b) × (b ≤ 2)
integer_only zero e = let f : false ≡ true = e in let z : ◌≡◌ {A = ℕ} 0 1 = cc in absurd (omega arith)
integer_only (suc zero) e = (omega arith, omega arith)
integer_only (suc (suc zero)) e = (omega arith, omega arith)
integer_only (suc (suc (suc b))) e = let f : false ≡ true = sym (other_bytes (suc (suc (suc b))) (λ z. omega arith) (λ z. omega arith)) ∙ e in let z : ◌≡◌ {A = ℕ} 0 1 = cc in absurd (omega arith)

-- integers, by their cells
all_yes : (l : List Ty) (f : ℕ → ℕ) → ((k : ℕ) → k < length l → f k ≡ byte_at (at l k)) → ((k : ℕ) → k < length l → (0 < f k) × (f k ≤ 2)) → all is_integer l ≡ true
unfolding all is_integer eq_ty byte_of at byte_at
all_yes [] f e h = refl
all_yes (t ∷ l) f e h =
    let w = h 0 (omega arith) in
    let first : eqb (byte_of t) 1 || eqb (byte_of t) 2 ≡ true = subst (λ (b : ℕ). eqb b 1 || eqb b 2 ≡ true) (e 0 (omega arith)) (integer_bytes (f 0) (λ z. omega (arith, w.0)) w.1) in
    ap (λ (x : Bool). x && all is_integer l) first ∙ all_yes l (λ k. f (suc k)) (λ k q. e (suc k) (omega arith)) (λ k q. h (suc k) (omega arith))

all_each : (l : List Ty) (f : ℕ → ℕ) → ((k : ℕ) → k < length l → f k ≡ byte_at (at l k)) → all is_integer l ≡ true → (k : ℕ) → k < length l → (0 < f k) × (f k ≤ 2)
unfolding all is_integer eq_ty byte_of at byte_at
all_each [] f e h k q = absurd (omega arith)
all_each (t ∷ l) f e h zero q = integer_only (f 0) (ap (λ (b : ℕ). eqb b 1 || eqb b 2) (e 0 (omega arith)) ∙ (both_true (eqb (byte_of t) 1 || eqb (byte_of t) 2) (all is_integer l) h).0)
all_each (t ∷ l) f e h (suc k) q = all_each l (λ i. f (suc i)) (λ i p. e (suc i) (omega arith)) (both_true (eqb (byte_of t) 1 || eqb (byte_of t) 2) (all is_integer l) h).1 k (omega arith)

pub all_cells : (xs : List ℕ) (b : Bool) → (IsTrue b ↔ EachIndex xs (λ k. (0 < get_or xs k 0) × (get_or xs k 0 ≤ 2))) → (l : List Ty) → length xs ≡ length l
    → ((k : ℕ) → k < length l → get_or xs k 0 ≡ byte_at (at l k)) → b ≡ all is_integer l
all_cells xs true d l e h = sym (all_yes l (λ k. get_or xs k 0) h (λ k q. d.0 refl k (omega arith)))
all_cells xs false d l e h = go (all is_integer l) refl
  where
    go : (c : Bool) → all is_integer l ≡ c → false ≡ all is_integer l
    go false q = sym q
    go true q = d.1 (λ k p. all_each l (λ k. get_or xs k 0) h q k (omega arith)) ∙ sym q

pub all_part : (xs : List ℕ) (i a : ℕ) (b : Bool) → (IsTrue b ↔ EachIndex (take a (drop i xs)) (λ k. (0 < get_or (take a (drop i xs)) k 0) × (get_or (take a (drop i xs)) k 0 ≤ 2))) → (l : List Ty) → a ≡ length l → i + length l ≤ length xs
    → ((k : ℕ) → k < length l → get_or xs (i + k) 0 ≡ byte_at (at l k)) → b ≡ all is_integer l
all_part xs i a b d l ea hi h = all_cells (take a (drop i xs)) b d l (length-take-le a (drop i xs) (simp length-drop (omega arith)) ∙ ea) (λ k q. get_or-take a (drop i xs) k 0 (omega arith) ∙ get_or-drop i xs k 0 ∙ h k q)

-- two lists of one length beside their cells, which are 0 behind them
cells_same : (xs : List ℕ) (n i j : ℕ) → i + n ≤ length xs → j + n ≤ length xs → (l m : List Ty) → length l ≡ length m → length l ≤ n
    → ((k : ℕ) → k < n → get_or xs (i + k) 0 ≡ byte_at (at l k)) → ((k : ℕ) → k < n → get_or xs (j + k) 0 ≡ byte_at (at m k))
    → pointwise eqb (take n (drop i xs)) (take n (drop j xs)) ≡ eq_tys l m
unfolding eq_tys eq_ty at byte_at
cells_same xs zero i j hi hj [] [] s f p q = refl
cells_same xs zero i j hi hj [] (u ∷ m) s f p q = absurd (omega arith)
cells_same xs zero i j hi hj (t ∷ l) m s f p q = absurd (omega arith)
cells_same xs (suc n) i j hi hj l m s f p q =
    ap (λ (y : List ℕ). pointwise eqb (take (suc n) y) (take (suc n) (drop j xs))) (drop-cons xs i 0 (omega arith))
    ∙ ap (λ (y : List ℕ). pointwise eqb (take (suc n) (get_or xs i 0 ∷ drop (suc i) xs)) (take (suc n) y)) (drop-cons xs j 0 (omega arith))
    ∙ go l m s f p q (cells_same xs n (suc i) (suc j) (omega arith) (omega arith))
  where
    first : (i : ℕ) (l : List Ty) → ((k : ℕ) → k < suc n → get_or xs (i + k) 0 ≡ byte_at (at l k)) → get_or xs i 0 ≡ byte_at (at l 0)
    first i l p = let z : i ≡ i + 0 = omega arith in ap (λ (k : ℕ). get_or xs k 0) z ∙ p 0 (omega arith)

    later : (i k : ℕ) → suc i + k ≡ i + suc k
    later i k = omega arith

    none_left : (i : ℕ) → ((k : ℕ) → k < suc n → get_or xs (i + k) 0 ≡ byte_at (at [] k)) → (k : ℕ) → k < n → get_or xs (suc i + k) 0 ≡ byte_at (at [] k)
    none_left i p k h = ap (λ (x : ℕ). get_or xs x 0) (later i k) ∙ p (suc k) (omega arith)

    some_left : (i : ℕ) (t : Ty) (l : List Ty) → ((k : ℕ) → k < suc n → get_or xs (i + k) 0 ≡ byte_at (at (t ∷ l) k)) → (k : ℕ) → k < n → get_or xs (suc i + k) 0 ≡ byte_at (at l k)
    some_left i t l p k h = ap (λ (x : ℕ). get_or xs x 0) (later i k) ∙ p (suc k) (omega arith)

    Left : List Ty → List Ty → Type 0
    Left l m =
        length l ≡ length m → length l ≤ n → ((k : ℕ) → k < n → get_or xs (suc i + k) 0 ≡ byte_at (at l k)) → ((k : ℕ) → k < n → get_or xs (suc j + k) 0 ≡ byte_at (at m k))
        → pointwise eqb (take n (drop (suc i) xs)) (take n (drop (suc j) xs)) ≡ eq_tys l m

    go : (l m : List Ty) → length l ≡ length m → length l ≤ suc n
        → ((k : ℕ) → k < suc n → get_or xs (i + k) 0 ≡ byte_at (at l k)) → ((k : ℕ) → k < suc n → get_or xs (j + k) 0 ≡ byte_at (at m k))
        → ((l m : List Ty) → Left l m) → eqb (get_or xs i 0) (get_or xs j 0) && pointwise eqb (take n (drop (suc i) xs)) (take n (drop (suc j) xs)) ≡ eq_tys l m
    go [] [] s f p q rest =
        (λ x. eqb (first i [] p x) (first j [] q x) && pointwise eqb (take n (drop (suc i) xs)) (take n (drop (suc j) xs)))
        ∙ rest [] [] refl (omega arith) (none_left i p) (none_left j q)
    go [] (u ∷ m) s f p q rest = absurd (omega arith)
    go (t ∷ l) [] s f p q rest = absurd (omega arith)
    go (t ∷ l) (u ∷ m) s f p q rest =
        (λ x. eqb (first i (t ∷ l) p x) (first j (u ∷ m) q x) && pointwise eqb (take n (drop (suc i) xs)) (take n (drop (suc j) xs)))
        ∙ ap (λ (b : Bool). eqb (byte_of t) (byte_of u) && b) (rest l m (omega arith) (omega arith) (some_left i t l p) (some_left j u m q))

pub parts_same : (xs : List ℕ) (n i j a b : ℕ) → a ≡ n → b ≡ n → i + n ≤ length xs → j + n ≤ length xs → (l m : List Ty) → length l ≡ length m → length l ≤ n
    → ((k : ℕ) → k < n → get_or xs (i + k) 0 ≡ byte_at (at l k)) → ((k : ℕ) → k < n → get_or xs (j + k) 0 ≡ byte_at (at m k))
    → pointwise eqb (take a (drop i xs)) (take b (drop j xs)) ≡ eq_tys l m
parts_same xs n i j a b ea eb hi hj l m s f p q = (λ x. pointwise eqb (take (ea x) (drop i xs)) (take (eb x) (drop j xs))) ∙ cells_same xs n i j hi hj l m s f p q

-- lists of different lengths are not the same
pub lengths_differ : (l m : List Ty) → (length l ≡ length m → ⊥) → eq_tys l m ≡ false
unfolding eq_tys
lengths_differ [] [] n = absurd (n refl)
lengths_differ [] (u ∷ m) n = refl
lengths_differ (t ∷ l) [] n = refl
lengths_differ (t ∷ l) (u ∷ m) n = go (eq_ty t u) (lengths_differ l m (λ e. n (ap suc e)))
  where
    go : (b : Bool) → eq_tys l m ≡ false → b && eq_tys l m ≡ false
    go true e = e
    go false e = refl
