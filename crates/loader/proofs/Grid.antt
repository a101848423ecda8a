-- Arrays of rows: a store in one row and column leaves every other row and column as it was.
use mathlib.Core.Path.{◌≡◌, refl, sym, ap, ◌∙◌, subst}
use Prim.Native.Nat.{ℕ, ◌+◌, ◌*◌, ◌≤◌, ◌<◌}
use mathlib.Core.Bool.{Bool, true, false}
use mathlib.Core.List.{List, [], ◌∷◌}
use native.Mathlib.Omega.{arith}
use native.Mathlib.Nat.{mul-le-mul_right}
use lib.ListN.{get_or, set, length-set}
use lib.Seq.{get_or-set_same, get_or-set_other}
use lib.Dec.{ltb, eqb}
use borrow.Author.Tests.{ltb-true, ltb-false, eqb-true, eqb-false}
use Rattle.model.specs.Answer.{pick}
use Rattle.loader.specs.Stands.{Grid, Cell, stored}

pub grid_as : {w size : ℕ} {f g : ℕ → ℕ → ℕ} {a : List ℕ} → ((r k : ℕ) → k < w → f r k ≡ g r k) → Grid w size f a → Grid w size g a
grid_as same G = record { long = G.long; each = λ r k h. G.each r k h ∙ same r k h }

-- ---- One store

-- a place of an array has one row and one column
apart : (w r k x j : ℕ) → k < w → j < w → r * w + k ≡ x * w + j → (r ≡ x) × (k ≡ j)
apart w r k x j hk hj e = go (ltb r x) refl (ltb x r) refl
  where
    go : (b : Bool) → ltb r x ≡ b → (c : Bool) → ltb x r ≡ c → (r ≡ x) × (k ≡ j)
    go true p c q = absurd (let l = mul-le-mul_right w (ltb-true r x p) in omega arith)
    go false p true q = absurd (let l = mul-le-mul_right w (ltb-true x r q) in omega arith)
    go false p false q =
        let l = ltb-false r x p in
        let m = ltb-false x r q in
        let s : r ≡ x = omega arith in
        let t : r * w ≡ x * w = ap (λ (i : ℕ). i * w) s in
        (s, omega arith)

module _ (w size x : ℕ) (room : x * w + w ≤ size) where
  one : (j v : ℕ) → j < w → (f : ℕ → ℕ → ℕ) (a : List ℕ) → Grid w size f a → Grid w size (λ r k. pick (eqb r x) (pick (eqb k j) v (f r k)) (f r k)) (set a (x * w + j) v)
  unfolding pick
  one j v hj f a G = record { long = length-set a _ v ∙ G.long; each = λ r k h. go r k h (eqb r x) refl (eqb k j) refl }
    where
      go : (r k : ℕ) → k < w → (b : Bool) → eqb r x ≡ b → (c : Bool) → eqb k j ≡ c → get_or (set a (x * w + j) v) (r * w + k) 0 ≡ pick b (pick c v (f r k)) (f r k)
      go r k h true p true q =
          let s : r ≡ x = eqb-true r x p in
          let t : k ≡ j = eqb-true k j q in
          ap (λ (i : ℕ). get_or (set a (x * w + j) v) (i * w + k) 0) s
          ∙ ap (λ (i : ℕ). get_or (set a (x * w + j) v) (x * w + i) 0) t
          ∙ get_or-set_same a (x * w + j) v 0 (subst (λ (i : ℕ). x * w + j < i) (sym G.long) (omega arith))
      go r k h true p false q = get_or-set_other a (x * w + j) (r * w + k) v 0 (λ e. eqb-false k j q (apart w r k x j h hj e).1) ∙ G.each r k h
      go r k h false p c q = get_or-set_other a (x * w + j) (r * w + k) v 0 (λ e. eqb-false r x p (apart w r k x j h hj e).0) ∙ G.each r k h

-- ---- Several stores in one row

-- what a column holds after the stores, d before them
unfoldable pub after : List Cell → ℕ → ℕ → ℕ
after [] k d = d
after (c ∷ cs) k d = after cs k (pick (eqb k c.column) c.value d)

unfoldable pub Below : ℕ → List Cell → Type 0
Below w [] = Unit {0}
Below w (c ∷ cs) = (c.column < w) × Below w cs

module _ (w size x : ℕ) (room : x * w + w ≤ size) where
  all : (cs : List Cell) → Below w cs → (f : ℕ → ℕ → ℕ) (a : List ℕ) → Grid w size f a → Grid w size (λ r k. pick (eqb r x) (after cs k (f r k)) (f r k)) (stored w x a cs)
  unfolding after Below stored pick
  all [] B f a G = grid_as (λ r k h. same (eqb r x) (f r k)) G
    where
      same : (b : Bool) (n : ℕ) → n ≡ pick b n n
      same true n = refl
      same false n = refl
  all (c ∷ cs) B f a G =
      grid_as (λ r k h. out r k (eqb r x))
      (all cs B.1 (λ r k. pick (eqb r x) (pick (eqb k c.column) c.value (f r k)) (f r k)) (set a (x * w + c.column) c.value) (one w size x room c.column c.value B.0 f a G))
    where
      out : (r k : ℕ) (b : Bool) →
          pick b (after cs k (pick b (pick (eqb k c.column) c.value (f r k)) (f r k))) (pick b (pick (eqb k c.column) c.value (f r k)) (f r k)) ≡ pick b (after cs k (pick (eqb k c.column) c.value (f r k))) (f r k)
      out r k true = refl
      out r k false = refl

-- one row becomes what g says of it, and g says of every other row what f says
pub grid_row : {w size : ℕ} {f : ℕ → ℕ → ℕ} {a : List ℕ} → Grid w size f a → (x : ℕ) → x * w + w ≤ size → (cs : List Cell) → Below w cs → (g : ℕ → ℕ → ℕ)
    → ((r k : ℕ) → k < w → (r ≡ x → ⊥) → f r k ≡ g r k) → ((k : ℕ) → k < w → after cs k (f x k) ≡ g x k) → Grid w size g (stored w x a cs)
unfolding pick
grid_row {w} {size} {f} {a} G x room cs B g other here = grid_as (λ r k h. go r k h (eqb r x) refl) (all w size x room cs B f a G)
  where
    go : (r k : ℕ) → k < w → (b : Bool) → eqb r x ≡ b → pick b (after cs k (f r k)) (f r k) ≡ g r k
    go r k h true e =
        let s : r ≡ x = eqb-true r x e in
        ap (λ (i : ℕ). after cs k (f i k)) s ∙ here k h ∙ ap (λ (i : ℕ). g i k) (sym s)
    go r k h false e = other r k h (eqb-false r x e)
