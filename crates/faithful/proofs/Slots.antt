-- Where a field lies: its cell in every class that descends from its owner, and among the static cells.
use Prim.Native.Nat.{ℕ, zero, suc, ◌+◌, ◌-◌, ◌≤◌, ◌<◌}
use mathlib.Core.Path.{◌≡◌, refl, ◌∙◌}
use mathlib.Core.Bool.{Bool, true, false, not, ◌&&◌, ◌||◌}
use mathlib.Core.Option.{some}
use mathlib.Core.List.{List, [], ◌∷◌, ◌++◌, map}
use native.Mathlib.Omega.{arith}
use lib.ListN.{length, take}
use lib.Dec.{eqb}
use borrow.Author.Tests.{eq-eqb, eqb-true}
use Rattle.model.specs.Answer.{pick, at, row, keep_if, those}
use Rattle.model.specs.Tables.{Field, Module, parent_of, climbs, descends, is_own, layout_up, layout, field_types, is_static_field, slot}
use Rattle.model.specs.Step.{slot_in}
use Rattle.state.specs.View.{types_of, static_types}
use Rattle.state.specs.Order.{Fine}

at_left : {A : Type 0} (l k : List A) (i : ℕ) (x : A) → at l i ≡ some x → at (l ++ k) i ≡ some x
unfolding at
at_left [] k i x e = let z : ◌≡◌ {A = ℕ} 0 1 = cc in absurd (omega arith)
at_left (y ∷ l) k zero x e = e
at_left (y ∷ l) k (suc i) x e = at_left l k i x e

at_right : {A : Type 0} (l k : List A) (i : ℕ) → at (l ++ k) (length l + i) ≡ at k i
unfolding at
at_right [] k i = let z : 0 + i ≡ i = omega arith in rw z
at_right (y ∷ l) k i = let z : suc (length l) + i ≡ suc (length l + i) = omega arith in rw z (at_right l k i)

at_map : {A B : Type 0} (f : A → B) (l : List A) (i : ℕ) (x : A) → at l i ≡ some x → at (map f l) i ≡ some (f x)
unfolding at
at_map f [] i x e = let z : ◌≡◌ {A = ℕ} 0 1 = cc in absurd (omega arith)
at_map f (y ∷ l) zero x e = let q : y ≡ x = cc in rw q
at_map f (y ∷ l) (suc i) x e = at_map f l i x e

-- the place among those that pass a test
those_at : {A : Type 0} (p : A → Bool) (l : List A) (i : ℕ) (x : A) → at l i ≡ some x → p x ≡ true → at (those p l) (length (those p (take i l))) ≡ some x
unfolding at those keep_if
those_at p [] i x e t = let z : ◌≡◌ {A = ℕ} 0 1 = cc in absurd (omega arith)
those_at p (y ∷ l) zero x e t = let q : y ≡ x = cc in rw (q, t)
those_at {A = A} p (y ∷ l) (suc i) x e t = go (p y) (those_at p l i x e t) where
  go : (b : Bool) → at (those p l) (length (those p (take i l))) ≡ some x → at (keep_if b y (those p l)) (length (keep_if b y (those p (take i l)))) ≡ some x
  go true h = h
  go false h = h

row_at : {A : Type 0} (l : List A) (r : ℕ) (x : A) → row l r ≡ some x → at l (r - 1) ≡ some x
unfolding row
row_at l zero x e = let z : ◌≡◌ {A = ℕ} 0 1 = cc in absurd (omega arith)
row_at l (suc r) x e = let z : suc r - 1 ≡ r = omega arith in rw z e

module _ (M : Module) (fin : Fine M) where
  abbrev layout_at : ℕ → List Field
  layout_at c = layout M.parents M.fields c

  layout_fuel : (n m c : ℕ) → c ≤ n → c ≤ m → layout_up M.parents M.fields n c ≡ layout_up M.parents M.fields m c
  unfolding layout_up
  layout_fuel zero zero c h k = refl
  layout_fuel zero (suc m) zero h k = refl
  layout_fuel zero (suc m) (suc c) h k = absurd (omega arith)
  layout_fuel (suc n) zero zero h k = refl
  layout_fuel (suc n) zero (suc c) h k = absurd (omega arith)
  layout_fuel (suc n) (suc m) zero h k = refl
  layout_fuel (suc n) (suc m) (suc c) h k =
      let f : parent_of M.parents (suc c) < suc c = fin.falling (suc c) (omega arith) in
      rw (layout_fuel n m (parent_of M.parents (suc c)) (omega arith) (omega arith))

  -- inherited fields first, then own
  layout_step : (c : ℕ) → 0 < c → layout_at c ≡ layout_at (parent_of M.parents c) ++ those (is_own c) M.fields
  unfolding layout layout_up
  layout_step zero h = absurd (omega arith)
  layout_step (suc c) h =
      let f : parent_of M.parents (suc c) < suc c = fin.falling (suc c) h in
      rw (layout_fuel c (parent_of M.parents (suc c)) (parent_of M.parents (suc c)) (omega arith) (omega arith))

  -- a class has its ancestors' fields where they have them
  inherited : (n c o i : ℕ) (d : Field) → climbs M.parents n c o ≡ true → at (layout_at o) i ≡ some d → at (layout_at c) i ≡ some d
  unfolding climbs
  inherited zero c o i d e a = let z : ◌≡◌ {A = ℕ} 0 1 = cc in absurd (omega arith)
  inherited (suc n) zero o i d e a = let z : ◌≡◌ {A = ℕ} 0 1 = cc in absurd (omega arith)
  inherited (suc n) (suc c) o i d e a = go (eqb (suc c) o) refl e (λ q. inherited n (parent_of M.parents (suc c)) o i d q a) where
    go : (b : Bool) → eqb (suc c) o ≡ b → (b || climbs M.parents n (parent_of M.parents (suc c)) o) ≡ true
        → (climbs M.parents n (parent_of M.parents (suc c)) o ≡ true → at (layout_at (parent_of M.parents (suc c))) i ≡ some d) → at (layout_at (suc c)) i ≡ some d
    go true t q f = let w : suc c ≡ o = eqb-true _ _ t in rw w a
    go false t q f = rw (layout_step (suc c) (omega arith)) (at_left _ _ i d (f q))

  pub slot_found : (r c : ℕ) (d : Field) → row M.fields r ≡ some d → d.is_static ≡ false → descends M.parents c d.owner ≡ true
      → at (types_of M c) (slot_in M r d) ≡ some d.type
  unfolding types_of field_types slot_in slot descends is_own pick
  slot_found r c d e s k =
      let ow = (fin.field r d e).owned in
      let t : (eqb d.owner d.owner && not d.is_static) ≡ true = rw (eq-eqb d.owner d.owner refl, s) in
      let own : at (those (is_own d.owner) M.fields) (length (those (is_own d.owner) (take (r - 1) M.fields))) ≡ some d = those_at (is_own d.owner) M.fields (r - 1) d (row_at M.fields r d e) t in
      let here : at (layout_at d.owner) (length (layout_at (parent_of M.parents d.owner)) + length (those (is_own d.owner) (take (r - 1) M.fields))) ≡ some d =
      rw (layout_step d.owner ow.0) (at_right (layout_at (parent_of M.parents d.owner)) _ _ ∙ own) in
      rw s (at_map (λ f. f.type) (layout_at c) _ d (inherited c c d.owner _ d k here))

  pub static_found : (r : ℕ) (d : Field) → row M.fields r ≡ some d → d.is_static ≡ true → at (static_types M) (slot_in M r d) ≡ some d.type
  unfolding static_types field_types slot_in slot is_static_field pick
  static_found r d e s = rw s (at_map (λ f. f.type) (those is_static_field M.fields) _ d (those_at is_static_field M.fields (r - 1) d (row_at M.fields r d e) s))
