-- The ancestor test goes from row to parent row.
use mathlib.Core.Path.{◌≡◌, refl, sym, ap, ◌∙◌}
use Prim.Native.Nat.{ℕ, zero, suc, ◌≤◌, ◌<◌}
use mathlib.Core.Bool.{Bool, true, false, ◌||◌}
use mathlib.Core.Option.{Option, none}
use mathlib.Core.List.{List, [], ◌∷◌}
use native.Mathlib.Omega.{arith}
use lib.ListN.{length, get_or}
use lib.Dec.{eqb}
use borrow.Author.Tests.{eq-eqb, ne_eqb}
use Rattle.model.specs.Answer.{or_else, at, row}
use Rattle.model.specs.Tables.{parent_of, climbs, descends}
use Rattle.ancestor.specs.Parents.{Falls, Parents}

module _ (ps : List ℕ) (falls : Falls ps) (d : ℕ) where
  enough : (k j c : ℕ) → c ≤ k → c ≤ j → climbs ps k c d ≡ climbs ps j c d
  unfolding climbs Falls
  enough zero zero c hk hj = refl
  enough zero (suc j) zero hk hj = refl
  enough zero (suc j) (suc c) hk hj = absurd (omega arith)
  enough (suc k) zero zero hk hj = refl
  enough (suc k) zero (suc c) hk hj = absurd (omega arith)
  enough (suc k) (suc j) zero hk hj = refl
  enough (suc k) (suc j) (suc c) hk hj =
      let l : parent_of ps (suc c) < suc c = falls (suc c) (omega arith) in
      ap (λ (b : Bool). eqb (suc c) d || b) (enough k j (parent_of ps (suc c)) (omega arith) (omega arith))

  -- one step up
  up : (c : ℕ) → (c ≡ 0 → ⊥) → (c ≡ d → ⊥) → descends ps (parent_of ps c) d ≡ descends ps c d
  unfolding descends climbs Falls
  up zero nz nd = absurd (nz refl)
  up (suc c) nz nd =
      let l : parent_of ps (suc c) < suc c = falls (suc c) (omega arith) in
      enough (parent_of ps (suc c)) c (parent_of ps (suc c)) (omega arith) (omega arith)
      ∙ ap (λ (b : Bool). b || climbs ps c (parent_of ps (suc c)) d) (sym (ne_eqb (suc c) d nd))

pub top : (ps : List ℕ) (c d : ℕ) → c ≡ 0 → false ≡ descends ps c d
unfolding descends climbs
top ps c d e = ap (λ (k : ℕ). climbs ps k k d) (sym e)

pub found : (ps : List ℕ) (c d : ℕ) → (c ≡ 0 → ⊥) → c ≡ d → true ≡ descends ps c d
unfolding descends climbs
found ps zero d nz e = absurd (nz refl)
found ps (suc c) d nz e = ap (λ (b : Bool). b || climbs ps c (parent_of ps (suc c)) d) (sym (eq-eqb (suc c) d e))

-- a class that is not declared has no parent
at_past : {A : Type 0} (l : List A) (k : ℕ) → length l ≤ k → at l k ≡ none
unfolding at
at_past [] k h = refl
at_past (x ∷ l) zero h = absurd (omega arith)
at_past (x ∷ l) (suc k) h = at_past l k (omega arith)

pub beyond : (ps : List ℕ) (c : ℕ) → length ps < c → parent_of ps c ≡ 0
unfolding parent_of or_else row
beyond ps zero h = refl
beyond ps (suc c) h = ap (λ (o : Option ℕ). or_else o 0) (at_past ps c (omega arith))

module _ {ps parents : List ℕ} (P : Parents ps parents) (c : ℕ) (nz : c ≡ 0 → ⊥) where
  -- a parent is no row at or below its child's
  pub steep : {X : Type 0} (w : ℕ) → w ≡ get_or parents c 0 → c ≤ w → X
  unfolding Falls
  steep w e h = let q : w ≡ parent_of ps c = e ∙ P.parent c in let l = P.falls c (omega arith) in absurd (omega arith)

  pub far : (d : ℕ) → 32 < c → (c ≡ d → ⊥) → false ≡ descends ps c d
  far d h nd = top ps (parent_of ps c) d (beyond ps c (let q = P.few in omega arith)) ∙ up ps P.falls d c nz nd

  pub climb : (d w : ℕ) → w ≡ get_or parents c 0 → (c ≡ d → ⊥) → descends ps w d ≡ descends ps c d
  climb d w e nd = ap (λ (k : ℕ). descends ps k d) (e ∙ P.parent c) ∙ up ps P.falls d c nz nd
