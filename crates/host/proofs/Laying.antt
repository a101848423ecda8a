-- Cells laid one after the other.
use mathlib.Core.Path.{◌≡◌, refl, ap}
use mathlib.Core.List.{List, [], ◌∷◌, ◌++◌, append_assoc}
use Prim.Native.Nat.{ℕ, zero, suc, ◌+◌, ◌≤◌, ◌<◌}
use native.Mathlib.Numerals.{add-one}
use native.Mathlib.Omega.{arith}
use lib.ListN.{length, set, drop, length-set}
use lib.Seq.{drop-cons, set_at}
use Rattle.state.specs.View.{span}
use Rattle.faithful.proofs.Lists.{length_span}
use Rattle.host.specs.Hosting.{over}

-- ---- A few cells, one by one

pub three_laid : (l : List ℕ) (x y z : ℕ) → 3 ≤ length l → set (set (set l 0 x) 1 y) 2 z ≡ over (x ∷ y ∷ z ∷ []) l
unfolding over
three_laid [] x y z h = absurd (omega arith)
three_laid (a ∷ []) x y z h = absurd (omega arith)
three_laid (a ∷ b ∷ []) x y z h = absurd (omega arith)
three_laid (a ∷ b ∷ c ∷ l) x y z h = refl

-- three more behind the first three
pub six_laid : (l : List ℕ) (x y z u v w : ℕ) → 6 ≤ length l
    → set (set (set (over (x ∷ y ∷ z ∷ []) l) 3 u) 4 v) 5 w ≡ over (x ∷ y ∷ z ∷ u ∷ v ∷ w ∷ []) l
unfolding over
six_laid [] x y z u v w h = absurd (omega arith)
six_laid (a ∷ []) x y z u v w h = absurd (omega arith)
six_laid (a ∷ b ∷ []) x y z u v w h = absurd (omega arith)
six_laid (a ∷ b ∷ c ∷ []) x y z u v w h = absurd (omega arith)
six_laid (a ∷ b ∷ c ∷ d ∷ []) x y z u v w h = absurd (omega arith)
six_laid (a ∷ b ∷ c ∷ d ∷ e ∷ []) x y z u v w h = absurd (omega arith)
six_laid (a ∷ b ∷ c ∷ d ∷ e ∷ g ∷ l) x y z u v w h = refl

-- ---- Cells by their index

-- of n cells to lay, the first i are f's, the others as before
pub record Laid (f : ℕ → ℕ) (n : ℕ) (s l : List ℕ) (i : ℕ) : Type 0 where
  pub most : i ≤ n
  pub room : n ≤ length s
  pub long : length l ≡ length s
  pub cells : l ≡ span f 0 i ++ drop i s

span_more : (f : ℕ → ℕ) (j n : ℕ) → span f j (suc n) ≡ span f j n ++ (f (n + j) ∷ [])
unfolding span
span_more f j zero = let e : 0 + j ≡ j = omega arith in rw e
span_more f j (suc n) = let e : suc n + j ≡ n + suc j = omega arith in rw e (ap (λ (l : List ℕ). f j ∷ l) (span_more f (suc j) n))

module _ {f : ℕ → ℕ} {n : ℕ} {s : List ℕ} where
  pub none_laid : n ≤ length s → Laid f n s s 0
  unfolding span
  none_laid h = record { most = omega arith; room = h; long = refl; cells = refl }

  pub one_more : {l : List ℕ} {i v : ℕ} → i < n → v ≡ f i → Laid f n s l i → Laid f n s (set l i v) (i + 1)
  one_more {l} {i} {v} h e d =
      let k : i < length s = omega arith in
      let z : i + 0 ≡ i = omega arith in
      record {
        most = omega arith;
        room = d.room;
        long = simp length-set d.long;
        cells =
            rw (d.cells, e, add-one i, drop-cons s i 0 k, span_more f 0 i, z, append_assoc)
            (set_at (span f 0 i) _ (drop (suc i) s) (f i) i (length_span f 0 i));
      }

  pub all_laid : {l : List ℕ} {i : ℕ} → n ≤ i → Laid f n s l i → l ≡ over (span f 0 n) s
  unfolding over
  all_laid {l} {i} h d = let same : i ≡ n = omega arith in rw (length_span f 0 n) (rw same at d.cells)
