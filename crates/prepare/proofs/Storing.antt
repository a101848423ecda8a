-- The kinds of variables, a cell and a row at a time.
use Prim.Native.Nat.{ℕ, ◌+◌, ◌*◌, ◌≤◌, ◌<◌}
use mathlib.Core.Path.{◌≡◌, refl, ◌∙◌}
use mathlib.Core.Logic.{◌⊎◌, inl, inr}
use mathlib.Core.List.{List}
use native.Mathlib.Omega.{arith}
use native.Mathlib.Decide.{ℕ_discrete}
use lib.ListN.{length, get_or, set, length-set}
use lib.Seq.{get_or-set_same, get_or-set_other}
use Rattle.loaded.specs.Holds.{method_cell}
use Rattle.state.specs.Order.{kind_or_none}
use Rattle.prepare.specs.Kinds.{RowKinds}

pub kinds_none : (r : ℕ) (methods l : List ℕ) → RowKinds r 0 methods l l
kinds_none r methods l = record { long = refl; inside = λ i h. absurd (omega arith); outside = λ k h. refl }

module _ (r n v : ℕ) (methods before after : List ℕ) (few : r < 129) (low : n < 24) (long : length before ≡ 4128) (K : RowKinds r n methods before after)
    (e : v ≡ kind_or_none (method_cell methods r n)) where
  apart : (k : ℕ) → (k < r * 32) ⊎ (r * 32 + 32 ≤ k) → k ≡ r * 32 + n → ⊥
  apart k (inl l) q = omega arith
  apart k (inr l) q = omega arith

  pub kinds_more : RowKinds r (n + 1) methods before (set after (r * 32 + n) v)
  kinds_more = record {
    long = length-set after (r * 32 + n) v ∙ K.long;
    inside = λ i h. go i h (ℕ_discrete i n);
    outside = λ k w. get_or-set_other after (r * 32 + n) k v 0 (apart k w) ∙ K.outside k w;
  }
    where
      go : (i : ℕ) → i < n + 1 → Dec (i ≡ n) → get_or (set after (r * 32 + n) v) (r * 32 + i) 0 ≡ kind_or_none (method_cell methods r i)
      go i h (yes q) = rw q (get_or-set_same after (r * 32 + n) v 0 (omega (arith, K.long)) ∙ e)
      go i h (no w) = get_or-set_other after (r * 32 + n) (r * 32 + i) v 0 (λ q. w (omega arith)) ∙ K.inside i (omega arith)

-- the rows below r have their kinds
pub rows_more : (r : ℕ) (methods before after : List ℕ) → RowKinds r 24 methods before after
    → ((s i : ℕ) → 0 < s → s < r → i < 24 → get_or before (s * 32 + i) 0 ≡ kind_or_none (method_cell methods s i))
    → (s i : ℕ) → 0 < s → s < r + 1 → i < 24 → get_or after (s * 32 + i) 0 ≡ kind_or_none (method_cell methods s i)
rows_more r methods before after K below s i pos less h = go (ℕ_discrete s r)
  where
    go : Dec (s ≡ r) → get_or after (s * 32 + i) 0 ≡ kind_or_none (method_cell methods s i)
    go (yes q) = rw q (K.inside i h)
    go (no w) = K.outside (s * 32 + i) (inl (omega arith)) ∙ below s i pos (omega arith) h
