-- The kinds of a method's variables in its row.
use Rattle.std.specs.Prelude.{ℕ, ◌+◌, ◌*◌, ◌≤◌, ◌<◌, ◌≡◌, ◌⊎◌, List, length, get_or}
use Rattle.loaded.specs.Holds.{method_cell}
use Rattle.state.specs.Order.{kind_or_none}

-- the kinds of the first n variables of row r are there; every other row is kept
pub record RowKinds (r n : ℕ) (methods before after : List ℕ) : Type 0 where
  pub long : length after ≡ length before
  pub inside : (i : ℕ) → i < n → get_or after (r * 32 + i) 0 ≡ kind_or_none (method_cell methods r i)
  pub outside : (k : ℕ) → (k < r * 32) ⊎ (r * 32 + 32 ≤ k) → get_or after k 0 ≡ get_or before k 0
