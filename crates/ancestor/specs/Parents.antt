-- Parents of classes, as the array of a loaded module holds them.
use Rattle.std.specs.Prelude.{ℕ, ◌≤◌, ◌<◌, ◌≡◌, List, length, get_or}
use Rattle.model.specs.Tables.{parent_of}

-- a parent stands in an earlier row
unfoldable pub Falls : List ℕ → Type 0
Falls ps = (c : ℕ) → 0 < c → parent_of ps c < c

-- the parents of a loaded module, and the array that holds them
pub record Parents (ps parents : List ℕ) : Type 0 where
  pub parent : (c : ℕ) → get_or parents c 0 ≡ parent_of ps c
  pub falls : Falls ps
  pub few : length ps ≤ 32
