-- Tables of a row for each class: what a row has itself, and what it takes from the row of its parent.
use Rattle.std.specs.Prelude.{ℕ, ◌+◌, ◌*◌, ◌≤◌, ◌<◌, ◌≡◌, ◌⊎◌, List, length, get_or, eqb}
use Rattle.model.specs.Answer.{pick}

-- a number, or another where it is 0
unfoldable pub or_other : ℕ → ℕ → ℕ
or_other a b = pick (eqb a 0) b a

-- n numbers that begin at `to` have, where they were 0, what stands as far from `from` on; all others are kept
pub record Filled (from to n : ℕ) (before after : List ℕ) : Type 0 where
  pub long : length after ≡ length before
  pub inside : from + n ≤ to → (i : ℕ) → i < n → get_or after (to + i) 0 ≡ or_other (get_or before (to + i) 0) (get_or before (from + i) 0)
  pub outside : (k : ℕ) → (k < to) ⊎ (to + n ≤ k) → get_or after k 0 ≡ get_or before k 0
  -- no number is higher than all were
  pub few : (m : ℕ) → ((k : ℕ) → get_or before k 0 ≤ m) → (k : ℕ) → get_or after k 0 ≤ m

-- the first n cells of the rows below c are what they were, or where they were 0 what the row of the parent is; a parent is a smaller row
pub record Inherited (parents : List ℕ) (width n c : ℕ) (before after : List ℕ) : Type 0 where
  pub long : length after ≡ length before
  pub first : (q : ℕ) → q < n → get_or after q 0 ≡ get_or before q 0
  pub later : (k q : ℕ) → 0 < k → k < c → q < n → get_or parents k 0 < k
      → get_or after (k * width + q) 0 ≡ or_other (get_or before (k * width + q) 0) (get_or after (get_or parents k 0 * width + q) 0)
  pub rest : (k : ℕ) → c * width ≤ k → get_or after k 0 ≡ get_or before k 0
  pub few : (m : ℕ) → ((k : ℕ) → get_or before k 0 ≤ m) → (k : ℕ) → get_or after k 0 ≤ m
