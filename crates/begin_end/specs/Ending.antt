-- What the end of a run relies on, and what it changes of an array.
use Rattle.std.specs.Prelude.{ℕ, ◌+◌, ◌-◌, ◌*◌, ◌≤◌, ◌<◌, ◌≡◌, List, length, get_or, set}
use Rattle.state.specs.View.{depth_of, method_of}

-- the cells with the running frame saved like a waiting one
abbrev pub saved_cells : ℕ → ℕ → ℕ → List ℕ → List ℕ
saved_cells fp at sp cells = set (set cells (fp + 56) at) (fp + 57) (sp - (fp + 24))

-- what is saved of the live frames is in range
pub record Waiting (live : ℕ) (cells : List ℕ) : Type 0 where
  pub depth_few : (f : ℕ) → f < live → depth_of cells f ≤ 32
  pub row_few : (f : ℕ) → f < live → method_of cells f ≤ 128

-- the cells of a place without an object are 0
pub record Blank (classes heap : List ℕ) : Type 0 where
  pub no_object : (r j : ℕ) → j < 8 → get_or classes r 0 ≡ 0 → get_or heap (r * 8 + j) 0 ≡ 0

-- the cells from a place up to another are g's, the others as before
pub record Changed (g : ℕ → ℕ) (from to : ℕ) (before after : List ℕ) : Type 0 where
  pub long : length after ≡ length before
  pub inside : (j : ℕ) → from ≤ j → j < to → get_or after j 0 ≡ g j
  pub below : (j : ℕ) → j < from → get_or after j 0 ≡ get_or before j 0
  pub above : (j : ℕ) → to ≤ j → get_or after j 0 ≡ get_or before j 0
