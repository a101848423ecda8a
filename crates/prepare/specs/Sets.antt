-- Sets of classes.
use Rattle.std.specs.Prelude.{ℕ, ◌+◌, ◌%◌, ◌≤◌, ◌<◌, ◌≡◌, Bool, false, List, get_or}
use Rattle.model.specs.Tables.{descends}
use Rattle.state.specs.Work.{in_set}

-- whether a set has a class, by its row and by the byte of its type
pub record Has (s d : ℕ) (b : Bool) : Type 0 where
  pub by_row : in_set s d ≡ b
  pub by_type : in_set s ((32 + d) % 64) ≡ b

-- class c is no class below `first`, and descends from none of them
unfoldable pub Unasked : List ℕ → ℕ → ℕ → Type 0
Unasked ps c first = (e : ℕ) → 0 < e → e < first → descends ps c e ≡ false

-- of the classes below d a set has those that class c is or descends from, and no other class
pub record Upto (ps : List ℕ) (c d s : ℕ) : Type 0 where
  pub below : (e : ℕ) → 0 < e → e ≤ 32 → e < d → Has s e (descends ps c e)
  pub above : (e : ℕ) → 0 < e → e ≤ 32 → d ≤ e → Has s e false

-- the sets of the classes below n
pub record Sets (ps : List ℕ) (n : ℕ) (sets : List ℕ) : Type 0 where
  pub set_of : (c : ℕ) → c < n → (e : ℕ) → 0 < e → e ≤ 32 → Has (get_or sets c 0) e (descends ps c e)
