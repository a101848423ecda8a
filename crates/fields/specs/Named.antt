-- The row that the token after an opcode names, or what refuses it.
use Rattle.std.specs.Prelude.{ℕ, suc, ◌+◌, ◌≤◌, ◌<◌, ◌≡◌, Bool, true, false, List, length, drop, Result, Ok, Err}
use Rattle.model.specs.Loading.{little}
use Rattle.loaded.specs.Holds.{field_cell}
use Rattle.state.specs.declared.ending.Ending.{Ending}
use Rattle.state.specs.declared.ending.Ending.TheVariants.{Undecodable, BadOperand}
use Rattle.state.specs.Work.{is_token, row_of_token, is_field}

-- the token after the opcode at an offset
abbrev pub token_at : List ℕ → ℕ → ℕ
token_at part at = little 4 (drop (suc at) part)

-- `names` is the test of the token; it is refused where it is cut and where the test fails, else it names its row
pub data Names (part : List ℕ) (at : ℕ) (names : Bool) (x : Result ℕ Ending) : Type 0 where
  cut : x ≡ Err Undecodable → length part < at + 5 → Names part at names x
  wrong : x ≡ Err BadOperand → at + 5 ≤ length part → names ≡ false → Names part at names x
  right : {r : ℕ} → x ≡ Ok r → at + 5 ≤ length part → names ≡ true → r ≡ row_of_token (token_at part at) → Names part at names x

-- of the kind that the top byte of the token says
pub record NamesRow (part : List ℕ) (at kind count : ℕ) (x : Result ℕ Ending) : Type 0 where
  pub row : Names part at (is_token kind count (token_at part at)) x
  pub few : (r : ℕ) → x ≡ Ok r → r ≤ count

pub record NamesField (part : List ℕ) (at : ℕ) (fields : List ℕ) (count flag : ℕ) (x : Result ℕ Ending) : Type 0 where
  pub row : Names part at (is_field count fields flag (token_at part at)) x
  pub few : (r : ℕ) → x ≡ Ok r → r ≤ 128
  pub flagged : (r : ℕ) → x ≡ Ok r → field_cell fields r 1 ≡ flag
