-- A text that grows in a buffer, and a place that says where it ends.
use Rattle.std.specs.Prelude.{◌≡◌, List, ◌++◌, ℕ, zero, suc, ◌+◌, ◌≤◌, ◌<◌, ltb, length, take}
use Rattle.std.proofs.lemmas.List.Edits.{sets}
use Rattle.model.specs.Answer.{pick}
use Rattle.line.specs.declared.text.Text.{Text}

-- the place after one byte in a buffer of a length, one past its end where the byte has no room
unfoldable pub next : ℕ → ℕ → ℕ
next room at = pick (ltb at room) (suc at) (suc room)

-- the place after n bytes
unfoldable pub past : ℕ → ℕ → ℕ → ℕ
past room at zero = at
past room at (suc n) = past room (next room at) n

-- a text with t after it, as far as its buffer has room
unfoldable pub appended : Text → List ℕ → Text
appended a t = record a { out = record a.out { now = sets a.out.now a.at t }; at = past (length a.out.now) a.at (length t) }

-- the buffer s with the text t from a place on, as far as it has room, and the place after it
pub record Appended (s : List ℕ) (at : ℕ) (t s' : List ℕ) (at' : ℕ) : Type 0 where
  pub bytes : s' ≡ sets s at t
  pub place : at' ≡ past (length s) at (length t)
  -- with room, the buffer holds the text after what it held up to the place
  pub held : at + length t ≤ length s → (at' ≡ at + length t) × (take at' s' ≡ take at s ++ t)
  -- without, the place lies past the buffer's end
  pub over : length s < at + length t → length s < at'

-- the buffer s of 128 bytes with the text t from its start on, which has room for all of it, and how long the text is
pub record Alone (s t s' : List ℕ) (r : ℕ) : Type 0 where
  pub bytes : s' ≡ sets s 0 t
  pub size : r ≡ length t
  pub room : r ≤ 128
