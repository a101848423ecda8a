-- What an instruction is told, and what it tells.
use Rattle.std.specs.Prelude.{◌≡◌, ℕ, ◌+◌, ◌-◌, ◌<◌, ◌≤◌, List, [], ◌∷◌, length, ◌≢◌, nat_lt, slice_index_or}
use Rattle.model.specs.Answer.{pick}

-- b is the byte at the offset, which lies inside the method's code
pub record Reads (at : ℕ) (part : List ℕ) (b : ℕ) : Type 0 where
  pub inside : at < length part
  pub most : length part ≤ 1024
  pub byte : slice_index_or part at 0 ≡ b
  pub few : b < 256

-- b is none of these opcodes, the last one first
abbrev pub Others : List ℕ → ℕ → Type 0
Others [] b = Unit
Others (k ∷ ks) b = Others ks b × (b ≢ k)

-- half of the values of one byte, of four bytes
pub data Half : ℕ → Type 0 where
  one_byte : Half 0x80
  four_bytes : Half 0x80000000

-- a number of a width with twice `half` values, in 64 bits with its sign
unfoldable pub away : ℕ → ℕ → ℕ
away half d = pick (nat_lt d half) d (d + 0x10000000000000000 - (half + half))
