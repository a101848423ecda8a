-- The table of lengths, and document 01's rule for it by ranges of opcodes.
use Rattle.std.specs.Prelude.{ℕ, ◌<◌, ◌≡◌, Bool, false, ◌||◌, List, [], ◌∷◌, get_or}
use Rattle.model.specs.Answer.{pick}
use Rattle.model.specs.Loading.{within}
use Rattle.model.specs.Code.{length_of}

-- one length for each first byte
abbrev pub Lengths : List ℕ → Type 0
Lengths l = (b : ℕ) → b < 256 → get_or l b 0 ≡ length_of b

-- ---- By ranges

-- whether a byte lies in one of some ranges
pub record Range : Type 0 where
  pub low : ℕ
  pub high : ℕ

infix 75 ◌to◌
unfoldable pub ◌to◌ : ℕ → ℕ → Range
◌to◌ a b = record { low = a; high = b }

unfoldable pub among : List Range → ℕ → Bool
among [] b = false
among (r ∷ rs) b = within r.low r.high b || among rs b

-- instructions kept, by first byte
unfoldable pub kept : List Range
kept =
    0x00 to 0x00 ∷ 0x02 to 0x0E ∷ 0x10 to 0x11 ∷ 0x13 to 0x21 ∷ 0x23 to 0x23 ∷ 0x25 to 0x26 ∷ 0x28 to 0x28 ∷ 0x2A to 0x44 ∷ 0x58 to 0x66
    ∷ 0x69 to 0x6A ∷ 0x6C to 0x6C ∷ 0x6F to 0x6F ∷ 0x73 to 0x75 ∷ 0x7B to 0x7B ∷ 0x7D to 0x7E ∷ 0x80 to 0x80
    ∷ 0xD6 to 0xD6 ∷ 0xD8 to 0xD8 ∷ 0xDA to 0xDA ∷ 0xFE to 0xFE ∷ []

unfoldable pub of_two : List Range
of_two = 0x0E to 0x0E ∷ 0x10 to 0x11 ∷ 0x13 to 0x13 ∷ 0x1F to 0x1F ∷ 0x2B to 0x37 ∷ 0xFE to 0xFE ∷ []

unfoldable pub of_five : List Range
of_five =
    0x20 to 0x20 ∷ 0x28 to 0x28 ∷ 0x38 to 0x44 ∷ 0x6F to 0x6F ∷ 0x73 to 0x75 ∷ 0x7B to 0x7B ∷ 0x7D to 0x7E ∷ 0x80 to 0x80 ∷ []

unfoldable pub of_nine : List Range
of_nine = 0x21 to 0x21 ∷ 0x23 to 0x23 ∷ []

-- the length by ranges, 0 where not kept
unfoldable pub by_range : ℕ → ℕ
by_range b =
    pick (among of_two b) 2
    (pick (among of_five b) 5
    (pick (among of_nine b) 9
    (pick (among kept b) 1 0)))

abbrev pub ByRange : List ℕ → Type 0
ByRange l = (b : ℕ) → b < 256 → get_or l b 0 ≡ by_range b
