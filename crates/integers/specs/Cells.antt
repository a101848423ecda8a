-- A cell's 64 bits as an int64, or its low 32 as an int32.
use Rattle.std.specs.Prelude.{ℕ, ◌%◌, ◌^◌, Bool, true, false}
use Rattle.std.specs.Int.{Width, w32, w64}
use mir.Val.{bits}

-- the two widths of a cell
pub data OfCell : Width → Type 0 where
  narrow : OfCell w32
  wide : OfCell w64

-- a wide cell is an int64, any other an int32
abbrev pub width_of : Bool → Width
width_of true = w64
width_of false = w32

-- the bits of a cell that a width reads
abbrev pub low : Width → ℕ → ℕ
low w a = a % 2 ^ bits w
