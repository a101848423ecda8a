-- The parts that the integer operators are made of.
use Rattle.std.specs.Prelude.{ℕ, not, ℤ, eqb, int_div}
use Rattle.std.specs.Int.{Width}
use Rattle.std.proofs.Common.{to_z, of_z}
use Rattle.model.specs.Answer.{Answer, ok, ◌>>◌, guard}
use Rattle.model.specs.Operators.{holds}

-- the bits of a signed number, if it fits
unfoldable pub fitting : Width → ℤ → Answer ℕ ℕ
fitting w z = do guard (holds w z) 33; ok (of_z w z)

-- a quotient of two cells, unless the divisor is 0 or it doesn't fit
unfoldable pub quotient_of : Width → ℕ → ℕ → Answer ℕ ℤ
quotient_of w a b = do
  guard (not (eqb b 0)) 31
  guard (holds w (int_div (to_z w a) (to_z w b))) 32
  ok (int_div (to_z w a) (to_z w b))
