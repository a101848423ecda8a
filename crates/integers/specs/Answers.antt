-- What operators that can fail answer.
use Rattle.std.specs.Prelude.{ℕ, Result, Ok, Err}
use Rattle.model.specs.Answer.{Answer, bad, ok}
use Rattle.integers.specs.declared.Ends.{Ends}
use Rattle.integers.specs.declared.Ends.TheVariants.{DivisionByZero, Arithmetic, Overflow}

-- the number that the run ends with
abbrev pub number_of : Ends → ℕ
number_of DivisionByZero = 31
number_of Arithmetic = 32
number_of Overflow = 33

-- a value, or the number that the run ends with
abbrev pub answer : {A : Type 0} → Result A Ends → Answer ℕ A
answer (Ok a) = ok a
answer (Err e) = bad (number_of e)
