-- The faults of the check, by their numbers.
use Rattle.std.specs.Prelude.{ℕ}
use Rattle.shapes.specs.declared.fault.FaultKind.{FaultKind}
use Rattle.shapes.specs.declared.fault.FaultKind.TheVariants.{Undecodable, Operand, TooFew, TooMany, WrongType, OtherShape, FallsPast}

abbrev pub number : FaultKind → ℕ
number Undecodable = 11
number Operand = 12
number TooFew = 13
number TooMany = 14
number WrongType = 15
number OtherShape = 16
number FallsPast = 17
