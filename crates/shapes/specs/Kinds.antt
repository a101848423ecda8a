-- What the tests on types say.
use Rattle.std.specs.Prelude.{ℕ, Bool, not, ◌&&◌, ◌||◌}
use Rattle.std.proofs.Math.Option.{Option}
use Rattle.model.specs.Answer.{map_option}
use Rattle.model.specs.Tables.{byte_of}
use Rattle.model.specs.Code as model
use Rattle.model.specs.Operators as operators
use Rattle.shapes.specs.declared.kind.Kind.{Kind}
use Rattle.shapes.specs.declared.kind.Kind.TheVariants.{Int32, Int64, F, Reference}
use Rattle.shapes.specs.declared.kind.Pair.{Pair}
use Rattle.shapes.specs.declared.kind.Pair.TheVariants.{Numbers, Integers, Shift, Alike}
use Rattle.shapes.specs.declared.kind.Unary.{Unary}
use Rattle.shapes.specs.declared.kind.Unary.TheVariants.{Neg, Not, ConvI4, ConvI8, ConvR8}

abbrev pub kind_is : Kind → operators.Kind
kind_is Int32 = operators.k32
kind_is Int64 = operators.k64
kind_is F = operators.k_f
kind_is Reference = operators.reference

unfoldable pub is_integer : operators.Kind → Bool
is_integer k = operators.same k operators.k32 || operators.same k operators.k64

unfoldable pub pairs : Pair → operators.Kind → operators.Kind → Bool
pairs Numbers a b = operators.same a b && not (operators.same a operators.reference)
pairs Integers a b = operators.same a b && is_integer a
pairs Shift a b = operators.same b operators.k32 && is_integer a
pairs Alike a b = operators.same a b

-- the operators of one operand
abbrev pub unary_by : Unary → model.Unary
unary_by Neg = model.neg
unary_by Not = model.not_bits
unary_by ConvI4 = model.conv_i4
unary_by ConvI8 = model.conv_i8
unary_by ConvR8 = model.conv_r8

-- the byte of the type given, if any
unfoldable pub given : Option operators.Conversion → Option ℕ
given o = map_option (λ c. byte_of c.gives) o
