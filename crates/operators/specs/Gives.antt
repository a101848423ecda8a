-- What the operators give: a kind and bits, or the number that the run ends with.
use Rattle.std.specs.Prelude.{ℕ, Bool}
use Rattle.std.specs.Prelude as Rust
use Rattle.std.specs.Prelude.{Result, Ok, Err, Some, None}
use Rattle.std.proofs.Math.Option.{Option, none, some}
use Rattle.model.specs.Answer.{Answer, bad, ok, ◌>>=◌, need, map_option}
use Rattle.model.specs.Code.{Number, add, sub, mul, div, Whole, rem, div_un, rem_un, and, or, xor, add_ovf, mul_ovf, sub_ovf, Shift, shl, shr, shr_un, Relation, eq, ne, lt, le, gt, ge, lt_un, le_un, gt_un, ge_un, Binary, number, whole, shift, compare, Unary, neg, not_bits, conv_i4, conv_i8, conv_r8, Jump, always, iftrue, iffalse, when}
use Rattle.model.specs.Operators.{binary_of, unary_of, comparison}
use Rattle.state.specs.View.{kind_by, kind_of_type, shown}
use Rattle.integers.specs.Answers.{number_of}
use Rattle.operators.specs.declared.codes.Number.{Number as NumberCode}
use Rattle.operators.specs.declared.codes.Number.TheVariants.{Add, Sub, Mul, Div}
use Rattle.operators.specs.declared.codes.Whole.{Whole as WholeCode}
use Rattle.operators.specs.declared.codes.Whole.TheVariants.{Rem, DivUn, RemUn, And, Or, Xor, AddOvf, MulOvf, SubOvf}
use Rattle.operators.specs.declared.codes.Shift.{Shift as ShiftCode}
use Rattle.operators.specs.declared.codes.Shift.TheVariants.{Shl, Shr, ShrUn}
use Rattle.operators.specs.declared.codes.Relation.{Relation as RelationCode}
use Rattle.operators.specs.declared.codes.Relation.TheVariants.{Eq, Ne, Lt, Le, Gt, Ge, LtUn, LeUn, GtUn, GeUn}
use Rattle.operators.specs.declared.codes.Binary.{Binary as BinaryCode}
use Rattle.operators.specs.declared.codes.Binary.TheVariants.{Number as OfNumber, Whole as OfWhole, Shift as OfShift, Compare}
use Rattle.operators.specs.declared.codes.Unary.{Unary as UnaryCode}
use Rattle.operators.specs.declared.codes.Unary.TheVariants.{Neg, Not, ConvI4, ConvI8, ConvR8}
use Rattle.operators.specs.declared.codes.Jump.{Jump as JumpCode}
use Rattle.operators.specs.declared.codes.Jump.TheVariants.{Always, IfTrue, IfFalse, When}
use Rattle.operators.specs.declared.operators.Cell.{Cell}
use Rattle.operators.specs.declared.operators.Ends.{Ends}
use Rattle.operators.specs.declared.operators.Ends.TheVariants.{Integer, WrongType}

-- ---- Operators by name

abbrev pub number_by : NumberCode → Number
number_by Add = add
number_by Sub = sub
number_by Mul = mul
number_by Div = div

abbrev pub whole_by : WholeCode → Whole
whole_by Rem = rem
whole_by DivUn = div_un
whole_by RemUn = rem_un
whole_by And = and
whole_by Or = or
whole_by Xor = xor
whole_by AddOvf = add_ovf
whole_by MulOvf = mul_ovf
whole_by SubOvf = sub_ovf

abbrev pub shift_by : ShiftCode → Shift
shift_by Shl = shl
shift_by Shr = shr
shift_by ShrUn = shr_un

abbrev pub relation_by : RelationCode → Relation
relation_by Eq = eq
relation_by Ne = ne
relation_by Lt = lt
relation_by Le = le
relation_by Gt = gt
relation_by Ge = ge
relation_by LtUn = lt_un
relation_by LeUn = le_un
relation_by GtUn = gt_un
relation_by GeUn = ge_un

abbrev pub unary_by : UnaryCode → Unary
unary_by Neg = neg
unary_by Not = not_bits
unary_by ConvI4 = conv_i4
unary_by ConvI8 = conv_i8
unary_by ConvR8 = conv_r8

abbrev pub binary_by : BinaryCode → Binary
binary_by (OfNumber o) = number (number_by o)
binary_by (OfWhole o) = whole (whole_by o)
binary_by (OfShift o) = shift (shift_by o)
binary_by (Compare r) = compare (relation_by r)

abbrev pub jump_by : JumpCode → Jump
jump_by Always = always
jump_by IfTrue = iftrue
jump_by IfFalse = iffalse
jump_by (When r) = when (relation_by r)

-- ---- What an operator gives

-- the number that the run ends with
abbrev pub ends_with : Ends → ℕ
ends_with (Integer e) = number_of e
ends_with WrongType = 45

-- a kind and bits, or that number
abbrev pub given : Result Cell Ends → Answer ℕ (ℕ × ℕ)
given (Ok c) = ok (c.kind, c.bits)
given (Err e) = bad (ends_with e)

-- bits as a cell of a kind
abbrev pub of_kind : ℕ → Answer ℕ ℕ → Answer ℕ (ℕ × ℕ)
of_kind k (ok n) = ok (k, n)
of_kind k (bad e) = bad e

unfoldable pub binary_gives : Binary → ℕ → ℕ → ℕ → ℕ → Answer ℕ (ℕ × ℕ)
binary_gives o k l a b =
    need (binary_of o (kind_by k) (kind_by l)) 45 >>= λ g.
    g.bits_of (shown k a) (shown l b) >>= λ n.
    ok (kind_of_type g.gives, n)

unfoldable pub unary_gives : Unary → ℕ → ℕ → Answer ℕ (ℕ × ℕ)
unary_gives o k a = need (unary_of o (kind_by k)) 45 >>= λ g. ok (kind_of_type g.gives, g.bits_of (shown k a))

-- ---- Comparisons

abbrev pub says : Rust.Option Bool → Option Bool
says (Some b) = some b
says None = none

-- whether a comparison holds, none where the kinds have none
unfoldable pub compared : Relation → ℕ → ℕ → ℕ → ℕ → Option Bool
compared r k l a b = map_option (λ f. f (shown k a) (shown l b)) (comparison r (kind_by k) (kind_by l))
