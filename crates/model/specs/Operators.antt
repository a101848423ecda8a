-- Operators: which types each takes, what it gives, and its value over the whole numbers and IEEE 754 doubles.
use Rattle.std.specs.Prelude.{ℕ, suc, ◌-◌, ◌*◌, ◌/◌, ◌%◌, ◌^◌, Bool, true, false, not, ◌||◌, List, leb, ltb, eqb, ℤ, pos, negsuc, neg_ℤ, ◌+ℤ◌, ◌-ℤ◌, ◌*ℤ◌, Float}
use Rattle.std.proofs.Math.Option.{Option, none, some}
use Rattle.std.specs.Int.Bits.{bit_and, bit_or, bit_xor}
use Rattle.std.specs.Int.Signed.{mag, lt_z, le_z, quot_z, rem_z, shr_z}
use Rattle.std.specs.Float.Ieee as Ieee
use Rattle.std.specs.Float.{binary64}
use Rattle.std.specs.Int.{Width, w32, w64}
use mir.Val.{bits, hbits, to_z, of_z}
use Rattle.model.specs.Answer.{Answer, ok, ◌>>◌, guard, only_if, map_option}
use Rattle.model.specs.Tables.{Ty, int32, int64, F, null, class, eq_ty, descends}
use Rattle.model.specs.Code.{Number, add, sub, mul, div, Whole, rem, div_un, rem_un, and, or, xor, add_ovf, mul_ovf, sub_ovf, Shift, shl, shr, shr_un}
use Rattle.model.specs.Code.{Relation, eq, ne, lt, le, gt, ge, lt_un, le_un, gt_un, ge_un, Binary, number, whole, shift, compare, Unary, neg, not_bits}
use Rattle.model.specs.Code.{conv_i4, conv_i8, conv_r8}

-- ---- Fitting

-- null fits every class, a class its ancestors
unfoldable pub refers_to : List ℕ → ℕ → Ty → Bool
refers_to ps d int32 = false
refers_to ps d int64 = false
refers_to ps d F = false
refers_to ps d null = true
refers_to ps d (class c) = descends ps c d

unfoldable pub fits_class : List ℕ → Ty → Ty → Bool
fits_class ps t int32 = false
fits_class ps t int64 = false
fits_class ps t F = false
fits_class ps t null = false
fits_class ps t (class d) = refers_to ps d t

-- a value fits its own type; a class fits its ancestors; null fits every class
unfoldable pub fits : List ℕ → Ty → Ty → Bool
fits ps t u = eq_ty t u || fits_class ps t u

-- ---- Kinds: what an operator sees of a type

pub data Kind : Type 0 where
  k32 k64 k_f reference : Kind

unfoldable pub kind : Ty → Kind
kind int32 = k32
kind int64 = k64
kind F = k_f
kind null = reference
kind (class c) = reference

unfoldable pub kind_number : Kind → ℕ
kind_number reference = 0
kind_number k32 = 1
kind_number k64 = 2
kind_number k_f = 3

unfoldable pub same : Kind → Kind → Bool
same a b = eqb (kind_number a) (kind_number b)

-- what an operator gives: a type, and its bits from those of its operands, or a number 31 to 33
pub record Meaning : Type 0 where
  pub gives : Ty
  pub bits_of : ℕ → ℕ → Answer ℕ ℕ

-- ---- Integers of a width: bits, read as signed numbers by `to_z`

-- the bits of a whole number, wrapped
unfoldable pub wrap : Width → ℤ → ℕ
wrap w (pos n) = n % 2 ^ bits w
wrap w (negsuc n) = 2 ^ bits w - suc (n % 2 ^ bits w)

-- whether a signed number fits a width
unfoldable pub holds : Width → ℤ → Bool
holds w z = ltb (mag z) (2 ^ hbits w)

-- an integer divisor of 0 is 31; the smallest value by -1 is 32 for both div and rem
unfoldable pub divided : Width → (ℤ → ℤ → ℤ) → ℕ → ℕ → Answer ℕ ℕ
divided w f a b = do
  guard (not (eqb b 0)) 31
  guard (holds w (quot_z (to_z w a) (to_z w b))) 32
  ok (of_z w (f (to_z w a) (to_z w b)))

-- an .ovf form ends 33 where the signed result doesn't fit
unfoldable pub checked : Width → (ℤ → ℤ → ℤ) → ℕ → ℕ → Answer ℕ ℕ
checked w f a b = do guard (holds w (f (to_z w a) (to_z w b))) 33; ok (of_z w (f (to_z w a) (to_z w b)))

-- add, sub and mul wrap; div goes toward zero
unfoldable pub integer : Width → Number → ℕ → ℕ → Answer ℕ ℕ
integer w add a b = ok (wrap w (to_z w a +ℤ to_z w b))
integer w sub a b = ok (wrap w (to_z w a -ℤ to_z w b))
integer w mul a b = ok (wrap w (to_z w a *ℤ to_z w b))
integer w div a b = divided w quot_z a b

-- rem has the sign of the dividend
unfoldable pub whole_of : Width → Whole → ℕ → ℕ → Answer ℕ ℕ
whole_of w rem a b = divided w rem_z a b
whole_of w div_un a b = do guard (not (eqb b 0)) 31; ok (a / b)
whole_of w rem_un a b = do guard (not (eqb b 0)) 31; ok (a % b)
whole_of w and a b = ok (bit_and a b)
whole_of w or a b = ok (bit_or a b)
whole_of w xor a b = ok (bit_xor a b)
whole_of w add_ovf a b = checked w ◌+ℤ◌ a b
whole_of w mul_ovf a b = checked w ◌*ℤ◌ a b
whole_of w sub_ovf a b = checked w ◌-ℤ◌ a b

-- the low 5 or 6 bits of the amount count; shr keeps the sign
unfoldable pub shifted : Width → Shift → ℕ → ℕ → ℕ
shifted w shl a n = a * 2 ^ (n % bits w) % 2 ^ bits w
shifted w shr a n = of_z w (shr_z (to_z w a) (2 ^ (n % bits w)))
shifted w shr_un a n = a / 2 ^ (n % bits w)

-- ---- F: an IEEE 754 double in 64 bits, rounded once per operation

unfoldable pub double : ℕ → Float
double a = Ieee.of_bits binary64 a

-- a NaN is always stored as 7FF8000000000000, which is what `to_bits` writes
unfoldable pub stored : Float → ℕ
stored x = Ieee.to_bits binary64 x

unfoldable pub real : Number → ℕ → ℕ → ℕ
real add a b = stored (Ieee.add binary64 (double a) (double b))
real sub a b = stored (Ieee.sub binary64 (double a) (double b))
real mul a b = stored (Ieee.mul binary64 (double a) (double b))
real div a b = stored (Ieee.div binary64 (double a) (double b))

-- ---- Comparisons

-- order comparisons of integers with .un are unsigned
unfoldable pub relates : Width → Relation → ℕ → ℕ → Bool
relates w eq a b = eqb a b
relates w ne a b = not (eqb a b)
relates w lt a b = lt_z (to_z w a) (to_z w b)
relates w le a b = le_z (to_z w a) (to_z w b)
relates w gt a b = lt_z (to_z w b) (to_z w a)
relates w ge a b = le_z (to_z w b) (to_z w a)
relates w lt_un a b = ltb a b
relates w le_un a b = leb a b
relates w gt_un a b = ltb b a
relates w ge_un a b = leb b a

-- with a NaN, `ne` and the .un forms say yes, all others no
unfoldable pub relates_f : Relation → Float → Float → Bool
relates_f eq x y = Ieee.eq x y
relates_f ne x y = not (Ieee.eq x y)
relates_f lt x y = Ieee.lt x y
relates_f le x y = Ieee.le x y
relates_f gt x y = Ieee.lt y x
relates_f ge x y = Ieee.le y x
relates_f lt_un x y = not (Ieee.le y x)
relates_f le_un x y = not (Ieee.lt y x)
relates_f gt_un x y = not (Ieee.le x y)
relates_f ge_un x y = not (Ieee.lt x y)

-- two references for ceq, beq, bne.un only
unfoldable pub relates_ref : Relation → Option (ℕ → ℕ → Bool)
relates_ref eq = some (λ a b. eqb a b)
relates_ref ne = some (λ a b. not (eqb a b))
relates_ref lt = none
relates_ref le = none
relates_ref gt = none
relates_ref ge = none
relates_ref lt_un = none
relates_ref le_un = none
relates_ref gt_un = none
relates_ref ge_un = none

unfoldable pub relation_of : Relation → Kind → Option (ℕ → ℕ → Bool)
relation_of r k32 = some (relates w32 r)
relation_of r k64 = some (relates w64 r)
relation_of r k_f = some (λ a b. relates_f r (double a) (double b))
relation_of r reference = relates_ref r

-- a comparison of two of one kind
unfoldable pub comparison : Relation → Kind → Kind → Option (ℕ → ℕ → Bool)
comparison r a b = only_if (same a b) (relation_of r a)

unfoldable pub flag : Bool → ℕ
flag true = 1
flag false = 0

-- ---- Two operands

unfoldable pub meaning : Ty → (ℕ → ℕ → Answer ℕ ℕ) → Option Meaning
meaning t f = some (record { gives = t; bits_of = f })

-- add, sub, mul, div on two of one numeric type
unfoldable pub number_of : Number → Kind → Option Meaning
number_of o k32 = meaning int32 (integer w32 o)
number_of o k64 = meaning int64 (integer w64 o)
number_of o k_f = meaning F (λ a b. ok (real o a b))
number_of o reference = none

-- rem, div.un, rem.un, and, or, xor, the .ovf forms on two int32 or two int64; shifts of int32 or int64
unfoldable pub integers_of : (Width → ℕ → ℕ → Answer ℕ ℕ) → Kind → Option Meaning
integers_of f k32 = meaning int32 (f w32)
integers_of f k64 = meaning int64 (f w64)
integers_of f k_f = none
integers_of f reference = none

unfoldable pub binary_of : Binary → Kind → Kind → Option Meaning
binary_of (number o) a b = only_if (same a b) (number_of o a)
binary_of (whole o) a b = only_if (same a b) (integers_of (λ w. whole_of w o) a)
binary_of (shift o) a b = only_if (same b k32) (integers_of (λ w x n. ok (shifted w o x n)) a)
binary_of (compare r) a b = map_option (λ f. record { gives = int32; bits_of = λ x y. ok (flag (f x y)) }) (comparison r a b)

-- ---- One operand

-- what an operator of one operand gives: a type and its bits
pub record Conversion : Type 0 where
  pub gives : Ty
  pub bits_of : ℕ → ℕ

unfoldable pub conversion : Ty → (ℕ → ℕ) → Option Conversion
conversion t f = some (record { gives = t; bits_of = f })

-- neg takes any one number and wraps; on F it flips the sign
unfoldable pub neg_of : Kind → Option Conversion
neg_of k32 = conversion int32 (λ a. wrap w32 (neg_ℤ (to_z w32 a)))
neg_of k64 = conversion int64 (λ a. wrap w64 (neg_ℤ (to_z w64 a)))
neg_of k_f = conversion F (λ a. stored (Ieee.neg (double a)))
neg_of reference = none

-- `not` an int32 or int64
unfoldable pub not_of : Kind → Option Conversion
not_of k32 = conversion int32 (λ a. 2 ^ bits w32 - suc a)
not_of k64 = conversion int64 (λ a. 2 ^ bits w64 - suc a)
not_of k_f = none
not_of reference = none

-- conv.i4 keeps the low 32 bits, signed
unfoldable pub conv4_of : Kind → Option Conversion
conv4_of k32 = conversion int32 (λ a. a)
conv4_of k64 = conversion int32 (λ a. a % 2 ^ bits w32)
conv4_of k_f = none
conv4_of reference = none

-- conv.i8 and conv.r8 keep the value
unfoldable pub conv8_of : Kind → Option Conversion
conv8_of k32 = conversion int64 (λ a. of_z w64 (to_z w32 a))
conv8_of k64 = conversion int64 (λ a. a)
conv8_of k_f = none
conv8_of reference = none

unfoldable pub conv_fOf : Kind → Option Conversion
conv_fOf k32 = conversion F (λ a. stored (Ieee.of_int binary64 (to_z w32 a)))
conv_fOf k64 = none
conv_fOf k_f = conversion F (λ a. a)
conv_fOf reference = none

unfoldable pub unary_of : Unary → Kind → Option Conversion
unary_of neg k = neg_of k
unary_of not_bits k = not_of k
unary_of conv_i4 k = conv4_of k
unary_of conv_i8 k = conv8_of k
unary_of conv_r8 k = conv_fOf k

-- brtrue and brfalse take int32, int64 or a reference
unfoldable pub testable : Kind → Bool
testable k = not (same k k_f)
