-- An operator that gives an int32 gives 32 bits.
use Prim.Native.Nat.{ℕ, zero, suc, ◌-◌, ◌*◌, ◌/◌, ◌%◌, ◌^◌, ◌≤◌, ◌<◌}
use mathlib.Core.Path.{◌≡◌, refl, subst}
use mathlib.Core.Bool.{Bool, true, false, not}
use mathlib.Core.Option.{Option, none, some}
use native.Mathlib.Omega.{arith}
use native.Mathlib.Nat.{mod-lt, mod-le, div-le_self, mod-eq_of_lt, lt_of_le_of_lt}
use lib.Dec.{ltb, eqb}
use lib.Bits.{bit_and, bit_or, bit_xor, and_lt, or_lt, xor_lt}
use lib.IntN.{ℤ, pos, negsuc, neg_ℤ, ◌+ℤ◌, ◌-ℤ◌, ◌*ℤ◌}
use lib.Signed.{mag, quot_z, rem_z, shr_z, mag_rem, mag_shr}
use mir.Syntax.{Width, w32}
use mir.Val.{to_z, of_z, sel}
use borrow.Author.Tests.{ltb-true, ltb-false}
use Rattle.model.specs.Answer.{Answer, ok, ◌>>=◌, guard, pick, only_if, map_option}
use Rattle.model.specs.Tables.{Ty, int32, int64, F, null, class}
use Rattle.model.specs.Code.{Number, add, sub, mul, div, Whole, rem, div_un, rem_un, and, or, xor, add_ovf, mul_ovf, sub_ovf, Shift, shl, shr, shr_un, Binary, number, whole, shift, compare, Unary, neg, not_bits, conv_i4, conv_i8, conv_r8}
use Rattle.model.specs.Operators.{Kind, k32, k64, k_f, reference, kind, kind_number, same, Meaning, Conversion, wrap, holds, divided, checked, integer, whole_of, shifted, comparison, flag, meaning, number_of, integers_of, binary_of, conversion, neg_of, not_of, conv4_of, conv8_of, conv_fOf, unary_of}
use Rattle.model.specs.State.{value}
use Rattle.state.specs.View.{kind_by, kind_of_type, value_by, shown}

-- bits that are a number of a type as they stand
unfoldable pub Suits : Ty → ℕ → Type 0
Suits int32 n = n < 4294967296
Suits int64 n = Unit
Suits F n = Unit
Suits null n = ⊥
Suits (class c) n = ⊥

pub suits_value : (t : Ty) (n : ℕ) → Suits t n → value_by (kind_of_type t) n ≡ value t n
unfolding Suits value_by kind_of_type kind_number kind value
suits_value int32 n h = rw (mod-eq_of_lt h)
suits_value int64 n h = refl
suits_value F n h = refl
suits_value null n h = absurd h
suits_value (class c) n h = absurd h

-- bits that an operator sees of a kind
unfoldable pub Sees : Kind → ℕ → Type 0
Sees k32 n = n < 4294967296
Sees k64 n = Unit
Sees k_f n = Unit
Sees reference n = Unit

pub sees_shown : (k b : ℕ) → Sees (kind_by k) (shown k b)
unfolding Sees kind_by shown pick
sees_shown zero b = tt
sees_shown (suc zero) b = mod-lt b (omega arith)
sees_shown (suc (suc zero)) b = tt
sees_shown (suc (suc (suc k))) b = tt

-- ---- Whole numbers

guard_inv : {A : Type 0} (b : Bool) (n : ℕ) (f : Unit {0} → Answer ℕ A) (x : A) → (guard b n >>= f) ≡ ok x → (b ≡ true) × (f tt ≡ ok x)
unfolding guard ◌>>=◌
guard_inv true n f x e = (refl, e)
guard_inv false n f x e = let z : ◌≡◌ {A = ℕ} 0 1 = cc in absurd (omega arith)

wrap_small : (z : ℤ) → wrap w32 z < 4294967296
unfolding wrap
wrap_small (pos n) = mod-lt n (omega arith)
wrap_small (negsuc n) = omega arith

of_z_small : (z : ℤ) → mag z < 2147483648 → of_z w32 z < 4294967296
of_z_small (pos n) h = omega arith
of_z_small (negsuc n) h = omega arith

to_z_small : (a : ℕ) → a < 4294967296 → mag (to_z w32 a) < 2147483648
to_z_small a h = go (ltb a 2147483648) refl where
  go : (b : Bool) → ltb a 2147483648 ≡ b → mag (sel b (pos a) (negsuc (4294967296 - suc a))) < 2147483648
  go true e = ltb-true a 2147483648 e
  go false e = let q = ltb-false a 2147483648 e in omega arith

holds_small : (z : ℤ) → holds w32 z ≡ true → of_z w32 z < 4294967296
unfolding holds
holds_small z e = of_z_small z (ltb-true (mag z) 2147483648 e)

checked_small : (f : ℤ → ℤ → ℤ) (a b n : ℕ) → checked w32 f a b ≡ ok n → n < 4294967296
unfolding checked
checked_small f a b n e =
    let (h, q) = guard_inv (holds w32 (f (to_z w32 a) (to_z w32 b))) 33 (λ _. ok (of_z w32 (f (to_z w32 a) (to_z w32 b)))) n e in
    let w : of_z w32 (f (to_z w32 a) (to_z w32 b)) ≡ n = cc in
    rw w at (holds_small (f (to_z w32 a) (to_z w32 b)) h)

divided_inv : (f : ℤ → ℤ → ℤ) (a b n : ℕ) → divided w32 f a b ≡ ok n → (holds w32 (quot_z (to_z w32 a) (to_z w32 b)) ≡ true) × (of_z w32 (f (to_z w32 a) (to_z w32 b)) ≡ n)
unfolding divided
divided_inv f a b n e =
    let (h, q) = guard_inv (not (eqb b 0)) 31 (λ _. guard (holds w32 (quot_z (to_z w32 a) (to_z w32 b))) 32 >>= λ _. ok (of_z w32 (f (to_z w32 a) (to_z w32 b)))) n e in
    let (k, r) = guard_inv (holds w32 (quot_z (to_z w32 a) (to_z w32 b))) 32 (λ _. ok (of_z w32 (f (to_z w32 a) (to_z w32 b)))) n q in
    (k, let w : of_z w32 (f (to_z w32 a) (to_z w32 b)) ≡ n = cc in w)

integer_small : (o : Number) (a b n : ℕ) → integer w32 o a b ≡ ok n → n < 4294967296
unfolding integer
integer_small add a b n e = let w : wrap w32 (to_z w32 a +ℤ to_z w32 b) ≡ n = cc in rw w at (wrap_small (to_z w32 a +ℤ to_z w32 b))
integer_small sub a b n e = let w : wrap w32 (to_z w32 a -ℤ to_z w32 b) ≡ n = cc in rw w at (wrap_small (to_z w32 a -ℤ to_z w32 b))
integer_small mul a b n e = let w : wrap w32 (to_z w32 a *ℤ to_z w32 b) ≡ n = cc in rw w at (wrap_small (to_z w32 a *ℤ to_z w32 b))
integer_small div a b n e = let (h, w) = divided_inv quot_z a b n e in rw w at (holds_small (quot_z (to_z w32 a) (to_z w32 b)) h)

whole_small : (o : Whole) (a b n : ℕ) → a < 4294967296 → b < 4294967296 → whole_of w32 o a b ≡ ok n → n < 4294967296
unfolding whole_of
whole_small rem a b n h k e =
    let (_, w) = divided_inv rem_z a b n e in
    let s = to_z_small a h in
    let r : mag (rem_z (to_z w32 a) (to_z w32 b)) ≤ mag (to_z w32 a) = mag_rem (to_z w32 a) (to_z w32 b) in
    rw w at (of_z_small (rem_z (to_z w32 a) (to_z w32 b)) (lt_of_le_of_lt r s))
whole_small div_un a b n h k e =
    let (_, q) = guard_inv (not (eqb b 0)) 31 (λ _. ok (a / b)) n e in
    let w : a / b ≡ n = cc in
    let d : a / b ≤ a = div-le_self a b in
    omega arith
whole_small rem_un a b n h k e =
    let (_, q) = guard_inv (not (eqb b 0)) 31 (λ _. ok (a % b)) n e in
    let w : a % b ≡ n = cc in
    let d : a % b ≤ a = mod-le a b in
    omega arith
whole_small and a b n h k e = let w : bit_and a b ≡ n = cc in rw w at (and_lt 32 a b h k)
whole_small or a b n h k e = let w : bit_or a b ≡ n = cc in rw w at (or_lt 32 a b h k)
whole_small xor a b n h k e = let w : bit_xor a b ≡ n = cc in rw w at (xor_lt 32 a b h k)
whole_small add_ovf a b n h k e = checked_small ◌+ℤ◌ a b n e
whole_small mul_ovf a b n h k e = checked_small ◌*ℤ◌ a b n e
whole_small sub_ovf a b n h k e = checked_small ◌-ℤ◌ a b n e

shifted_small : (o : Shift) (a m : ℕ) → a < 4294967296 → shifted w32 o a m < 4294967296
unfolding shifted
shifted_small shl a m h = mod-lt (a * 2 ^ (m % 32)) (omega arith)
shifted_small shr a m h = of_z_small (shr_z (to_z w32 a) (2 ^ (m % 32))) (lt_of_le_of_lt (mag_shr (to_z w32 a) (2 ^ (m % 32))) (to_z_small a h))
shifted_small shr_un a m h = lt_of_le_of_lt (div-le_self a (2 ^ (m % 32))) h

-- ---- Two operands

-- what an operator gives suits its type
unfoldable GivesSuited : Option Meaning → ℕ → ℕ → Type 0
GivesSuited none a b = Unit
GivesSuited (some g) a b = (n : ℕ) → g.bits_of a b ≡ ok n → Suits g.gives n

only_suited : (t : Bool) (o : Option Meaning) (a b : ℕ) → GivesSuited o a b → GivesSuited (only_if t o) a b
unfolding only_if GivesSuited
only_suited true o a b h = h
only_suited false o a b h = tt

number_suited : (o : Number) (k : Kind) (a b : ℕ) → GivesSuited (number_of o k) a b
unfolding GivesSuited number_of meaning Suits
number_suited o k32 a b = λ n e. integer_small o a b n e
number_suited o k64 a b = λ n e. tt
number_suited o k_f a b = λ n e. tt
number_suited o reference a b = tt

integers_suited : (f : Width → ℕ → ℕ → Answer ℕ ℕ) (k : Kind) (a b : ℕ) → ((n : ℕ) → k ≡ k32 → f w32 a b ≡ ok n → n < 4294967296) → GivesSuited (integers_of f k) a b
unfolding GivesSuited integers_of meaning Suits
integers_suited f k32 a b h = λ n e. h n refl e
integers_suited f k64 a b h = λ n e. tt
integers_suited f k_f a b h = tt
integers_suited f reference a b h = tt

flag_small : (b : Bool) → flag b < 4294967296
unfolding flag
flag_small true = omega arith
flag_small false = omega arith

compare_suited : (o : Option (ℕ → ℕ → Bool)) (a b : ℕ) → GivesSuited (map_option (λ f. record { gives = int32; bits_of = λ x y. ok (flag (f x y)) }) o) a b
unfolding GivesSuited map_option Suits
compare_suited none a b = tt
compare_suited (some f) a b = λ n e. let w : flag (f a b) ≡ n = cc in rw w at (flag_small (f a b))

same_32 : (k l : Kind) (b : ℕ) → same k l ≡ true → k ≡ k32 → Sees l b → b < 4294967296
unfolding same kind_number Sees
same_32 k k32 b e q s = s
same_32 k k64 b e q s = let z : eqb (kind_number k) 2 ≡ false = rw q refl in let y : ◌≡◌ {A = ℕ} 0 1 = cc in absurd (omega arith)
same_32 k k_f b e q s = let y : ◌≡◌ {A = ℕ} 0 1 = cc in absurd (omega arith)
same_32 k reference b e q s = let y : ◌≡◌ {A = ℕ} 0 1 = cc in absurd (omega arith)

sees_32 : (k : Kind) (a : ℕ) → k ≡ k32 → Sees k a → a < 4294967296
unfolding Sees
sees_32 k a q s = rw q at s

test_suited : (t : Bool) (o : Option Meaning) (a b : ℕ) → (t ≡ true → GivesSuited o a b) → GivesSuited (only_if t o) a b
unfolding only_if GivesSuited
test_suited true o a b h = h refl
test_suited false o a b h = tt

binary_gives : (o : Binary) (k l : Kind) (a b : ℕ) → Sees k a → Sees l b → GivesSuited (binary_of o k l) a b
unfolding binary_of
binary_gives (number o) k l a b p q = only_suited (same k l) (number_of o k) a b (number_suited o k a b)
binary_gives (whole o) k l a b p q =
    test_suited (same k l) (integers_of (λ w. whole_of w o) k) a b (λ t.
    integers_suited (λ w. whole_of w o) k a b (λ n e r. whole_small o a b n (sees_32 k a e p) (same_32 k l b t e q) r))
binary_gives (shift o) k l a b p q =
    only_suited (same l k32) (integers_of (λ w x n. ok (shifted w o x n)) k) a b
    (integers_suited (λ w x n. ok (shifted w o x n)) k a b (λ n e r. let w : shifted w32 o a b ≡ n = cc in rw w at (shifted_small o a b (sees_32 k a e p))))
binary_gives (compare r) k l a b p q = compare_suited (comparison r k l) a b

pub binary_suits : (o : Binary) (k l : Kind) (a b n : ℕ) (g : Meaning) → Sees k a → Sees l b → binary_of o k l ≡ some g → g.bits_of a b ≡ ok n → Suits g.gives n
unfolding GivesSuited
binary_suits o k l a b n g p q e r = subst (λ (x : Option Meaning). GivesSuited x a b) e (binary_gives o k l a b p q) n r

-- ---- One operand

unfoldable ConvertsSuited : Option Conversion → ℕ → Type 0
ConvertsSuited none a = Unit
ConvertsSuited (some g) a = Suits g.gives (g.bits_of a)

neg_suited : (k : Kind) (a : ℕ) → ConvertsSuited (neg_of k) a
unfolding ConvertsSuited neg_of conversion Suits
neg_suited k32 a = wrap_small (neg_ℤ (to_z w32 a))
neg_suited k64 a = tt
neg_suited k_f a = tt
neg_suited reference a = tt

not_suited : (k : Kind) (a : ℕ) → ConvertsSuited (not_of k) a
unfolding ConvertsSuited not_of conversion Suits
not_suited k32 a = omega arith
not_suited k64 a = tt
not_suited k_f a = tt
not_suited reference a = tt

conv4_suited : (k : Kind) (a : ℕ) → Sees k a → ConvertsSuited (conv4_of k) a
unfolding ConvertsSuited conv4_of conversion Suits Sees
conv4_suited k32 a s = s
conv4_suited k64 a s = mod-lt a (omega arith)
conv4_suited k_f a s = tt
conv4_suited reference a s = tt

conv8_suited : (k : Kind) (a : ℕ) → ConvertsSuited (conv8_of k) a
unfolding ConvertsSuited conv8_of conversion Suits
conv8_suited k32 a = tt
conv8_suited k64 a = tt
conv8_suited k_f a = tt
conv8_suited reference a = tt

conv_f_suited : (k : Kind) (a : ℕ) → ConvertsSuited (conv_fOf k) a
unfolding ConvertsSuited conv_fOf conversion Suits
conv_f_suited k32 a = tt
conv_f_suited k64 a = tt
conv_f_suited k_f a = tt
conv_f_suited reference a = tt

unary_gives : (o : Unary) (k : Kind) (a : ℕ) → Sees k a → ConvertsSuited (unary_of o k) a
unfolding unary_of
unary_gives neg k a s = neg_suited k a
unary_gives not_bits k a s = not_suited k a
unary_gives conv_i4 k a s = conv4_suited k a s
unary_gives conv_i8 k a s = conv8_suited k a
unary_gives conv_r8 k a s = conv_f_suited k a

pub unary_suits : (o : Unary) (k : Kind) (a : ℕ) (g : Conversion) → Sees k a → unary_of o k ≡ some g → Suits g.gives (g.bits_of a)
unfolding ConvertsSuited
unary_suits o k a g s e = subst (λ (x : Option Conversion). ConvertsSuited x a) e (unary_gives o k a s)
