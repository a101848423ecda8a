-- The numbers that an operator ends the run with are neither 0 nor 2.
use Prim.Native.Nat.{ℕ}
use mathlib.Core.Path.{◌≡◌, refl}
use mathlib.Core.Bool.{Bool, true, false, not, ◌||◌}
use mathlib.Core.Option.{Option, none, some}
use lib.Dec.{eqb}
use mir.Syntax.{Width, w32, w64}
use Rattle.model.specs.Answer.{Answer, bad, ok, ◌>>=◌, guard, need, only_if, map_option}
use Rattle.model.specs.Tables.{int32}
use Rattle.model.specs.Code.{Number, add, sub, mul, div, Whole, rem, div_un, rem_un, and, or, xor, add_ovf, mul_ovf, sub_ovf, Binary, number, whole, shift, compare, Unary}
use Rattle.model.specs.Operators.{Kind, k32, k64, k_f, reference, Meaning, meaning, number_of, integers_of, binary_of, unary_of, comparison, flag, divided, checked, integer, whole_of, shifted}
use Rattle.state.specs.View.{kind_by, kind_of_type}
use Rattle.operators.specs.Gives.{binary_gives, unary_gives}

-- a number that ends the run
abbrev pub ends_run : ℕ → Bool
ends_run e = not (eqb e 0 || eqb e 2)

-- bits or the like, or such a number
pub data Numbered {A : Type 0} : Answer ℕ A → Type 0 where
  gives : {a : A} → Numbered (ok a)
  ends : {e : ℕ} → ends_run e ≡ true → Numbered (bad e)

ending : {A : Type 0} {e : ℕ} → Numbered {A = A} (bad e) → ends_run e ≡ true
ending (ends h) = h

pub numbered : {A : Type 0} {e : ℕ} {x : Answer ℕ A} → bad e ≡ x → Numbered x → ends_run e ≡ true
numbered {A} {e} q n = ending {A = A} {e = e} (rw q n)

guarded : {A : Type 0} (t : Bool) (e : ℕ) {x : Answer ℕ A} → ends_run e ≡ true → Numbered x → Numbered (guard t e >>= λ _. x)
unfolding guard ◌>>=◌
guarded true e h n = n
guarded false e h n = ends h

whole_numbered : (w : Width) (o : Whole) (a b : ℕ) → Numbered (whole_of w o a b)
unfolding whole_of divided checked
whole_numbered w rem a b = guarded _ 31 refl (guarded _ 32 refl gives)
whole_numbered w div_un a b = guarded _ 31 refl gives
whole_numbered w rem_un a b = guarded _ 31 refl gives
whole_numbered w and a b = gives
whole_numbered w or a b = gives
whole_numbered w xor a b = gives
whole_numbered w add_ovf a b = guarded _ 33 refl gives
whole_numbered w mul_ovf a b = guarded _ 33 refl gives
whole_numbered w sub_ovf a b = guarded _ 33 refl gives

integer_numbered : (w : Width) (o : Number) (a b : ℕ) → Numbered (integer w o a b)
unfolding integer divided
integer_numbered w add a b = gives
integer_numbered w sub a b = gives
integer_numbered w mul a b = gives
integer_numbered w div a b = guarded _ 31 refl (guarded _ 32 refl gives)

-- an operator that gives bits or a number
unfoldable Means : Option Meaning → Type 0
Means none = Unit
Means (some g) = (a b : ℕ) → Numbered (g.bits_of a b)

only : (t : Bool) (o : Option Meaning) → Means o → Means (only_if t o)
unfolding Means only_if
only true o m = m
only false o m = tt

integers : (f : Width → ℕ → ℕ → Answer ℕ ℕ) → ((w : Width) (a b : ℕ) → Numbered (f w a b)) → (k : Kind) → Means (integers_of f k)
unfolding Means integers_of meaning
integers f n k32 = n w32
integers f n k64 = n w64
integers f n k_f = tt
integers f n reference = tt

numbers : (o : Number) (k : Kind) → Means (number_of o k)
unfolding Means number_of meaning
numbers o k32 = integer_numbered w32 o
numbers o k64 = integer_numbered w64 o
numbers o k_f = λ a b. gives
numbers o reference = tt

flags : (o : Option (ℕ → ℕ → Bool)) → Means (map_option (λ f. record { gives = int32; bits_of = λ x y. ok (flag (f x y)) }) o)
unfolding Means map_option
flags none = tt
flags (some f) = λ a b. gives

means : (o : Binary) (k l : Kind) → Means (binary_of o k l)
unfolding binary_of
means (number o) k l = only _ _ (numbers o k)
means (whole o) k l = only _ _ (integers _ (λ w. whole_numbered w o) k)
means (shift o) k l = only _ _ (integers (λ w x n. ok (shifted w o x n)) (λ w a b. gives) k)
means (compare r) k l = flags (comparison r k l)

bound : {A B : Type 0} (x : Answer ℕ A) (f : A → B) → Numbered x → Numbered (x >>= λ a. ok (f a))
unfolding ◌>>=◌
bound (bad e) f n = ends (ending n)
bound (ok a) f n = gives

needed : (o : Option Meaning) (a b : ℕ) → Means o → Numbered {A = ℕ × ℕ} (need o 45 >>= λ g. g.bits_of a b >>= λ n. ok (kind_of_type g.gives, n))
unfolding Means need ◌>>=◌
needed none a b m = ends refl
needed (some g) a b m = bound (g.bits_of a b) (λ n. (kind_of_type g.gives, n)) (m a b)

pub binary_numbered : (o : Binary) (k l a b : ℕ) → Numbered (binary_gives o k l a b)
unfolding binary_gives
binary_numbered o k l a b = needed _ _ _ (means o (kind_by k) (kind_by l))

missing : {A B : Type 0} (o : Option A) (f : A → B) → Numbered (need o 45 >>= λ g. ok (f g))
unfolding need ◌>>=◌
missing none f = ends refl
missing (some a) f = gives

pub unary_numbered : (o : Unary) (k a : ℕ) → Numbered (unary_gives o k a)
unfolding unary_gives
unary_numbered o k a = missing (unary_of o (kind_by k)) _
