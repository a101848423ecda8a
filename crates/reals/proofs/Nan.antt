-- Which bits and which floats are NaNs, as the code tests it.
use mathlib.Core.Path.{◌≡◌, refl, sym, ◌∙◌, subst}
use mathlib.Core.Bool.{Bool, true, not}
use Prim.Native.Nat.{ℕ, ◌<◌, ◌≤◌, ◌%◌, ◌^◌}
use lib.Dec.{T}
use lib.Ieee as Ieee
use lib.Ieee.{Float, nan, inf, fin, binary64}
use lib.Ieee.Bits.{nan_bits_is, nan_bits_above, to_bits-of_bits}
use borrow.Author.Tests.{le-ltb, lt-ltb}

pub no_nan_bits : (a : ℕ) → a % 9223372036854775808 ≤ 9218868437227405312 → T (not (Ieee.nan_bits binary64 a))
no_nan_bits a l = subst (λ (b : Bool). T (not b)) (sym (nan_bits_above binary64 a ∙ le-ltb _ _ l)) tt

only : (x : Float) → Ieee.is_nan x ≡ true → x ≡ nan
unfolding Ieee.is_nan
only nan e = refl
only (inf s) e = absurd (subst T (sym e) tt)
only (fin s m z) e = absurd (subst T (sym e) tt)

pub nan_bits : (a : ℕ) → 9218868437227405312 < a % 9223372036854775808 → Ieee.of_bits binary64 a ≡ nan
nan_bits a l = only (Ieee.of_bits binary64 a) (sym (nan_bits_is binary64 a) ∙ nan_bits_above binary64 a ∙ lt-ltb _ _ l)

-- the bits of what is no NaN stay
pub kept : (a : ℕ) → a < 2 ^ 64 → a % 9223372036854775808 ≤ 9218868437227405312 → a ≡ Ieee.to_bits binary64 (Ieee.of_bits binary64 a)
kept a f l = sym (to_bits-of_bits binary64 a f (subst (λ (b : Bool). T (not b)) (nan_bits_is binary64 a) (no_nan_bits a l)))

-- the bits of every NaN are those of one
pub of_nan : (x : Float) → Ieee.is_nan x ≡ true → 9221120237041090560 ≡ Ieee.to_bits binary64 x
unfolding Ieee.to_bits
of_nan x e = rw (only x e)

-- and those of any other become the stored ones
pub one_nan : (a : ℕ) → 9218868437227405312 < a % 9223372036854775808 → 9221120237041090560 ≡ Ieee.to_bits binary64 (Ieee.of_bits binary64 a)
one_nan a l = of_nan (Ieee.of_bits binary64 a) (sym (nan_bits_is binary64 a) ∙ nan_bits_above binary64 a ∙ lt-ltb _ _ l)
