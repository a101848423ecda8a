-- Little-endian numbers, over the count of their bytes.
use mathlib.Core.Path.{◌≡◌, refl, sym, ap, ◌∙◌}
use mathlib.Core.List.{List, [], ◌∷◌}
use Prim.Native.Nat.{ℕ, zero, suc, ◌+◌, ◌*◌, ◌%◌, ◌^◌, ◌≤◌, ◌<◌, min}
use native.Mathlib.Nat.{pow-succ', pow-le-pow_right, mul-add, mul_left_comm, mul-le-mul_right, one-le-pow, mod-eq_of_lt}
use native.Mathlib.Numerals.{add-one}
use native.Mathlib.Omega.{arith}
use lib.ListN.{length, get_or}
use Rattle.model.specs.Loading.{little}

pub little_nil : (n : ℕ) → little n [] ≡ 0
unfolding little
little_nil zero = refl
little_nil (suc n) = refl

-- bytes that are missing count 0
pub missing : (n : ℕ) (l : List ℕ) → little (min n (length l)) l ≡ little n l
unfolding little
missing n [] = little_nil (min n 0) ∙ sym (little_nil n)
missing zero (b ∷ l) = let e : min zero (suc (length l)) ≡ zero = omega arith in rw e refl
missing (suc n) (b ∷ l) =
    let e : min (suc n) (suc (length l)) ≡ suc (min n (length l)) = omega arith in
    rw e (ap (λ (k : ℕ). b + 256 * k) (missing n l))

pub one : (l : List ℕ) → little 1 l ≡ get_or l 0 0
unfolding little
one [] = refl
one (b ∷ l) = omega arith

-- one byte more
pub after : (i : ℕ) (l : List ℕ) → little (suc i) l ≡ little i l + get_or l i 0 * 256 ^ i
unfolding little
after i [] = little_nil (suc i) ∙ sym (ap (λ (n : ℕ). n + 0 * 256 ^ i) (little_nil i) ∙ omega arith)
after zero (b ∷ l) = omega arith
after (suc i) (b ∷ l) =
    let next = after i l in
    let power = pow-succ' 256 i in
    rw (next, power, mul-add, mul_left_comm) (omega arith)

power : (i : ℕ) → i < 8 → 2 ^ (8 * i) ≡ 256 ^ i
power zero h = refl
power (suc zero) h = refl
power (suc (suc zero)) h = refl
power (suc (suc (suc zero))) h = refl
power (suc (suc (suc (suc zero)))) h = refl
power (suc (suc (suc (suc (suc zero))))) h = refl
power (suc (suc (suc (suc (suc (suc zero)))))) h = refl
power (suc (suc (suc (suc (suc (suc (suc zero))))))) h = refl
power (suc (suc (suc (suc (suc (suc (suc (suc i)))))))) h = absurd (omega arith)

-- a byte moved up to its place
module _ (i b : ℕ) (within : i < 8) (byte : b < 256) where
  weight : b * 256 ^ i + 256 ^ i ≤ 256 ^ suc i
  weight = let most : b * 256 ^ i ≤ 255 * 256 ^ i = mul-le-mul_right (256 ^ i) (omega arith) in omega (arith, pow-succ' 256 i)

  pub moved : b * 2 ^ (8 * i) % 2 ^ 64 ≡ b * 256 ^ i
  moved =
      let most : 256 ^ suc i ≤ 256 ^ 8 = pow-le-pow_right (omega arith) within in
      let some : 0 < 256 ^ i = one-le-pow i 256 (omega arith) in
      ap (λ (k : ℕ). b * k % 2 ^ 64) (power i within) ∙ mod-eq_of_lt (omega (arith, weight))

  pub placed : {n : ℕ} → n < 256 ^ i → n + b * 2 ^ (8 * i) % 2 ^ 64 < 256 ^ (i + 1)
  placed l = rw (moved, add-one i) (omega (arith, weight))
