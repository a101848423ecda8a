-- Numbers as text: a number's digits are those of what stands above the last one, and the last one.
use mathlib.Core.Path.{◌≡◌, refl, sym, ap, ◌∙◌}
use mathlib.Core.Bool.{Bool, true, false}
use mathlib.Core.List.{List, [], ◌∷◌, ◌++◌, append-nil}
use Prim.Native.Nat.{ℕ, zero, suc, ◌+◌, ◌-◌, ◌/◌, ◌%◌, ◌^◌, ◌≤◌, ◌<◌}
use native.Mathlib.Numerals.{add-one, sub-one}
use native.Mathlib.Omega.{arith}
use lib.Dec.{ltb}
use lib.ListN.{length, length-append}
use lib.Seq.{append_snoc}
use borrow.Author.Tests.{lt-ltb, le-ltb}
use Rattle.std.specs.Fmt as kit
use Rattle.std.proofs.lemmas.Fmt.{PrependsLastDigit, decimal_from_prepends, length-decimal-le}
use Rattle.model.specs.Answer.{pick}
use Rattle.model.specs.Turn.{digits, decimal, signed, hex_digit, hex}
use lib.IntN.{ℤ, pos, negsuc}
use mir.Syntax.{w64}
use mir.Val.{of_z, to_z}
use lib.Signed.{mag}
use Rattle.std.proofs.lemmas.Int.{to_z-of_z}

-- spelling before a text is spelling, and then the text: one digit more
before_more : (f : ℕ → List ℕ → List ℕ) → ((m : ℕ) (l : List ℕ) → f m l ≡ f m [] ++ l) → (m d : ℕ) (l : List ℕ) → f m (d ∷ l) ≡ f m (d ∷ []) ++ l
before_more f h m d l = h m (d ∷ l) ∙ sym (ap (λ (x : List ℕ). x ++ l) (h m (d ∷ [])) ∙ append_snoc (f m []) d l)

hex_before : (k n : ℕ) (l : List ℕ) → hex k n l ≡ hex k n [] ++ l
unfolding hex
hex_before zero n l = refl
hex_before (suc k) n l = before_more (hex k) (hex_before k) (n / 16) (hex_digit (n % 16)) l

-- ---- Hexadecimal

hex_more : (k n : ℕ) → hex (suc k) n [] ≡ hex k (n / 16) [] ++ (hex_digit (n % 16) ∷ [])
unfolding hex
hex_more k n = hex_before k (n / 16) (hex_digit (n % 16) ∷ [])

pub hex_none : (k n : ℕ) → k ≡ 0 → hex k n [] ≡ []
unfolding hex
hex_none k n e = rw e

pub hex_last : (k n : ℕ) → (k ≡ 0 → ⊥) → hex k n [] ≡ hex (k - 1) (n / 16) [] ++ (hex_digit (n % 16) ∷ [])
hex_last zero n f = absurd (f refl)
hex_last (suc k) n f = rw (sub-one (suc k)) (hex_more k n)

pub digit_low : (d : ℕ) → d < 10 → 48 + d ≡ hex_digit d
unfolding hex_digit pick
digit_low d h = simp (lt-ltb d 10 h)

pub digit_high : (d : ℕ) → 10 ≤ d → 55 + d ≡ hex_digit d
unfolding hex_digit pick
digit_high d h = simp (le-ltb d 10 h)

pub hex_length : (k n : ℕ) → length (hex k n []) ≡ k
unfolding hex
hex_length zero n = refl
hex_length (suc k) n = ap length (hex_more k n) ∙ length-append (hex k (n / 16) []) (hex_digit (n % 16) ∷ []) ∙ ap (λ (m : ℕ). m + 1) (hex_length k (n / 16)) ∙ add-one k

-- ---- Decimal

-- the model's digits before a text are the kit's
prepends : PrependsLastDigit digits
unfolding digits pick
prepends = record { one = λ k n l h. simp (lt-ltb n 10 h); more = λ k n l h. simp (le-ltb n 10 h) }

pub printed : (n : ℕ) → n < 2 ^ 64 → kit.decimal n ≡ decimal n
unfolding decimal
printed n h = sym (decimal_from_prepends digits prepends 20 n [] h (length-decimal-le 20 n (omega arith) (omega arith) h) ∙ append-nil (kit.decimal n))

pick_length : (b : Bool) (m : ℕ) (x y : List ℕ) → length x ≤ m → length y ≤ m → length (pick b x y) ≤ m
unfolding pick
pick_length true m x y p q = p
pick_length false m x y p q = q

digits_length : (k n : ℕ) (l : List ℕ) → length (digits k n l) ≤ k + length l
unfolding digits
digits_length zero n l = omega arith
digits_length (suc k) n l =
    pick_length (ltb n 10) (suc k + length l) ((48 + n) ∷ l) (digits k (n / 10) ((48 + n % 10) ∷ l)) (omega arith)
    (omega (arith, digits_length k (n / 10) ((48 + n % 10) ∷ l)))

pub decimal_length : (n : ℕ) → length (decimal n) ≤ 20
unfolding decimal
decimal_length n = digits_length 20 n []

-- ---- Signs

-- of an int64 as the code holds it
pub printed_signed : (z : ℤ) → mag z < 2 ^ 63 → kit.signed_decimal (to_z w64 (of_z w64 z)) ≡ signed z
unfolding signed
printed_signed (pos m) h = ap kit.signed_decimal (to_z-of_z w64 (pos m) (record { sfits = h })) ∙ printed m (omega arith)
printed_signed (negsuc m) h = ap kit.signed_decimal (to_z-of_z w64 (negsuc m) (record { sfits = h })) ∙ ap (λ (l : List ℕ). 45 ∷ l) (printed (suc m) (omega arith))

pub signed_length : (z : ℤ) → length (signed z) ≤ 21
unfolding signed
signed_length (pos m) = omega (arith, decimal_length m)
signed_length (negsuc m) = omega (arith, decimal_length (suc m))
