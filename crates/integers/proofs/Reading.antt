-- Cells read as signed numbers, and signed numbers written as bits, at the two widths.
use Rattle.std.proofs.Common.{◌≡◌, ℕ, suc, ◌-◌, ◌%◌, ◌^◌, ◌≤◌, Bool, true, ℤ, pos, negsuc, ap, ◌∙◌, sym, arith, to_z-of_z, w32, w64, Fits, SFits, to_z, of_z, ltb-true, le-ltb}
use native.Mathlib.Nat.{mod-mod}
use mir.Syntax.{Width}
use mir.Val.{bits, hbits, sel}
use mir.Facts.{of_z-to_z, sfits_to_z, sfits_widen}
use mir.ValLaws.{Fits-wrap}
use Rattle.model.specs.Operators.{holds}
use Rattle.integers.specs.Cells.{OfCell, low}
use Rattle.integers.specs.Cells.OfCell.{narrow, wide}

-- cutting to 64 bits first changes nothing
pub cut : {w : Width} → OfCell w → (n : ℕ) → low w (n % 2 ^ 64) ≡ low w n
cut narrow n = omega arith
cut wide n = mod-mod n (2 ^ 64)

-- a number of the width has a place among those of 64 bits
pub widen : {w : Width} → OfCell w → {z : ℤ} → SFits w z → SFits w64 z
widen narrow f = sfits_widen tt f
widen wide f = f

pub held : {w : Width} {z : ℤ} → holds w z ≡ true → SFits w z
unfolding holds
held h = record { sfits = ltb-true _ _ h }

-- what the machine reads back of a cell's number
pub read : {w : Width} → OfCell w → (a : ℕ) {z : ℤ} → z ≡ to_z w (low w a) → to_z w64 (of_z w64 z) ≡ to_z w (low w a)
read {w} t a e = ap (λ (y : ℤ). to_z w64 (of_z w64 y)) e ∙ to_z-of_z (widen t (sfits_to_z (Fits-wrap w a)))

-- the width's bits of a number that it holds are the low ones of its 64
pub low_of_z : {w : Width} → OfCell w → (z : ℤ) → SFits w z → low w (of_z w64 z) ≡ of_z w z
low_of_z narrow (pos n) f = let l = f.sfits in omega arith
low_of_z narrow (negsuc n) f = let l = f.sfits in omega arith
low_of_z wide (pos n) f = let l = f.sfits in omega arith
low_of_z wide (negsuc n) f = let l = f.sfits in omega arith

-- what a number that the width holds is written as
pub write : {w : Width} → OfCell w → {z : ℤ} → SFits w z → low w (of_z w64 (to_z w64 (of_z w64 z))) ≡ of_z w z
write {w} t {z} f = ap (λ (y : ℤ). low w (of_z w64 y)) (to_z-of_z (widen t f)) ∙ low_of_z t z f

-- an int64 whose number an int32 holds has that int32 in its low bits
pub narrow_bits : (a : ℕ) → Fits w64 a → holds w32 (to_z w64 a) ≡ true → of_z w32 (to_z w64 a) ≡ low w32 a
narrow_bits a f h = sym (low_of_z narrow (to_z w64 a) (held h)) ∙ ap (low w32) (of_z-to_z f)
