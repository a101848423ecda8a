-- Shifts by the bits of the amount that count.
use Rattle.std.proofs.Common.{◌≡◌, ℕ, ◌*◌, ◌%◌, ◌^◌, ◌<◌, ℤ, pos, sym, ap, ◌∙◌, arith, w32, w64, SFits, to_z, of_z}
use Rattle.std.proofs.lemmas.Nat.{mul-mod}
use native.Mathlib.Nat.{mod-mod}
use lib.Signed.{shr_z, mag_shr}
use mir.Syntax.{Width}
use mir.Val.{bits}
use mir.Facts.{sfits_to_z}
use mir.ValLaws.{Fits-wrap, sfits_le}
use Rattle.model.specs.Code.{shl, shr}
use Rattle.model.specs.Operators.{shifted}
use Rattle.integers.specs.Cells.{OfCell, low}
use Rattle.integers.specs.Cells.OfCell.{narrow, wide}
use Rattle.integers.proofs.Reading.{cut, read, write}

few : {w : Width} → OfCell w → (n : ℕ) → low w32 n % bits w < 64
few narrow n = omega arith
few wide n = omega arith

module _ {w : Width} (t : OfCell w) (n k : ℕ) (amount : k ≡ low w32 n % bits w) where
  pub below : k < 64
  below = rw amount (few t n)

  pub signed_below : SFits w64 (pos k)
  signed_below = record { sfits = small k below }
    where
      small : (k : ℕ) → k < 64 → k < 2 ^ 63
      small k l = omega arith

  pub shl_law : (a r : ℕ) → r ≡ low w (a * 2 ^ k % 2 ^ 64) → r ≡ shifted w shl (low w a) (low w32 n)
  unfolding shifted
  shl_law a r e =
      e ∙ cut t (a * 2 ^ k) ∙ mul-mod a (2 ^ k) (2 ^ bits w) ∙ sym (mul-mod (low w a) (2 ^ k) (2 ^ bits w) ∙ ap (λ (m : ℕ). m * (2 ^ k % 2 ^ bits w) % 2 ^ bits w) (mod-mod a (2 ^ bits w)))
      ∙ ap (λ (j : ℕ). low w a * 2 ^ j % 2 ^ bits w) amount

  pub shr_law : (a r : ℕ) (z : ℤ) → z ≡ to_z w (low w a)
      → r ≡ low w (of_z w64 (to_z w64 (of_z w64 (shr_z (to_z w64 (of_z w64 z)) (2 ^ k)))))
      → r ≡ shifted w shr (low w a) (low w32 n)
  unfolding shifted
  shr_law a r z e q =
      q ∙ ap (λ (y : ℤ). low w (of_z w64 (to_z w64 (of_z w64 (shr_z y (2 ^ k)))))) (read t a e)
      ∙ write t {z = shr_z (to_z w (low w a)) (2 ^ k)} (sfits_le (mag_shr (to_z w (low w a)) (2 ^ k)) (sfits_to_z (Fits-wrap w a)))
      ∙ ap (λ (j : ℕ). of_z w (shr_z (to_z w (low w a)) (2 ^ j))) amount
