-- What add, sub, mul and neg give over the whole numbers, said of a cell's bits.
use Rattle.std.proofs.Common.{◌≡◌, ℕ, ◌+◌, ◌-◌, ◌*◌, ◌%◌, ◌^◌, ◌<◌, ℤ, pos, negsuc, ◌+ℤ◌, ◌-ℤ◌, ◌*ℤ◌, neg_ℤ, sym, refl, ap, ◌∙◌, mod-lt, arith, pow_pos, to_z, of_z}
use Rattle.std.specs.Int.{Width, int_wrap}
use Rattle.std.proofs.lemmas.Int.{of_z-to_z, wrapping_add-bits, wrapping_sub-bits, wrapping_mul-bits, wrapping_neg_is}
use native.Mathlib.Nat.{add-mod}
use Rattle.std.proofs.lemmas.Nat.{mul-mod}
use mir.Val.{bits}
use mir.Facts.{sfits_to_z}
use Rattle.model.specs.Operators.{wrap}
use mir.ValLaws.{Fits-wrap}
use Rattle.integers.specs.Cells.{OfCell, low}
use Rattle.integers.specs.Cells.OfCell.{narrow, wide}
use Rattle.integers.proofs.Reading.{cut}

wrap_below : (w : Width) (z : ℤ) → wrap w z < 2 ^ bits w
unfolding wrap
wrap_below w (pos n) = mod-lt n (pow_pos (bits w))
wrap_below w (negsuc n) = let l = mod-lt n (pow_pos (bits w)) in omega arith

wrap_left : (w : Width) (z : ℤ) → to_z w (wrap w z) ≡ int_wrap w z
unfolding wrap int_wrap
wrap_left w (pos n) = refl
wrap_left w (negsuc n) = ap (to_z w) (omega arith)

-- bits that stand for what is left of a number are its bits, wrapped
left : (w : Width) (z : ℤ) (r : ℕ) → r < 2 ^ bits w → to_z w r ≡ int_wrap w z → r ≡ wrap w z
left w z r l e = sym (of_z-to_z w r l) ∙ ap (of_z w) (e ∙ sym (wrap_left w z)) ∙ of_z-to_z w (wrap w z) (wrap_below w z)

module _ {w : Width} (t : OfCell w) (a b : ℕ) where
  below : (n : ℕ) → n % 2 ^ bits w < 2 ^ bits w
  below n = mod-lt n (pow_pos (bits w))

  pub sums : low w ((a + b) % 2 ^ 64) ≡ wrap w (to_z w (low w a) +ℤ to_z w (low w b))
  sums = cut t (a + b) ∙ add-mod a b (2 ^ bits w) ∙ left w _ _ (below _) (wrapping_add-bits w (low w a) (low w b) (below a) (below b))

  pub differences : b < 2 ^ 64 → low w ((a + (2 ^ 64 - b)) % 2 ^ 64) ≡ wrap w (to_z w (low w a) -ℤ to_z w (low w b))
  differences l = far t ∙ left w _ _ (below _) (wrapping_sub-bits w (low w a) (low w b) (below a) (below b))
    where
      far : {w : Width} → OfCell w → low w ((a + (2 ^ 64 - b)) % 2 ^ 64) ≡ (low w a + (2 ^ bits w - low w b)) % 2 ^ bits w
      far narrow = omega arith
      far wide = omega arith

  pub products : low w (a * b % 2 ^ 64) ≡ wrap w (to_z w (low w a) *ℤ to_z w (low w b))
  products = cut t (a * b) ∙ mul-mod a b (2 ^ bits w) ∙ left w _ _ (below _) (wrapping_mul-bits w (low w a) (low w b) (below a) (below b))

pub negated : {w : Width} (t : OfCell w) (a r : ℕ) → (r + a) % 2 ^ 64 ≡ 0 → low w r ≡ wrap w (neg_ℤ (to_z w (low w a)))
negated {w} t a r e =
    far t ∙ left w _ _ (mod-lt _ (pow_pos (bits w)))
    (ap (λ (n : ℕ). to_z w ((2 ^ bits w - n) % 2 ^ bits w)) (sym (of_z-to_z w (low w a) (mod-lt a (pow_pos (bits w)))))
    ∙ wrapping_neg_is w (to_z w (low w a)) (sfits_to_z (Fits-wrap w a)))
  where
    far : {w : Width} → OfCell w → low w r ≡ (2 ^ bits w - low w a) % 2 ^ bits w
    far narrow = omega arith
    far wide = omega arith
