-- Signed operands: in 64 bits, as an int32, and where they lead.
use Rattle.std.proofs.Common.{◌≡◌, ℕ, suc, ◌+◌, ◌-◌, ◌*◌, ◌%◌, ◌^◌, ◌<◌, ◌≤◌, Bool, true, false, ltb, leb, pos, negsuc, sym, refl, ap, ◌∙◌, ap₂, arith, pow_pos, w8, w32, to_z, of_z, ltb-false, ltb-true, le-ltb, lt-ltb, leb-false, leb-true}
use lib.Bits.{bit_xor, xor_block, xor_zero_r, xor_self}
use mir.Val.{sel}
use mir.Facts.{to_z_pos}
use Rattle.model.specs.Answer.{pick, only_if, or_else}
use Rattle.model.specs.Code.{target}
use Rattle.in_frame.specs.Tries.{Half, one_byte, four_bytes, away}

-- a number and one digit of it
module _ (k d : ℕ) where
  digit_set : d < 2 ^ k → bit_xor d (2 ^ k) ≡ d + 2 ^ k
  digit_set h =
      let x : d ≡ 0 * 2 ^ k + d = omega arith in
      let y : 2 ^ k ≡ 1 * 2 ^ k + 0 = omega arith in
      let z : 1 * 2 ^ k + d ≡ d + 2 ^ k = omega arith in
      ap₂ bit_xor x y ∙ xor_block k 0 1 d 0 h (pow_pos k) ∙ ap (λ (n : ℕ). 1 * 2 ^ k + n) (xor_zero_r d) ∙ z

  digit_cleared : 2 ^ k ≤ d → d < 2 ^ k + 2 ^ k → bit_xor d (2 ^ k) ≡ d - 2 ^ k
  digit_cleared h l =
      let x : d ≡ 1 * 2 ^ k + (d - 2 ^ k) = omega arith in
      let y : 2 ^ k ≡ 1 * 2 ^ k + 0 = omega arith in
      ap₂ bit_xor x y ∙ xor_block k 1 1 (d - 2 ^ k) 0 (omega arith) (pow_pos k) ∙ ap₂ (λ (m n : ℕ). m * 2 ^ k + n) (xor_self 1) (xor_zero_r (d - 2 ^ k)) ∙ omega arith

at_most : {half : ℕ} → Half half → half ≤ 0x80000000
at_most one_byte = omega arith
at_most four_bytes = omega arith

-- the digit of the sign
sign_set : {half d : ℕ} → Half half → d < half → bit_xor d half ≡ d + half
sign_set one_byte h = digit_set 7 _ h
sign_set four_bytes h = digit_set 31 _ h

sign_cleared : {half d : ℕ} → Half half → half ≤ d → d < half + half → bit_xor d half ≡ d - half
sign_cleared one_byte h l = digit_cleared 7 _ h l
sign_cleared four_bytes h l = digit_cleared 31 _ h l

module _ (half d : ℕ) where
  low_half : d < half → away half d ≡ d
  unfolding away pick
  low_half h = simp (lt-ltb _ _ h)

  high_half : half ≤ d → away half d ≡ d + 0x10000000000000000 - (half + half)
  unfolding away pick
  high_half h = simp (le-ltb _ _ h)

  module _ (is : Half half) (fits : d < half + half) where
    few : half ≤ 0x80000000
    few = at_most is

    -- r is the number with its sign turned, less half, as 64 bits
    pub wrapped : (r : ℕ) → r < 2 ^ 64 → (r + half) % 2 ^ 64 ≡ bit_xor d half → r ≡ away half d
    wrapped r h e = go (ltb d half) refl where
      go : (t : Bool) → ltb d half ≡ t → r ≡ away half d
      go true q =
          let l : d < half = ltb-true d half q in
          let m : bit_xor d half ≡ d + half = sign_set is l in
          let z : r ≡ d = omega (arith, few) in
          z ∙ sym (low_half l)
      go false q =
          let l : half ≤ d = ltb-false d half q in
          let m : bit_xor d half ≡ d - half = sign_cleared is l fits in
          let z : r ≡ d + 0x10000000000000000 - (half + half) = omega (arith, few) in
          z ∙ sym (high_half l)

    -- where it leads from the next instruction
    pub lands : (next b r : ℕ) → next ≤ 0x10000 → b ≡ away half d → r ≡ (next + b) % 2 ^ 64
        → r ≡ or_else (target (half + half) next d) (next + d + 0x10000000000000000 - (half + half))
    unfolding target pick only_if or_else
    lands next b r n e q = go (ltb d half) refl where
      turned : (u : Bool) → leb (half + half) (next + d) ≡ u → half ≤ d → b ≡ d + 0x10000000000000000 - (half + half)
          → r ≡ or_else (target (half + half) next d) (next + d + 0x10000000000000000 - (half + half))
      turned true u l x =
          let k : half + half ≤ next + d = leb-true (half + half) (next + d) u in
          let z : r ≡ next + d - (half + half) = omega (arith, few) in
          z ∙ simp (le-ltb (d + d) (half + half) (omega arith), u)
      turned false u l x =
          let k : next + d < half + half = leb-false (half + half) (next + d) u in
          let z : r ≡ next + d + 0x10000000000000000 - (half + half) = omega (arith, few) in
          z ∙ simp (le-ltb (d + d) (half + half) (omega arith), u)

      go : (t : Bool) → ltb d half ≡ t → r ≡ or_else (target (half + half) next d) (next + d + 0x10000000000000000 - (half + half))
      go true t =
          let l : d < half = ltb-true d half t in
          let x : b ≡ d = e ∙ low_half l in
          let z : r ≡ next + d = omega (arith, few) in
          z ∙ simp (lt-ltb (d + d) (half + half) (omega arith))
      go false t =
          let l : half ≤ d = ltb-false d half t in
          let x : b ≡ d + 0x10000000000000000 - (half + half) = e ∙ high_half l in
          turned (leb (half + half) (next + d)) refl l x

-- a signed byte as an int32
pub narrowed : (b x : ℕ) → b < 0x100 → x ≡ away 0x80 b → x % 0x100000000 ≡ of_z w32 (to_z w8 b)
narrowed b x h e = go (ltb b 0x80) refl where
  go : (t : Bool) → ltb b 0x80 ≡ t → x % 0x100000000 ≡ of_z w32 (to_z w8 b)
  go true q =
      let l : b < 0x80 = ltb-true b 0x80 q in
      let y : x ≡ b = e ∙ low_half 0x80 b l in
      let m : x % 0x100000000 ≡ b = omega arith in
      m ∙ sym (ap (of_z w32) (to_z_pos w8 l))
  go false q =
      let l : 0x80 ≤ b = ltb-false b 0x80 q in
      let y : x ≡ b + 0x10000000000000000 - (0x80 + 0x80) = e ∙ high_half 0x80 b l in
      let z : to_z w8 b ≡ negsuc (0x100 - suc b) = ap (λ (t : Bool). sel t (pos b) (negsuc (0x100 - suc b))) (le-ltb b 0x80 l) in
      let m : x % 0x100000000 ≡ 0x100000000 - suc (0x100 - suc b) = omega arith in
      m ∙ sym (ap (of_z w32) z)
