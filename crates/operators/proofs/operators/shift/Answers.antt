use native.Mathlib.Omega.{arith}
use Rattle.operators.proofs.ByKind.{narrow, wide, shift_wrong, shift_bits}
use Rattle.operators.proofs.operators.shift.Goals as goal

pub returns-then-pair-eq-TWO_NARROW : goal.returns-then-pair-eq-TWO_NARROW
returns-then-pair-eq-TWO_NARROW c =
    λ h l. shift_bits _ _ _ _ h l narrow c.ranges.a.fits _ (omega arith) c.shift_bits.ensures

pub returns-then-pair-eq-WIDE_AND_NARROW : goal.returns-then-pair-eq-WIDE_AND_NARROW
returns-then-pair-eq-WIDE_AND_NARROW c =
    λ h l. shift_bits _ _ _ _ h l wide c.ranges.a.fits _ (omega arith) c.shift_bits-then-pair-eq-WIDE_AND_NARROW.ensures

pub returns : goal.returns
returns c =
    λ h l. shift_wrong _ _ _ _ h l _ (λ z. omega arith) (λ z. omega arith)
