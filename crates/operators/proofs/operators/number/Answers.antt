use mathlib.Core.Path.{◌∙◌}
use native.Mathlib.Omega.{arith}
use Rattle.operators.proofs.ByKind.{narrow, wide, number_wrong, number_real, number_bits}
use Rattle.operators.proofs.operators.number.Goals as goal

pub returns-then-pair-eq-TWO_NARROW : goal.returns-then-pair-eq-TWO_NARROW
returns-then-pair-eq-TWO_NARROW c =
    λ h l. c.tagged.ensures ∙ number_bits _ _ _ _ h l narrow c.ranges.a.fits c.ranges.b.fits (omega arith) _ c.number_bits.ensures

pub returns-then-pair-eq-TWO_WIDE : goal.returns-then-pair-eq-TWO_WIDE
returns-then-pair-eq-TWO_WIDE c =
    λ h l. c.tagged-then-pair-eq-TWO_WIDE.ensures ∙ number_bits _ _ _ _ h l wide c.ranges.a.fits c.ranges.b.fits (omega arith) _ c.number_bits-then-pair-eq-TWO_WIDE.ensures

pub returns-then-pair-lt-BELOW_REALS : goal.returns-then-pair-lt-BELOW_REALS
returns-then-pair-lt-BELOW_REALS c =
    λ h l. number_wrong _ _ _ _ h l _ (λ z. omega arith) (λ z. omega arith) (λ z. omega arith)

pub returns-then-pair-eq-TWO_REALS : goal.returns-then-pair-eq-TWO_REALS
returns-then-pair-eq-TWO_REALS c =
    λ h l. number_real _ _ _ _ h l _ (omega arith) c.number_real.ensures

pub returns : goal.returns
returns c =
    λ h l. number_wrong _ _ _ _ h l _ (λ z. omega arith) (λ z. omega arith) (λ z. omega arith)
