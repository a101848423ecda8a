use mathlib.Core.Path.{◌∙◌}
use native.Mathlib.Omega.{arith}
use Rattle.operators.proofs.ByKind.{narrow, wide, whole_wrong, whole_bits}
use Rattle.operators.proofs.operators.whole.Goals as goal

pub returns-then-pair-eq-TWO_NARROW : goal.returns-then-pair-eq-TWO_NARROW
returns-then-pair-eq-TWO_NARROW c =
    λ h l. c.tagged.ensures ∙ whole_bits _ _ _ _ h l narrow c.ranges.a.fits c.ranges.b.fits (omega arith) _ c.whole_bits.ensures

pub returns-then-pair-eq-TWO_WIDE : goal.returns-then-pair-eq-TWO_WIDE
returns-then-pair-eq-TWO_WIDE c =
    λ h l. c.tagged-then-pair-eq-TWO_WIDE.ensures ∙ whole_bits _ _ _ _ h l wide c.ranges.a.fits c.ranges.b.fits (omega arith) _ c.whole_bits-then-pair-eq-TWO_WIDE.ensures

pub returns : goal.returns
returns c =
    λ h l. whole_wrong _ _ _ _ h l _ (λ z. omega arith) (λ z. omega arith)
