use mathlib.Core.Logic.{inl, inr, ⊎_elim}
use mathlib.Core.Path.{ap}
use native.Mathlib.Omega.{arith}
use Rattle.operators.specs.Gives.{relation_by}
use Rattle.operators.proofs.ByKind.{compared_mixed, compared_real, ordered, compared_order, compared_reference, compared_wide}
use Rattle.operators.proofs.comparisons.related_others.Goals as goal

pub returns-then-pair-eq-TWO_WIDE : goal.returns-then-pair-eq-TWO_WIDE
returns-then-pair-eq-TWO_WIDE c =
    λ k l x y p n. compared_wide _ _ _ _ x y (omega arith) _ (omega arith) c.ranges.a.fits c.ranges.b.fits c.related_bits.ensures

pub returns-then-pair-ne-TWO_REFERENCES : goal.returns-then-pair-ne-TWO_REFERENCES
returns-then-pair-ne-TWO_REFERENCES c = λ k l x y p n. compared_mixed _ _ _ _ x y _ (λ z. omega arith)

pub returns-in-Eq : goal.returns-in-Eq
returns-in-Eq c =
    λ k l x y p n. compared_reference _ _ _ _ x y (omega arith) _ (⊎_elim (λ e. inl (ap relation_by e)) (λ e. inr (ap relation_by e)) c.in-Eq.is) (omega arith) c.ranges.a.fits c.ranges.b.fits
    c.related_bits-in-Eq.ensures

pub returns-in_default : goal.returns-in_default
returns-in_default c = λ k l x y p n. compared_order _ _ _ _ x y (omega arith) _ (omega arith) (ordered _ c.in_default.not-Eq c.in_default.not-Ne)

pub returns-then-pair-eq-TWO_REALS : goal.returns-then-pair-eq-TWO_REALS
returns-then-pair-eq-TWO_REALS c =
    λ k l x y p n. compared_real _ _ _ _ x y (omega arith) _ (omega arith) c.related_real.ensures

pub returns : goal.returns
returns c = λ k l x y p n. compared_mixed _ _ _ _ x y _ (λ z. omega arith)
