use native.Mathlib.Omega.{arith}
use Rattle.operators.proofs.ByKind.{compared_narrow}
use Rattle.operators.proofs.comparisons.related.Goals as goal

pub returns-then-pair-eq-TWO_NARROW : goal.returns-then-pair-eq-TWO_NARROW
returns-then-pair-eq-TWO_NARROW c = λ k l x y p. compared_narrow _ _ _ _ _ (omega arith) (omega arith) c.related_bits.ensures

pub returns : goal.returns
returns c = λ k l x y p. c.related_others.ensures k l x y p c.if-pair-eq-TWO_NARROW.false
