use Rattle.std.proofs.Common.{refl}
use Rattle.model.specs.Check.{effect, cast_effect}
use Rattle.model.specs.Code.{castclass, operands, Act}
use Rattle.check_operands.proofs.Operands.{class_lacks, class_has, lacks, has, class_byte_is}
use Rattle.check_operands.proofs.step.casts.Goals as goal

pub returns-in-Some-clause-operand : goal.returns-in-Some-clause-operand
unfolding effect
returns-in-Some-clause-operand c = λ M m e l f S w.
    has _ _ _ (λ a. effect M m a S) (operands M m (castclass c.args.token)) (Act.castclass c.in-Some.r) (cast_effect c.in-Some.r S)
    (class_has M m c.args.token _ _ e (c.class_row.ensures.as_model l) _ c.in-Some.is) refl (c.cast.ensures.effect c.in-Some.r (class_byte_is _) f S w)

pub returns-in-None-clause-operand : goal.returns-in-None-clause-operand
returns-in-None-clause-operand c = λ M m e l f S w.
    lacks _ (λ a. effect M m a S) (operands M m (castclass c.args.token)) (class_lacks M m c.args.token _ _ e (c.class_row.ensures.as_model l) c.in-None.is) f
