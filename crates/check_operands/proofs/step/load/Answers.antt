use Rattle.std.proofs.Common.{refl}
use Rattle.model.specs.Check.{pushes}
use Rattle.check_operands.proofs.Operands.{no_type, a_type, lacks, has}
use Rattle.check_operands.proofs.step.load.Goals as goal

pub returns-in-Some-clause-operand : goal.returns-in-Some-clause-operand
returns-in-Some-clause-operand c = λ m o e t f S w.
    let d = a_type o _ _ t c.in-Some.is in
    has _ _ _ (λ u. pushes m u S) o d.type (pushes m d.type S) d.is refl (c.push.ensures.effect m d.type e d.byte f S w)

pub returns-in-None-clause-operand : goal.returns-in-None-clause-operand
returns-in-None-clause-operand c = λ m o e t f S w. lacks _ (λ u. pushes m u S) o (no_type o _ t c.in-None.is) f
