use Rattle.std.proofs.Common.{refl}
use Rattle.model.specs.Check.{pops_one}
use Rattle.check_operands.proofs.Operands.{no_type, a_type, lacks, has}
use Rattle.check_operands.proofs.step.keep.Goals as goal

pub returns-in-Some-clause-operand : goal.returns-in-Some-clause-operand
returns-in-Some-clause-operand c = λ M o p t f S w.
    let d = a_type o _ _ t c.in-Some.is in
    has _ _ _ (λ u. pops_one M u S) o d.type (pops_one M d.type S) d.is refl (c.store.ensures.effect M d.type p d.byte f S w)

pub returns-in-None-clause-operand : goal.returns-in-None-clause-operand
returns-in-None-clause-operand c = λ M o p t f S w. lacks _ (λ u. pops_one M u S) o (no_type o _ t c.in-None.is) f
