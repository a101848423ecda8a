use Rattle.std.proofs.Common.{arith}
use Rattle.check_operands.proofs.Operands.{may_0, may_1, may_2, may_3}
use Rattle.check_operands.proofs.operand.may_call.Goals as goal

pub returns-in-0 : goal.returns-in-0
returns-in-0 c = λ s e. may_0 _ _ s c.in-0.is e

pub returns-then-sort-eq-INSTANCE_METHOD : goal.returns-then-sort-eq-INSTANCE_METHOD
returns-then-sort-eq-INSTANCE_METHOD c = λ s e. may_1 _ _ s c.in-1.is e c.if-sort-eq-INSTANCE_METHOD.true

pub returns-else-sort-eq-INSTANCE_METHOD : goal.returns-else-sort-eq-INSTANCE_METHOD
returns-else-sort-eq-INSTANCE_METHOD c = λ s e. may_2 _ _ s c.in-1.is e c.if-sort-eq-INSTANCE_METHOD.false

pub returns-in_default : goal.returns-in_default
returns-in_default c = λ s e. may_3 _ _ s (λ z. omega arith) (λ z. omega arith) e
