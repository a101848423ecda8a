use Rattle.check_operands.proofs.operand.local.Goals as goal

pub returns : goal.returns
returns c = λ m max due own. c.declared.ensures m.locals own.local_count_lem own.local_small own.locals_at
