use Rattle.model.specs.Tables.{arguments}
use Rattle.check_operands.proofs.operand.argument.Goals as goal

pub returns : goal.returns
returns c = λ m max due own. c.declared.ensures (arguments m) own.arity own.small own.arguments_at
