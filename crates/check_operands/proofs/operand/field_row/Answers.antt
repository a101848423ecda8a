use Rattle.check_operands.proofs.Operands.{flagged, unnamed_none}
use Rattle.check_operands.proofs.operand.field_row.Goals as goal

pub returns-in_err-r-clause-as_model : goal.returns-in_err-r-clause-as_model
returns-in_err-r-clause-as_model c = λ l. rw c.from_residual.ensures (unnamed_none _ _ (c.in_err-r.ensures.as_model l))

pub returns-clause-as_model : goal.returns-clause-as_model
returns-clause-as_model c = λ l. rw c.then_some.ensures (flagged c.args.fields.now _ _ _ (c.in_ok-r.ensures.as_model l))
