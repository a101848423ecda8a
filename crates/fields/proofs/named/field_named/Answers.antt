use Rattle.fields.proofs.Naming.{field_refused, field_other, field_found}
use Rattle.fields.proofs.named.field_named.Goals as goal

pub returns-in_err-row : goal.returns-in_err-row
returns-in_err-row c = field_refused _ _ _ _ _ c.row_after.ensures _ c.from_residual.ensures.1 c.in_err-row.was

pub returns-then-fields-row : goal.returns-then-fields-row
returns-then-fields-row c = field_other _ _ _ _ _ c.row_after.ensures c.in_ok-row.was c.if-fields-row.true

pub returns : goal.returns
returns c = field_found _ _ _ _ _ c.row_after.ensures c.in_ok-row.was c.requires.1 c.if-fields-row.false
