-- `ahead` meets its contract: the sum, or the largest number.
use Rattle.std.proofs.Common.{◌∙◌}
use Rattle.code.proofs.Targets.{bounded}
use Rattle.code.proofs.operand.ahead.Goals as goal

pub returns : goal.returns
returns c = c.unwrap_or.ensures ∙ bounded _ _ c.checked_add.ensures
