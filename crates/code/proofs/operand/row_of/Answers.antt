-- `row_of` meets its contract: the token's kind is tested.
use Rattle.std.proofs.Common.{ap, ◌∙◌}
use Rattle.code.specs.Operand.{maybe}
use Rattle.model.specs.Code.{row_of}
use Rattle.code.proofs.Targets.{kept}
use Rattle.code.proofs.operand.row_of.Goals as goal

pub returns : goal.returns
unfolding row_of
returns c = ap maybe c.then_some.ensures ∙ kept _ _
