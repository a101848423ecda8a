-- `table` meets its contract: its groups are the definition's.
use mathlib.Core.Path.{refl}
use Rattle.check_operands.specs.Groups.{groups}
use Rattle.check_operands.proofs.group.table.Goals as goal

pub returns : goal.returns
unfolding groups
returns c = refl
