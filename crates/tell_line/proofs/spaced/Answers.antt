-- `spaced` meets its contract.
use Rattle.std.proofs.Common.{rules}
use Rattle.model.specs.Turn.{space}
use Rattle.line.proofs.Appending.{added_none}
use Rattle.tell_line.specs.Shapes.{spaced}
use Rattle.tell_line.proofs.Telling.{further}
use Rattle.tell_line.proofs.spaced.Goals as goal

pub loop-n-init : goal.loop-n-init
unfolding spaced
loop-n-init c = added_none _

pub loop-n-preserved : goal.loop-n-preserved
unfolding space
loop-n-preserved c = further _ _ _ _ c.args.numbers.now c.loop-n.n-index (search rules) c.loop-n.invariant c.put.ensures c.decimal.ensures
