-- `cells` meets its contract.
use Rattle.model.specs.Replay.{commas, cell_texts}
use Rattle.state.specs.View.{span}
use Rattle.line.proofs.Appending.{added_none}
use Rattle.state_text.proofs.Joining.{cell_more}
use Rattle.state_text.proofs.cell.cells.Goals as goal

pub loop-i-init : goal.loop-i-init
unfolding cell_texts commas span
loop-i-init c = added_none _

pub loop-i-preserved : goal.loop-i-preserved
loop-i-preserved c =
    cell_more _ _ _ _ _ c.loop-i.i c.loop-i.invariant c.comma.ensures (rw (c.at.ensures, c.at-in-loop-i.ensures) at c.cell.ensures)
