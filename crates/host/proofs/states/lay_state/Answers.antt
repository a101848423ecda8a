-- `lay_state` meets its contract: what is laid so far is the first i cells.
use borrow.Author.Rules.{rules}
use Rattle.host.specs.Hosting.{state_cells}
use Rattle.host.proofs.Laying.{none_laid, one_more, all_laid}
use Rattle.host.proofs.states.lay_state.Goals as goal

pub loop-i-init : goal.loop-i-init
loop-i-init c = none_laid c.requires

pub loop-i-preserved : goal.loop-i-preserved
loop-i-preserved c = one_more (search rules) c.state_cell.ensures c.loop-i.invariant

pub returns : goal.returns
unfolding state_cells
returns c = all_laid c.loop-i-test.false c.loop-i.invariant
