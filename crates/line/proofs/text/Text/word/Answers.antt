-- `word` meets its contract.
use borrow.Author.Rules.{rules}
use Rattle.line.proofs.Appending.{added_none, added_next}
use Rattle.line.proofs.text.Text.word.Goals as goal

pub loop-b-init : goal.loop-b-init
loop-b-init c = added_none _

pub loop-b-preserved : goal.loop-b-preserved
loop-b-preserved c = added_next _ _ _ _ _ (search rules) c.loop-b.invariant c.put.ensures
