-- `line` meets its contract: its parts in their order.
use Rattle.model.specs.Turn.{print}
use Rattle.line.proofs.Appending.{added_parts}
use Rattle.line.proofs.text.Text.line.Goals as goal

pub returns : goal.returns
unfolding print
returns c =
    let a = simp added_parts at c.number.ensures in
    let b = simp added_parts at c.number-2.ensures in
    let d = simp added_parts at c.number-3.ensures in
    let e = simp added_parts at c.number-4.ensures in
    simp added_parts (cc)
