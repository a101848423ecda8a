-- `object` meets its contract: nothing for class 0, else its parts in their order.
use Rattle.std.proofs.Common.{◌∙◌}
use mathlib.Core.List.{append_assoc}
use Rattle.line.proofs.Appending.{added_none, added_then, same}
use Rattle.state_text.proofs.Reading.{free_text, place_text, fields_read}
use Rattle.state_text.proofs.Sizes.{size_all}
use Rattle.state_text.proofs.members.object.Goals as goal

pub returns-then-class-ne0 : goal.returns-then-class-ne0
returns-then-class-ne0 c =
    let s = c.args in
    let read = fields_read s.types.now s.heap.now s.place s.class c.told-types c.told-heap _ _ c.row_of-kinds.ensures c.row_of.ensures c.size.result in
    let n = c.size.ensures ∙ size_all s.types.now s.class _ c.told-types c.row_of-kinds.ensures in
    let head = added_then _ _ _ _ _ (added_then _ _ _ _ _ c.put.ensures c.decimal.ensures) c.put-then-class-ne0.ensures in
    same _ _ _ _ (added_then _ _ _ _ _ (added_then _ _ _ _ _ head (same _ _ _ _ c.cells.ensures read)) c.put-then-class-ne0-2.ensures)
    (simp append_assoc (place_text s.types.now s.heap.now s.place s.class c.size.result c.if-class-ne0.true n))

pub returns-else-class-ne0 : goal.returns-else-class-ne0
returns-else-class-ne0 c =
    same _ _ _ _ (added_none _) (free_text c.args.types.now c.args.heap.now c.args.place c.args.class c.if-class-ne0.false)
