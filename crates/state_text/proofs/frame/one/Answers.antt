-- `one` meets its contract: its parts in their order.
use Rattle.std.proofs.Common.{◌∙◌}
use mathlib.Core.List.{append_assoc}
use Rattle.line.proofs.Appending.{added_then, same}
use Rattle.state_text.proofs.Reading.{of_frame, arguments_read, locals_read, stack_read, frame_text_lem}
use Rattle.state_text.proofs.frame.one.Goals as goal

pub returns : goal.returns
returns c =
    let s = c.args in
    let m = s.methods.now in
    let f = s.cells_of.now in
    let k = s.kinds.now in
    let row = c.at-row.result in
    let read = of_frame m f k s.i row c.told-methods c.told-cells_of c.told-kinds _ _ _ c.row_of-method.ensures c.row_of-frame.ensures c.row_of-kept.ensures in
    let args = arguments_read m f k s.i row c.told-methods c.told-cells_of c.told-kinds _ _ _ c.row_of-method.ensures c.row_of-frame.ensures c.row_of-kept.ensures _ c.at-2.ensures in
    let vars = locals_read m f k s.i row c.told-methods c.told-cells_of c.told-kinds _ _ _ c.row_of-method.ensures c.row_of-frame.ensures c.row_of-kept.ensures _ _ c.part.ensures c.part-2.ensures _ c.at-3.ensures in
    let stack = stack_read m f k s.i row c.told-methods c.told-cells_of c.told-kinds _ _ _ c.row_of-method.ensures c.row_of-frame.ensures c.row_of-kept.ensures _ _ c.part-3.ensures c.part-4.ensures _ c.at-4.ensures in
    let head = added_then _ _ _ _ _ (added_then _ _ _ _ _ (added_then _ _ _ _ _ (added_then _ _ _ _ _ c.put.ensures c.decimal.ensures) c.put-2.ensures) c.decimal-2.ensures) c.put-3.ensures in
    let some = added_then _ _ _ _ _ (added_then _ _ _ _ _ head (same _ _ _ _ c.cells.ensures args)) c.put-4.ensures in
    let more = added_then _ _ _ _ _ (added_then _ _ _ _ _ some (same _ _ _ _ c.cells-2.ensures vars)) c.put-5.ensures in
    same _ _ _ _ (added_then _ _ _ _ _ (added_then _ _ _ _ _ more (same _ _ _ _ c.cells-3.ensures stack)) c.put-6.ensures)
    (simp append_assoc (frame_text_lem m f k s.i row c.at.result (c.at-row.ensures ∙ read 58) (c.at.ensures ∙ read 56)))
