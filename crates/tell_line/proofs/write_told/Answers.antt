-- `write_told` meets its contract: its parts in their order.
use mathlib.Core.Path.{ap}
use Rattle.model.specs.Tables.{part_of}
use Rattle.line.proofs.Appending.{added_then, same}
use Rattle.tell_line.specs.Shapes.{spaced}
use Rattle.tell_line.proofs.Telling.{in_order}
use Rattle.tell_line.proofs.write_told.Goals as goal

pub returns : goal.returns
unfolding part_of
returns c =
    let offset = added_then _ _ _ _ _ (added_then _ _ _ _ _ c.number.ensures c.number-2.ensures) c.number-3.ensures in
    let depth = added_then _ _ _ _ _ (added_then _ _ _ _ _ offset c.number-4.ensures) c.decimal.ensures in
    let types = added_then _ _ _ _ _ depth (same _ _ _ _ c.spaced.ensures (ap spaced c.part.ensures)) in
    record {
      text = same _ _ _ _ (added_then _ _ _ _ _ types c.put.ensures) (in_order c.args.told.now c.numbered-fault.ensures c.seen-starts.ensures.is);
      long = c.seen-starts.ensures.long;
    }
