-- `line` meets its contract: a line has room in 1,024 bytes.
use mathlib.Core.Path.{refl, sym, ◌∙◌}
use native.Mathlib.Omega.{arith}
use Rattle.line.proofs.Appending.{held, same_buffer}
use Rattle.tell_line.proofs.Telling.{alone}
use Rattle.tell_line.proofs.line.Goals as goal

pub shape_of-out : goal.shape_of-out
shape_of-out c = sym (same_buffer _ _ _ c.write_told.ensures.text ∙ c.up_to-text.ensures.same_buffer)

pub returns : goal.returns
returns c =
    let given = c.up_to-text.ensures in
    let text = held _ _ _ _ _ _ _ given.bytes given.place c.write_told.ensures.text refl c.end.ensures in
    let both = alone _ _ c.tell-told.ensures c.write_told.ensures.long (omega arith) text in
    record { out_after = both.0; size = both.1.0; room = both.1.1 }
