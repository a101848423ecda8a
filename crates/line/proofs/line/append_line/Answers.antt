-- `append_line` meets its contract.
use Rattle.std.proofs.Common.{rules, ◌∙◌, sym}
use Rattle.line.proofs.Appending.{held, same_buffer}
use Rattle.line.proofs.line.append_line.Goals as goal

pub returns : goal.returns
returns c =
    let given = c.up_to-text.ensures in
    let same = sym (same_buffer _ _ _ c.line.ensures ∙ c.up_to-text.ensures.same_buffer) in
    held _ _ _ _ _ _ _ given.bytes given.place c.line.ensures (search (rules, same)) c.end.ensures
