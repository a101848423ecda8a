-- `reference` meets its contract: null is 0.
use Rattle.std.proofs.Common.{◌∙◌, ap, sym}
use Rattle.line.specs.Append.{appended}
use Rattle.line.proofs.Appending.{added_then}
use Rattle.state_text.proofs.Joining.{null_text, object_text}
use Rattle.state_text.proofs.cell.reference.Goals as goal

pub returns-then-bits-eq0 : goal.returns-then-bits-eq0
returns-then-bits-eq0 c = c.put.ensures ∙ ap (appended c.args.text.now) (sym (null_text _ c.if-bits-eq0.true))

pub returns-else-bits-eq0 : goal.returns-else-bits-eq0
returns-else-bits-eq0 c =
    added_then _ _ _ _ _ c.put-else-bits-eq0.ensures c.decimal.ensures
    ∙ ap (appended c.args.text.now) (sym (object_text _ c.if-bits-eq0.false))
