-- `signed` meets its contract: the model's digits are the kit's.
use Rattle.std.proofs.Common.{◌∙◌, ap}
use Rattle.model.specs.Turn.{signed}
use Rattle.line.specs.Append.{appended}
use Rattle.line.proofs.Spelling.{printed_signed}
use Rattle.line.proofs.text.Text.signed.Goals as goal

pub returns : goal.returns
returns g c =
    c.integer.ensures
    ∙ ap (appended c.args.self.now) (printed_signed c.value.result c.value.type_inv ∙ ap signed c.value.ensures)
