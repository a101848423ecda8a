-- `decimal` meets its contract: the model's digits are the kit's.
use Rattle.std.proofs.Common.{◌∙◌, ap}
use Rattle.line.specs.Append.{appended}
use Rattle.line.proofs.Spelling.{printed}
use Rattle.line.proofs.text.Text.decimal.Goals as goal

pub returns : goal.returns
returns c = c.integer.ensures ∙ ap (appended c.args.self.now) (printed c.args.n c.ranges.n.fits)
