-- `hex` meets its contract: the digits above the last one, then the last one.
use Rattle.std.proofs.Common.{◌∙◌, ap, sym, arith}
use Rattle.line.specs.Append.{appended}
use Rattle.line.proofs.Appending.{added_none, added_then}
use Rattle.line.proofs.Spelling.{hex_none, hex_last}
use Rattle.line.proofs.text.Text.+hex.Goals as goal

pub returns-then-count-gt0 : goal.returns-then-count-gt0
returns-then-count-gt0 t c =
    added_then _ _ _ _ _ c.hex.ensures c.digit.ensures
    ∙ ap (appended c.args.self.now) (sym (hex_last c.args.count c.args.n (λ e. omega arith)))

pub returns-else-count-gt0 : goal.returns-else-count-gt0
returns-else-count-gt0 t c =
    added_none c.args.self.now ∙ ap (appended c.args.self.now) (sym (hex_none c.args.count c.args.n (omega arith)))
