-- `digit` meets its contract.
use Rattle.std.proofs.Common.{◌∙◌, ◌∷◌, [], ℕ, ap}
use Rattle.line.specs.Append.{appended}
use Rattle.line.proofs.Spelling.{digit_low, digit_high}
use Rattle.line.proofs.text.Text.digit.Goals as goal
use Rattle.line.proofs.text.Text.digit.Goals.{then-d-lt10, else-d-lt10}

pub returns : goal.returns
returns c =
    c.put.ensures
    ∙ ap (λ (b : ℕ). appended c.args.self.now (b ∷ []))
    (elim c.if-d-lt10.branch [ then-d-lt10 w ↦ w.put-is ∙ digit_low _ w.if-d-lt10.true | else-d-lt10 w ↦ w.put-is ∙ digit_high _ w.if-d-lt10.false ])
