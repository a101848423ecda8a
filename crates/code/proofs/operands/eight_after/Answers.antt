use mathlib.Core.Path.{ap, ◌∙◌}
use Rattle.model.specs.Loading.{little}
use Rattle.code.proofs.Parts.{after_one}
use Rattle.code.proofs.operands.eight_after.Goals as goal

pub returns : goal.returns
returns c =
    c.first.ensures.value ∙ ap (little 8) (after_one c.args.at c.args.part.now)
