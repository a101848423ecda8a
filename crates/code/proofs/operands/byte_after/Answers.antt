use mathlib.Core.Path.{ap, ◌∙◌}
use Rattle.model.specs.Loading.{little}
use Rattle.code.proofs.Parts.{after_one}
use Rattle.code.proofs.operands.byte_after.Goals as goal

pub returns : goal.returns
returns c =
    (c.first.ensures.value ∙ ap (little 1) (after_one c.args.at c.args.part.now), c.first.ensures.below)
