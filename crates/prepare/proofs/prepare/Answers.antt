use mathlib.Core.Path.{refl}
use Rattle.prepare.proofs.Making.{makes}
use Rattle.prepare.proofs.prepare.Goals as goal

pub returns : goal.returns
returns c = λ M code F H. makes M code _ _ _ _ F H c.variables.ensures c.ancestors.ensures (c.choices.ensures M code _ F H refl refl refl)
