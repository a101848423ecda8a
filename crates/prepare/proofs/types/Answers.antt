use Rattle.prepare.proofs.Holding.{types_hold}
use Rattle.prepare.proofs.types.Goals as goal

pub returns : goal.returns
returns c = λ M code L F H ce pe fe. types_hold M code L F H _ _ ce pe _ _ _ _ fe c.lay_fields.ensures.laid_to c.inherit.ensures
