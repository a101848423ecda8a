use Rattle.prepare.proofs.Holding.{chosen_holds}
use Rattle.prepare.proofs.choices.Goals as goal

pub returns : goal.returns
returns c = λ M code L F H ce pe me. chosen_holds M code L F H _ _ ce pe _ _ _ me c.own_methods.ensures.own_from c.inherit.ensures
