use Rattle.prepare.proofs.Asking.{numbers_are}
use Rattle.prepare.proofs.sets.numbers_of.Goals as goal

pub returns : goal.returns
returns c = numbers_are _ c.requires.0 c.requires.1
