-- `loader::method::fill_part` meets its contract.
use mathlib.Core.Path.{refl}
use Rattle.loader.specs.Stands.{stored}
use Rattle.loader.proofs.method.fill_part.Goals as goal

pub returns : goal.returns
unfolding stored
returns c = refl
