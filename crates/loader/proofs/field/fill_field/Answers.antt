-- `loader::field::fill_field` meets its contract.
use mathlib.Core.Path.{refl}
use Rattle.loader.specs.Stands.{stored}
use Rattle.loader.proofs.field.fill_field.Goals as goal

pub returns : goal.returns
unfolding stored
returns c = refl
