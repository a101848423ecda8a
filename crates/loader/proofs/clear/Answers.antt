-- `loader::clear` meets its contract.
use mathlib.Core.Path.{refl}
use Rattle.loaded.specs.Holds.{no_counts, nothing}
use Rattle.loader.proofs.clear.Goals as goal

pub returns : goal.returns
unfolding nothing no_counts
returns c = refl
