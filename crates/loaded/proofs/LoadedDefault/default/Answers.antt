-- `Loaded::default` meets its contract.
use Rattle.std.proofs.Common.{refl}
use Rattle.loaded.specs.Holds.{no_counts, nothing}
use Rattle.loaded.proofs.LoadedDefault.default.Goals as goal

pub returns : goal.returns
unfolding nothing no_counts
returns c = refl
