use mathlib.Core.Path.{refl}
use Rattle.state.specs.Layout.{no_state}
use Rattle.state.proofs.State.clear.Goals as goal

pub returns : goal.returns
unfolding no_state
returns c = refl
