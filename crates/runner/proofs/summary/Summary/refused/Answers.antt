use mathlib.Core.Path.{refl}
use Rattle.state.specs.Layout.{no_state}
use Rattle.runner.specs.Answers.{refused_by}
use Rattle.runner.proofs.summary.Summary.refused.Goals as goal

pub returns : goal.returns
unfolding refused_by
returns c = refl
