use mathlib.Core.Path.{refl}
use Rattle.code.proofs.operands.whole.Goals as goal

pub returns : goal.returns
returns c = refl
