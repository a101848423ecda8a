use Rattle.prepare.proofs.Turns.{zeros}
use Rattle.prepare.proofs.Asking.{sets_first}
use Rattle.prepare.proofs.ancestors.Goals as goal

pub loop-c-init : goal.loop-c-init
loop-c-init c = λ ps P e. sets_first ps _ (zeros 33 _ c.requires 0)
