use mathlib.Core.Path.{refl}
use Rattle.runner.proofs.Telling.{told_over, told_halted}
use Rattle.runner.proofs.playing.told.Goals as goal
use Rattle.runner.proofs.playing.told.Goals.{then-last-eq-OVER, else-last-eq-OVER}

pub returns : goal.returns
returns c =
    elim c.if-last-eq-OVER.branch [
      | then-last-eq-OVER w ↦ rw w.number-is (told_over _ _ _ c.args.state.now _ _ c.counted.ensures w.if-last-eq-OVER.true w.value_due.ensures)
      | else-last-eq-OVER w ↦ rw w.number-is (told_halted _ _ _ c.args.state.now _ _ c.counted.ensures w.if-last-eq-OVER.false refl)
    ]
