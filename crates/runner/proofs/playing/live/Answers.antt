use Prim.Native.Nat.{◌/◌}
use borrow.Author.Tests.{eq-eqb, ne_eqb}
use native.Mathlib.Numerals.{add-one}
use Rattle.model.specs.Answer.{pick}
use Rattle.runner.proofs.playing.live.Goals as goal

pub returns-then-last-eq-OVER : goal.returns-then-last-eq-OVER
unfolding pick
returns-then-last-eq-OVER c = rw (eq-eqb _ _ c.if-last-eq-OVER.true)

pub returns-else-last-eq-OVER : goal.returns-else-last-eq-OVER
unfolding pick
returns-else-last-eq-OVER c = rw (ne_eqb _ _ c.if-last-eq-OVER.false, add-one (c.args.last.fp / 64))
