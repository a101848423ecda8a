-- `target` meets its contract: a distance ahead, too far ahead, before the code, or back.
use Rattle.code.proofs.Targets.{forward, beyond, behind}
use Rattle.code.proofs.operand.target.Goals as goal

pub returns-then-d-half : goal.returns-then-d-half
returns-then-d-half c = rw (← c.half-half.ensures.halves) (forward _ c.args.next c.args.d _ c.if-d-half.true c.ahead.ensures)

pub returns-then-full-d : goal.returns-then-full-d
returns-then-full-d c = rw (← c.half-half.ensures.halves) (beyond _ c.args.next c.args.d _ c.if-full-d.true c.ahead-then-full-d.ensures)

pub returns : goal.returns
returns c =
    rw (← c.half-half.ensures.halves) (behind _ c.args.next c.args.d _ c.if-d-half.false c.if-full-d.false c.ranges.next.fits c.checked_sub.ensures)
