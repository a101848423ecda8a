use Rattle.visits.proofs.Arrivals.{past_end, next_met}
use Rattle.visits.proofs.visit.onward.Goals as goal

pub returns-then-size-next : goal.returns-then-size-next
returns-then-size-next c = λ F S f k w. past_end _ _ F _ _ S c.if-size-next.true

pub returns : goal.returns
returns c = λ F S f k w. next_met _ _ F _ _ S _ c.if-size-next.false (c.meets.ensures _ F S f k c.if-size-next.false c.requires.size_at_most w)
