use Rattle.visits.proofs.Arrivals.{shape_none, shape_some}
use Rattle.visits.proofs.visit.shape_at.Goals as goal

pub returns-in_default-clause-shows : goal.returns-in_default-clause-shows
returns-in_default-clause-shows c = λ P n F f k h b. shape_none P n F _ _ f k h b (c.in_default.ensures.read P n F f k h b)

pub returns-clause-shows : goal.returns-clause-shows
returns-clause-shows c = λ P n F f k h b. shape_some P n F _ _ f k h b _ (c.in-Some.ensures.read P n F f k h b)
