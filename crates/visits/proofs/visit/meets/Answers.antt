use Rattle.visits.proofs.Arrivals.{first_arrival, later_same, later_other, read_some}
use mathlib.Core.Path.{sym, ◌∙◌}
use Rattle.visits.proofs.visit.meets.Goals as goal

pub returns-in_default : goal.returns-in_default
returns-in_default c = λ n F S f k h b w. first_arrival c.args.pool.now n F _ _ f k h b S _ (c.in_default.ensures.read _ n F f k h b) w

pub returns-then-same : goal.returns-then-same
returns-then-same c =
    λ n F S f k h b w.
    let s = read_some c.args.pool.now _ _ (c.in-Some.ensures.read _ n F f k h b) in
    later_same c.args.pool.now n F _ _ f k h b S _ s (sym c.if-same.true ∙ c.same.ensures S s.shape f w s.shows)

pub returns : goal.returns
returns c =
    λ n F S f k h b w.
    let s = read_some c.args.pool.now _ _ (c.in-Some.ensures.read _ n F f k h b) in
    later_other c.args.pool.now n F _ _ f k h b S _ s (sym c.if-same.false ∙ c.same.ensures S s.shape f w s.shows)
