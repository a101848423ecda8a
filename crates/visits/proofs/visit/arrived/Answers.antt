use Rattle.visits.proofs.Visiting.{marked, step_failed, step_returned, step_onward}
use Rattle.std.proofs.lemmas.Result.{err_from_is_err_and}
use Rattle.visits.proofs.visit.arrived.Goals as goal

pub returns-in_err-s : goal.returns-in_err-s
returns-in_err-s c =
    λ M m all F o z e h f k t.
    let p = err_from_is_err_and c.from_residual.result c.from_residual.ensures.1 in
    rw (p.1, p.2) (step_failed M m all F o c.args.i c.args.size _ _ _ _ e h z f t _ c.in_err-s.was)

pub returns-then-g-eq-RET : goal.returns-then-g-eq-RET
returns-then-g-eq-RET c =
    λ M m all F o z e h f k t. step_returned M m all F o c.args.i c.args.size _ _ _ _ e h z f t _ c.in_ok-s.was c.if-g-eq-RET.true k

pub returns : goal.returns
returns c =
    λ M m all F o z e h f k t.
    step_onward M m all F o c.args.i c.args.size _ _ _ _ e h z f t _ c.in_ok-s.was _ c.if-g-eq-RET.false (λ S w. c.onward.ensures (marked F o) S f k w)
