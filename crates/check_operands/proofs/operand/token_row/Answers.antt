use Rattle.std.proofs.Common.{arith, ◌≤◌, ◌<◌, min}
use Rattle.check_operands.proofs.Operands.{token_none, token_zero, token_past, token_here}
use Rattle.check_operands.proofs.operand.token_row.Goals as goal

pub returns-in_err-r-clause-as_model : goal.returns-in_err-r-clause-as_model
returns-in_err-r-clause-as_model c = λ l. rw c.from_residual.ensures (token_none _ _ c.in_err-r.ensures)

pub returns-then-r-eq0-clause-as_model : goal.returns-then-r-eq0-clause-as_model
returns-then-r-eq0-clause-as_model c = λ l. token_zero _ _ _ c.in_ok-r.ensures c.if-r-eq0.true

pub returns-then-min-r-clause-as_model : goal.returns-then-min-r-clause-as_model
returns-then-min-r-clause-as_model c = λ l.
    let k : min c.args.n c.args.most < c.in_ok-r.r = rw (← c.min.ensures) c.if-min-r.true in token_past _ _ _ c.in_ok-r.ensures (omega arith)

pub returns-clause-result_at_most : goal.returns-clause-result_at_most
returns-clause-result_at_most c =
    let k : c.in_ok-r.r ≤ min c.args.n c.args.most = rw (← c.min.ensures) c.if-min-r.false in omega arith

pub returns-clause-as_model : goal.returns-clause-as_model
returns-clause-as_model c = λ l.
    let k : c.in_ok-r.r ≤ min c.args.n c.args.most = rw (← c.min.ensures) c.if-min-r.false in
    token_here _ _ _ c.in_ok-r.ensures c.if-r-eq0.false (omega arith)
