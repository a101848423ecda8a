-- `telling::tell` meets its contract.
use Rattle.std.proofs.lemmas.Result.{err_from_is_err_and}
use Rattle.loitsupar.proofs.Answered.{refused, stands, not_checked, checks, is_checked, not_told, tells}
use Rattle.loitsupar.proofs.telling.tell.Goals as goal

pub returns-in_err-load_into : goal.returns-in_err-load_into
returns-in_err-load_into c =
    let p = err_from_is_err_and c.from_residual.result c.from_residual.ensures.1 in
    rw (p.1, p.2) (not_told _ _ _ (not_checked (refused _ _ c.in_err-load_into.ensures)) _ _)

pub returns-in_err-check : goal.returns-in_err-check
returns-in_err-check c =
    let p = err_from_is_err_and c.from_residual-in_err-check.result c.from_residual-in_err-check.ensures.1 in
    rw (p.1, p.2) (not_told _ _ _ (is_checked _ _ _ (checks (stands _ c.in_ok-load_into.ensures) _ (λ M b h. c.in_err-check.ensures M _ b h))) _ _)

pub returns : goal.returns
returns c =
    let s = stands _ c.in_ok-load_into.ensures in
    tells _ _ s (checks s _ (λ M b h. c.in_ok-check.ensures M _ b h)) _ _ _ (λ M found b h q. c.tell.ensures M _ found b h q)
