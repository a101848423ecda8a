-- `checking::check` meets its contract.
use Rattle.loitsupar.proofs.Answered.{refused, stands, not_checked, checks, is_checked}
use Rattle.loitsupar.proofs.checking.check.Goals as goal

pub returns-in-Ok : goal.returns-in-Ok
returns-in-Ok c = is_checked _ _ _ (checks (stands _ c.in-Ok.ensures) _ (λ M b h. c.check.ensures M _ b h))

pub returns-in-Err : goal.returns-in-Err
returns-in-Err c = not_checked (refused _ _ c.in-Err.ensures)
