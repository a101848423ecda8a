-- `played` meets its contract.
use Rattle.loitsupar.proofs.Answered.{stands, ready}
use Rattle.turn_line.proofs.Turned.{as_line, refusal_line, fault_line_lem, run_line}
use Rattle.turn_line.proofs.played.Goals as goal

pub returns-in-Err : goal.returns-in-Err
returns-in-Err c = as_line (refusal_line _ _ _ _ c.in-Err.ensures) c.fault_line.ensures

pub returns-in-Err-passed : goal.returns-in-Err-passed
returns-in-Err-passed c =
    as_line (fault_line_lem _ _ _ c.in_default.ensures _ (λ M b h. rw c.in-Err-passed.is at (c.check-passed.ensures M _ b h)))
    c.fault_line-in-Err-passed.ensures

pub run-e-requires : goal.run-e-requires
run-e-requires c = ready (stands _ c.in_default.ensures) (λ i. (c.type_inv.code i).fits)

pub returns : goal.returns
returns c =
    as_line
    (run_line _ _ _ c.in_default.ensures (λ M b h. rw c.in_default-passed.is at (c.check-passed.ensures M _ b h)) (λ i. (c.type_inv.code i).fits) c.run-e.result c.run-e.ensures)
    (rw c.from-number.ensures at c.line.ensures)
