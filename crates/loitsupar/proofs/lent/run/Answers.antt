-- `lent::run` meets its contract.
use Rattle.runner.proofs.Answering.{all_zero}
use Rattle.loitsupar.proofs.Answered.{refused, stands, not_run, ready, runs}
use Rattle.loitsupar.proofs.lent.run.Goals as goal

pub run_lent-requires : goal.run_lent-requires
run_lent-requires c = record { loads = ready (stands _ c.in-Ok.ensures) (λ i. (c.type_inv.code i).fits); zeros = all_zero c.clear.ensures }

pub returns-in-Ok : goal.returns-in-Ok
returns-in-Ok c = runs (stands _ c.in-Ok.ensures) (λ i. (c.type_inv.code i).fits) _ _ _ c.run_lent.ensures

pub returns-in-Err : goal.returns-in-Err
returns-in-Err c = not_run (refused _ _ c.in-Err.ensures) _ _ _ (rw c.clear.ensures c.refused.ensures)
