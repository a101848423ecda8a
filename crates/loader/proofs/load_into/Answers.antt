-- `loader::load_into` meets its contract.
use Rattle.loader.proofs.Ends.{answers_refused, answers_loaded}
use Rattle.loader.proofs.load_into.Goals as goal

pub returns-in-Ok : goal.returns-in-Ok
returns-in-Ok c = answers_loaded _ _ _ _ c.in-Ok.ensures _ _ _ (λ M h. h)

pub returns-in-Err : goal.returns-in-Err
returns-in-Err c = answers_refused _ _ _ _ c.in-Err.ensures _ _ c.clear-in-Err.ensures
