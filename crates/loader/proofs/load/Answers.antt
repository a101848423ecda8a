-- `loader::load` meets its contract.
use Rattle.std.proofs.lemmas.Result.{err_from_is_err_and}
use Rattle.loader.proofs.Ends.{answers_refused, answers_loaded}
use Rattle.loader.proofs.load.Goals as goal

pub returns-in_err-read_into : goal.returns-in_err-read_into
returns-in_err-read_into c = let p = err_from_is_err_and c.from_residual.result c.from_residual.ensures.1 in rw (p.1, p.2) (answers_refused _ _ _ _ c.in_err-read_into.ensures _ _ tt)

pub returns : goal.returns
returns c = answers_loaded _ _ _ _ c.in_ok-read_into.ensures _ _ _ (λ M h. h)
