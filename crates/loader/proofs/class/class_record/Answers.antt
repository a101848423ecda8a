-- `loader::class::class_record` meets its contract.
use native.Mathlib.Omega.{arith}
use Rattle.std.proofs.lemmas.Result.{err_from_is_err_and}
use Rattle.loader.proofs.Open.{refuse, accept, class_open}
use Rattle.loader.proofs.Classes.{class_goes}
use Rattle.loader.proofs.class.class_record.Goals as goal

pub returns-in_err-class_allowed : goal.returns-in_err-class_allowed
returns-in_err-class_allowed c = λ code L S. let p = err_from_is_err_and c.from_residual.result c.from_residual.ensures.1 in
    rw (p.1, p.2) (refuse _ _ _ _ _ c.in_err-class_allowed.ensures (class_goes code L _ _ _ S))

pub overflow_add-row : goal.overflow_add-row
overflow_add-row c = omega (arith, class_open _ _ _ c.in_ok-class_allowed.ensures)

pub bounds-loaded-row : goal.bounds-loaded-row
bounds-loaded-row c = omega (arith, class_open _ _ _ c.in_ok-class_allowed.ensures)

pub returns : goal.returns
returns c = λ code L S. accept _ _ _ c.in_ok-class_allowed.ensures (class_goes code L _ _ _ S)
