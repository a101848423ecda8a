-- `variable_record` meets its contract.
use native.Mathlib.Omega.{arith}
use Rattle.std.proofs.lemmas.Result.{err_from_is_err_and}
use Rattle.loader.proofs.Open.{variable_open}
use Rattle.loader.proofs.Later.{variable_refused, variable_taken, room}
use Rattle.loader.proofs.variable.variable_record.Goals as goal

pub returns-in_err-allowed : goal.returns-in_err-allowed
returns-in_err-allowed c = λ code L S. let p = err_from_is_err_and c.from_residual.result c.from_residual.ensures.1 in
    rw (p.1, p.2) (variable_refused code L _ _ S _ _ _ _ _ c.counted-counted.ensures c.in_err-allowed.ensures)

pub overflow_add-loaded : goal.overflow_add-loaded
overflow_add-loaded c = let w = room c.args.v _ (variable_open _ _ _ _ _ _ c.in_ok-allowed.ensures) in omega (arith, w.0)

pub bounds-loaded-base-4 : goal.bounds-loaded-base-4
bounds-loaded-base-4 c = let w = room c.args.v _ (variable_open _ _ _ _ _ _ c.in_ok-allowed.ensures) in omega (arith, w.1, c.column-column.ensures, c.requires.methods)

pub returns : goal.returns
returns c = λ code L S. variable_taken code L _ _ S _ _ _ _ _ c.counted-counted.ensures c.column-column.ensures c.kind.ensures c.in_ok-allowed.ensures
