-- `loader::entry::entry_record` meets its contract.
use mathlib.Core.Path.{ap}
use Rattle.std.proofs.lemmas.Result.{err_from_is_err_and}
use Rattle.loaded.specs.declared.Counts.{Counts}
use Rattle.loader.specs.Stands.{counts_of}
use Rattle.loader.proofs.Open.{refuse, accept}
use Rattle.loader.proofs.Later.{entry_goes}
use Rattle.loader.proofs.entry.entry_record.Goals as goal

pub returns-in_err-entry_allowed : goal.returns-in_err-entry_allowed
unfolding counts_of
returns-in_err-entry_allowed c = λ code L S. let p = err_from_is_err_and c.from_residual.result c.from_residual.ensures.1 in
    rw (p.1, p.2) (refuse _ _ _ _ _ c.in_err-entry_allowed.ensures (entry_goes code L _ _ S _ _ (c.entry_fits-fits.ensures code L (ap (λ (n : Counts). n.methods) S.counted) S.methods.sound S.methods.cell)))

pub returns : goal.returns
unfolding counts_of
returns c = λ code L S. accept _ _ _ c.in_ok-entry_allowed.ensures (entry_goes code L _ _ S _ _ (c.entry_fits-fits.ensures code L (ap (λ (n : Counts). n.methods) S.counted) S.methods.sound S.methods.cell))
