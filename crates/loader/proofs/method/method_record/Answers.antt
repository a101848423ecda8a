-- `loader::method::method_record` meets its contract.
use native.Mathlib.Omega.{arith}
use mathlib.Core.Path.{ap}
use Rattle.std.proofs.lemmas.Result.{err_from_is_err_and}
use Rattle.loaded.specs.declared.Counts.{Counts}
use Rattle.loader.specs.Stands.{counts_of}
use Rattle.loader.proofs.Open.{refuse, method_open}
use Rattle.loader.proofs.MethodRecord.{method_goes, method_taken}
use Rattle.loader.proofs.method.method_record.Goals as goal

pub returns-in_err-method_allowed : goal.returns-in_err-method_allowed
unfolding counts_of
returns-in_err-method_allowed c = λ buffer L ec S. let p = err_from_is_err_and c.from_residual.result c.from_residual.ensures.1 in
    rw (p.1, p.2) (refuse _ _ _ _ _ c.in_err-method_allowed.ensures (method_goes buffer L _ _ S _ _ _ _
    (c.override_fits-over.ensures.override_rule L (ap (λ (n : Counts). n.methods) S.counted) S.classes S.methods.cell) (c.sort_fits-fits.ensures L S.methods.initialiser) _ ec))

pub this_byte-this-requires : goal.this_byte-this-requires
this_byte-this-requires c = omega (arith, (method_open _ _ _ _ _ _ _ _ _ _ c.in_ok-method_allowed.ensures).0, c.requires.classes)

pub root_of-root-requires : goal.root_of-root-requires
root_of-root-requires c = let w = method_open _ _ _ _ _ _ _ _ _ _ c.in_ok-method_allowed.ensures in let v = c.override_fits-over.ensures.earlier w.2 in record { row_at_most = omega (arith, w.1); overridden_at_most = omega (arith, w.1) }

pub fill_row-requires : goal.fill_row-requires
fill_row-requires c = omega (arith, (method_open _ _ _ _ _ _ _ _ _ _ c.in_ok-method_allowed.ensures).1)

pub fill_part-requires : goal.fill_part-requires
fill_part-requires c = omega (arith, (method_open _ _ _ _ _ _ _ _ _ _ c.in_ok-method_allowed.ensures).1)

pub bounds-notes-row : goal.bounds-notes-row
bounds-notes-row c = omega (arith, (method_open _ _ _ _ _ _ _ _ _ _ c.in_ok-method_allowed.ensures).1)

pub mark_initialiser-requires : goal.mark_initialiser-requires
mark_initialiser-requires c = let w = method_open _ _ _ _ _ _ _ _ _ _ c.in_ok-method_allowed.ensures in record { row_at_most = omega (arith, w.1); owner_at_most = omega (arith, w.0, c.requires.classes) }

pub returns : goal.returns
unfolding counts_of
returns c = λ buffer L ec S.
    method_taken buffer L _ _ S _ _ _ _ (c.override_fits-over.ensures.override_rule L (ap (λ (n : Counts). n.methods) S.counted) S.classes S.methods.cell) (c.sort_fits-fits.ensures L S.methods.initialiser)
    _ ec c.in_ok-method_allowed.ensures _ _ c.this_byte-this.ensures c.root_of-root.ensures _ _ _ c.mark_initialiser.ensures c.fill_row.ensures c.fill_part.ensures
