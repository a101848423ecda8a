-- `loader::read_into` meets its contract.
use native.Mathlib.Omega.{arith}
use mathlib.Core.Path.{sym, ◌∙◌}
use Rattle.std.proofs.lemmas.Result.{err_from_is_err_and}
use Rattle.loader.proofs.Ends.{ends_long, ends_record, few_methods, low_methods, ends_open, ends_differing, ends_loaded}
use Rattle.loader.proofs.read_into.Goals as goal

pub returns-then-too_long : goal.returns-then-too_long
returns-then-too_long c = ends_long c.args.tables.now c.args.code.now (sym c.if-too_long.true ∙ c.too_long.ensures) _ c.at.ensures _

pub returns-in_err-read_records : goal.returns-in_err-read_records
returns-in_err-read_records c = let p = err_from_is_err_and c.from_residual.result c.from_residual.ensures.1 in
    rw (p.1, p.2) (ends_record c.args.tables.now c.args.code.now (sym c.if-too_long.false ∙ c.too_long.ensures) _ _ c.in_err-read_records.ensures _)

pub returns-then-not-ended : goal.returns-then-not-ended
returns-then-not-ended c = ends_open c.args.tables.now c.args.code.now (sym c.if-too_long.false ∙ c.too_long.ensures) _ _ _ c.in_ok-read_records.ensures (sym c.ended.ensures ∙ c.if-not-ended.true) _ c.at-then-not-ended.ensures _

pub first_differing-requires : goal.first_differing-requires
first_differing-requires c = record { n_at_most = few_methods c.args.tables.now c.args.code.now (sym c.if-too_long.false ∙ c.too_long.ensures) _ _ _ c.in_ok-read_records.ensures; earlier = low_methods c.args.tables.now c.args.code.now (sym c.if-too_long.false ∙ c.too_long.ensures) _ _ _ c.in_ok-read_records.ensures }

pub offset_bounds-notes-row : goal.offset_bounds-notes-row
offset_bounds-notes-row c = omega (arith, c.in-Some.ensures.result_at_most, few_methods c.args.tables.now c.args.code.now (sym c.if-too_long.false ∙ c.too_long.ensures) _ _ _ c.in_ok-read_records.ensures)

pub bounds-notes-row : goal.bounds-notes-row
bounds-notes-row c = omega (arith, c.in-Some.ensures.result_at_most, few_methods c.args.tables.now c.args.code.now (sym c.if-too_long.false ∙ c.too_long.ensures) _ _ _ c.in_ok-read_records.ensures)

pub returns-in-Some : goal.returns-in-Some
returns-in-Some c = ends_differing c.args.tables.now c.args.code.now (sym c.if-too_long.false ∙ c.too_long.ensures) _ _ _ c.in_ok-read_records.ensures (sym c.ended.ensures ∙ c.if-not-ended.false) _ c.in-Some.ensures.result_at_most.0 c.in-Some.ensures.as_model _ c.at-in-Some.ensures _

pub returns-in-None : goal.returns-in-None
returns-in-None c = ends_loaded c.args.tables.now c.args.code.now (sym c.if-too_long.false ∙ c.too_long.ensures) _ _ _ c.in_ok-read_records.ensures (sym c.ended.ensures ∙ c.if-not-ended.false) c.in-None.ensures.as_model _
