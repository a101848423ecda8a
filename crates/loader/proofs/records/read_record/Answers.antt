-- `loader::records::read_record` meets its contract.
use Rattle.std.proofs.Common.{ap}
use Rattle.std.proofs.lemmas.Result.{err_from_is_err_and}
use Rattle.std.proofs.Common.{ℕ, ◌+◌}
use Rattle.loader.proofs.Reading.{passes_cut, passes_bad, passes_ok}
use Rattle.loader.proofs.records.read_record.Goals as goal

pub returns-in_err-kind-clause-as_model : goal.returns-in_err-kind-clause-as_model
returns-in_err-kind-clause-as_model c = λ buffer L ec S. let p = err_from_is_err_and c.from_residual.result c.from_residual.ensures.1 in
    rw (p.1, p.2) (passes_cut c.args.tables.now buffer c.args.at L c.requires.at_inside _ c.in_err-kind.ensures.0 c.in_err-kind.ensures.1 _ _)

pub returns-in_err-one_record-clause-as_model : goal.returns-in_err-one_record-clause-as_model
returns-in_err-one_record-clause-as_model c = λ buffer L ec S. let p = err_from_is_err_and c.from_residual-in_err-one_record.result c.from_residual-in_err-one_record.ensures.1 in
    rw (p.1, p.2) (passes_bad c.args.tables.now buffer c.args.at L _ c.in_ok-kind.ensures.0 c.in_ok-kind.ensures.1 _ _ _ (c.in_err-one_record.ensures buffer L ec S))

pub returns-clause-as_model : goal.returns-clause-as_model
returns-clause-as_model c = λ buffer L ec S. passes_ok c.args.tables.now buffer c.args.at L _ c.in_ok-kind.ensures.0 c.in_ok-kind.ensures.1 _ _ _ (c.in_ok-one_record.ensures buffer L ec S) _
    (ap (λ (n : ℕ). c.args.at + n + 1) c.size.ensures)
