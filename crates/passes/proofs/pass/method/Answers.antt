use Rattle.std.proofs.lemmas.Result.{err_from_is_err_and}
use Rattle.passes.proofs.Loops.{nothing_kept, method_undecoded, method_decoded, method_told, method_passes, decoding_read}
use mathlib.Core.Path.{◌∙◌}
use Rattle.passes.proofs.pass.method.Goals as goal

pub returns-in_err-scan : goal.returns-in_err-scan
returns-in_err-scan c =
    λ M m g H e l R.
    let p = err_from_is_err_and c.from_residual.result c.from_residual.ensures.1 in
    rw (p.1, p.2) (method_undecoded M m _ _ _ e c.in_err-scan.ensures, λ z. absurd (cc))

pub pass-requires-clause-reading : goal.pass-requires-clause-reading
pass-requires-clause-reading c = decoding_read _ _ (method_decoded _ _ c.in_ok-scan.ensures)

pub returns : goal.returns
returns c =
    λ M m g H e l R.
    let cf = c.clear.ensures.found_cleared in
    let d = method_decoded c.args.code.now c.scan.new.starts c.in_ok-scan.ensures in
    let p = c.pass.ensures M m d.sites g H e d.marks d.is (rw c.clear.ensures.made R.fine) (nothing_kept _ _ _ (cf.size ∙ R.found_size) cf.zeros) in
    (method_told M m _ d.sites e d.is _ p.0, λ z. method_passes M m _ d.sites e d.is _ _ _ (p.1 z))
