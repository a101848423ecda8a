use Rattle.std.proofs.Common.{sym, ap}
use Rattle.std.proofs.lemmas.Result.{err_from_is_err_and}
use Rattle.integers.specs.Answers.{answer}
use Rattle.operators.specs.Gives.{of_kind}
use Rattle.operators.proofs.operators.tagged.Goals as goal

pub returns-in_err-bits : goal.returns-in_err-bits
returns-in_err-bits c =
    let p = err_from_is_err_and c.from_residual.result c.from_residual.ensures.1 in
    rw (p.1, p.2) (sym (ap (λ o. of_kind c.args.kind (answer o)) c.in_err-bits.was))

pub returns : goal.returns
returns c = sym (ap (λ o. of_kind c.args.kind (answer o)) c.in_ok-bits.was)
