use Rattle.std.proofs.Common.{◌≡◌, ℕ, ap, ◌∙◌}
use Rattle.loaded.specs.Holds.{method_cell}
use Rattle.check_operands.proofs.Operands.{sorted, same_row}
use Rattle.check_operands.proofs.operand.method_row.Goals as goal

pub returns-clause-as_model : goal.returns-clause-as_model
returns-clause-as_model c = λ r s l q e.
    let z : r ≡ c.in_ok-r.r = same_row _ _ _ (c.in_ok-r.ensures.as_model l) q in
    rw c.then_some.ensures (sorted _ _ _ _ _ (c.in_ok-r.ensures.as_model l) q
    (c.may_call.ensures s (e ∙ ap (λ (k : ℕ). method_cell c.args.methods.now k 24) z)))
