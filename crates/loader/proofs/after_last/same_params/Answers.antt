-- `loader::after_last::same_params` meets its contract.
use native.Mathlib.Omega.{arith}
use Rattle.std.proofs.Common.{◌≡◌, ℕ, ◌+◌, ◌*◌, ap, ◌∙◌, get_or}
use Rattle.loader.proofs.Search.{parts_same}
use Rattle.loader.proofs.after_last.same_params.Goals as goal

pub returns : goal.returns
returns c = λ l m e s p q.
    let at_column : (r k : ℕ) → r * 32 + 1 + k ≡ r * 32 + (1 + k) = λ r k. omega arith in
    c.eq.ensures
    ∙ parts_same c.args.methods.now 7 (c.args.a * 32 + 1) (c.args.b * 32 + 1) _ _ (omega arith) (omega arith) (omega arith) (omega arith) l m e s
    (λ k h. ap (λ (i : ℕ). get_or c.args.methods.now i 0) (at_column c.args.a k) ∙ p k h)
    (λ k h. ap (λ (i : ℕ). get_or c.args.methods.now i 0) (at_column c.args.b k) ∙ q k h)
