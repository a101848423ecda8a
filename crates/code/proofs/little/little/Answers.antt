use native.Mathlib.Omega.{arith}
use native.Mathlib.Nat.{pow-le-pow_right}
use mathlib.Core.Path.{ap, ◌∙◌}
use Prim.Native.Nat.{ℕ, ◌^◌, ◌≤◌}
use Rattle.model.specs.Loading.{little}
use Rattle.code.proofs.Bytes.{missing}
use Rattle.code.proofs.little.little.Goals as goal

pub returns : goal.returns
returns g c =
    let most : 256 ^ c.min.result ≤ 256 ^ g.row.N = pow-le-pow_right (omega arith) (omega (arith, c.min.ensures)) in
    record {
      value = c.number.ensures.value ∙ ap (λ (n : ℕ). little n c.args.part.now) c.min.ensures ∙ missing g.row.N c.args.part.now;
      below = omega (arith, c.number.ensures.below, most);
    }
