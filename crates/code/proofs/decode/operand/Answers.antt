-- `operand` meets its contract: just its bytes.
use mathlib.Core.Path.{◌≡◌, sym, ap, ◌∙◌}
use Prim.Native.Nat.{ℕ, ◌-◌}
use native.Mathlib.Omega.{arith}
use Rattle.model.specs.Loading.{little}
use Rattle.code.proofs.Forms.{nine}
use Rattle.code.proofs.decode.operand.Goals as goal

pub returns-then-size-lt2 : goal.returns-then-size-lt2
unfolding little
returns-then-size-lt2 c =
    let none : c.args.size - 1 ≡ 0 = omega arith in
    sym (ap (λ (n : ℕ). little n c.args.rest.now) none)

pub first-requires-in_default : goal.first-requires-in_default
first-requires-in_default c =
    let e = nine c.requires.length c.if-size-lt2.false (λ e. omega (arith, e)) (λ e. omega (arith, e)) in
    record { few = omega arith; there = omega (arith, e) }

pub returns-in_default : goal.returns-in_default
returns-in_default c =
    let e = nine c.requires.length c.if-size-lt2.false (λ e. omega (arith, e)) (λ e. omega (arith, e)) in
    c.first-in_default.ensures.value ∙ sym (ap (λ (n : ℕ). little (n - 1) c.args.rest.now) e)
