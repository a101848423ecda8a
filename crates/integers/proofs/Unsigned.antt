-- Unsigned division and remainder: only a divisor of 0 is refused.
use Rattle.std.proofs.Common.{◌≡◌, ℕ, zero, suc, ◌<◌, not, eqb, eq-eqb, ne_eqb, refl, ap, ◌∙◌, subst, arith, Some, None}
use Rattle.std.specs.Prelude.{Option, Result}
use Rattle.std.specs.Option.{SomeIff, ok_or}
use Rattle.model.specs.Answer.{ok, guard, ◌>>=◌}
use Rattle.integers.specs.declared.Ends.{Ends}
use Rattle.integers.specs.declared.Ends.TheVariants.{DivisionByZero}
use Rattle.integers.specs.Answers.{answer}

settled : (f : ℕ → ℕ → ℕ) (a b : ℕ) (o : Option ℕ) → SomeIff o (0 < b) (f a b) → answer (ok_or o DivisionByZero) ≡ (guard (not (eqb b 0)) 31 >>= λ _. ok (f a b))
unfolding guard ◌>>=◌
settled f a b (Some n) s = let l = s.0 in simp (ne_eqb b 0 (λ e. omega arith)) (ap ok s.1)
settled f a b None s = simp (eq-eqb b 0 (none b s))
  where
    none : (b : ℕ) → (0 < b → ⊥) → b ≡ 0
    none zero n = refl
    none (suc b) n = absurd (n (omega arith))

pub unless_zero : (f : ℕ → ℕ → ℕ) {a b x y : ℕ} (o : Option ℕ) {r : Result ℕ Ends} → x ≡ a → y ≡ b → SomeIff o (0 < y) (f x y) → r ≡ ok_or o DivisionByZero
    → answer r ≡ (guard (not (eqb b 0)) 31 >>= λ _. ok (f a b))
unless_zero f {a} {b} {x} {y} o ex ey s e =
    ap answer e ∙ settled f a b o (subst (λ (j : ℕ). SomeIff o (0 < j) (f a j)) ey (subst (λ (i : ℕ). SomeIff o (0 < y) (f i y)) ex s))
