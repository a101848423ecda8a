-- FE, and a byte that says which: what the instruction at the offset does.
use Prim.Native.Nat.{ℕ, suc, ◌+◌, ◌≤◌, ◌<◌}
use mathlib.Core.Path.{◌≡◌, refl, sym, ap, ◌∙◌}
use mathlib.Core.Option.{Option, none}
use mathlib.Core.List.{List, [], ◌∷◌}
use native.Mathlib.Omega.{arith}
use lib.ListN.{length, get_or, drop}
use borrow.Author.Tests.{ne_eqb}
use Rattle.model.specs.Answer.{Answer, need, ◌>>=◌, pick, map_option}
use Rattle.model.specs.Loading.{little}
use Rattle.model.specs.Code.{Binary, Form, second, ◌is◌, op, after_fE, form_of, Decoded, decode, size_of}
use Rattle.state.specs.declared.Stay.{Stay}
use Rattle.state.specs.View.{Work}
use Rattle.state.specs.Work.{Tables, Went, binary_w, plain_w, act_w, acts_w}
use Rattle.state.specs.Meets.{Meets}
use Rattle.code.specs.Insn.{with_operand, meant}
use Rattle.code.proofs.Forms.{form_FE}
use Rattle.code.proofs.Decoding.{after_FE}
use Rattle.in_frame.specs.Tries.{Others}
use Rattle.in_frame.proofs.Answers.{stops}
use Rattle.in_frame.proofs.Acting.{acts_cut}
use Rattle.operator_steps.proofs.Opcodes.{After}

-- ---- By what is decoded

unfoldable pub by : Tables → ℕ → Stay → Work → Option Decoded → Answer ℕ Went
by P n y c o = need o 41 >>= λ d. act_w P n y c d.ins d.next

pub acts_by : (P : Tables) (part : List ℕ) (y : Stay) (c : Work) {o : Option Decoded} → decode part c.regs.at ≡ o → acts_w P part y c ≡ by P
    (length part) y c o
unfolding acts_w by
acts_by P part y c e = ap (by P (length part) y c) e

-- ---- The byte after FE

not_after : (x : ℕ) → Others (5 ∷ 4 ∷ 3 ∷ 2 ∷ 1 ∷ []) x → form_of after_fE x ≡ none
unfolding form_of after_fE pick ◌is◌ op
not_after x n =
    simp (
      ne_eqb 1 x (λ e. n.0.0.0.0.1 (sym e)),
      ne_eqb 2 x (λ e. n.0.0.0.1 (sym e)),
      ne_eqb 3 x (λ e. n.0.0.1 (sym e)),
      ne_eqb 4 x
          (λ e. n.0.1 (sym e)),
      ne_eqb 5 x (λ e. n.1 (sym e)),
    )

module _ (P : Tables) (part : List ℕ) (y : Stay) (c : Work) (inside : c.regs.at < length part) (e : get_or part c.regs.at 0 ≡ 0xFE) where
  pub second_cut : {o : ℕ} → length part < c.regs.at + 2 → Meets 41 o c c (acts_w P part y c)
  unfolding size_of
  second_cut h = acts_cut P part y c inside e (omega arith) second form_FE h

  module _ (h : c.regs.at + 2 ≤ length part) {x : ℕ} (q : x ≡ little 1 (drop (suc c.regs.at) part)) where
    -- the form that x names
    after : {F : Option Form} → form_of after_fE x ≡ F → decode part c.regs.at ≡ map_option (meant 0 (c.regs.at + 2)) F
    after f =
        after_FE part c.regs.at inside e h
        ∙ (ap (λ (m : ℕ). map_option (meant 0 (c.regs.at + 2)) (form_of after_fE m)) (sym q) ∙ ap (map_option (meant 0 (c.regs.at + 2))) f)

    pub second_none : {o : ℕ} → Others (5 ∷ 4 ∷ 3 ∷ 2 ∷ 1 ∷ []) x → Meets 41 o c c (acts_w P part y c)
    unfolding by need ◌>>=◌ map_option
    second_none n = stops refl refl (acts_by P part y c (after (not_after x n)))

    pub second_does : (k : ℕ) (o : Binary) → After k o → x ≡ k → acts_w P part y c ≡ binary_w y c o (c.regs.at + 2)
    unfolding by need ◌>>=◌ map_option meant with_operand op act_w plain_w
    second_does k o f z = acts_by P part y c (after (ap (form_of after_fE) z ∙ f))
