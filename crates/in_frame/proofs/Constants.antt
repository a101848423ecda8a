-- The constants with an operand: what the instruction at the offset does, by its opcode.
use Rattle.std.proofs.Common.{◌≡◌, ℕ, suc, ◌+◌, ◌<◌, ◌≤◌, List, length, get_or, drop, sym, refl, ap, ◌∙◌, arith, w8, w32, to_z, of_z}
use mathlib.Core.Option.{some}
use lib.Ieee.{binary64, of_bits, to_bits}
use Rattle.model.specs.Answer.{pick}
use Rattle.model.specs.Loading.{little}
use Rattle.model.specs.Operators.{kind, kind_number}
use Rattle.model.specs.State.{value, bits_in}
use Rattle.model.specs.Code.{short, long, double, i4_s, i4, i8, r8, ◌is◌, op, un, const, branches, loads, operators, objects, instructions, form_of, size_of}
use Rattle.state.specs.declared.Stay.{Stay}
use Rattle.state.specs.View.{Work, kind_of_type}
use Rattle.state.specs.Work.{Tables, push_w, plain_w, act_w, acts_w}
use Rattle.state.specs.Meets.{Meets}
use Rattle.in_frame.proofs.Acting.{acts_cut, acts_short, acts_long, acts_double}

-- the forms of their opcodes
form_i4_s : form_of instructions 0x1F ≡ some (short i4_s)
unfolding pick ◌is◌ op un const branches loads operators objects instructions form_of
form_i4_s = refl

form_i4 : form_of instructions 0x20 ≡ some (long i4)
unfolding pick ◌is◌ op un const branches loads operators objects instructions form_of
form_i4 = refl

form_i8 : form_of instructions 0x21 ≡ some (double i8)
unfolding pick ◌is◌ op un const branches loads operators objects instructions form_of
form_i8 = refl

form_r8 : form_of instructions 0x23 ≡ some (double r8)
unfolding pick ◌is◌ op un const branches loads operators objects instructions form_of
form_r8 = refl

module _ (P : Tables) (part : List ℕ) (y : Stay) (c : Work) (inside : c.regs.at < length part) where
  pub i4_s_cut : {o : ℕ} → get_or part c.regs.at 0 ≡ 0x1F → length part < c.regs.at + 2 → Meets 41 o c c (acts_w P part y c)
  unfolding size_of
  i4_s_cut e h = acts_cut P part y c inside e (omega arith) (short i4_s) form_i4_s h

  pub i4_cut : {o : ℕ} → get_or part c.regs.at 0 ≡ 0x20 → length part < c.regs.at + 5 → Meets 41 o c c (acts_w P part y c)
  unfolding size_of
  i4_cut e h = acts_cut P part y c inside e (omega arith) (long i4) form_i4 h

  pub i8_cut : {o : ℕ} → get_or part c.regs.at 0 ≡ 0x21 → length part < c.regs.at + 9 → Meets 41 o c c (acts_w P part y c)
  unfolding size_of
  i8_cut e h = acts_cut P part y c inside e (omega arith) (double i8) form_i8 h

  pub r8_cut : {o : ℕ} → get_or part c.regs.at 0 ≡ 0x23 → length part < c.regs.at + 9 → Meets 41 o c c (acts_w P part y c)
  unfolding size_of
  r8_cut e h = acts_cut P part y c inside e (omega arith) (double r8) form_r8 h

  pub i4_s_does : get_or part c.regs.at 0 ≡ 0x1F → c.regs.at + 2 ≤ length part
      → {x v : ℕ} → x ≡ little 1 (drop (suc c.regs.at) part) → v ≡ of_z w32 (to_z w8 x)
      → acts_w P part y c ≡ push_w y c 1 v (c.regs.at + 2)
  unfolding act_w plain_w value bits_in kind kind_number kind_of_type i4_s
  i4_s_does e h p q =
      acts_short P part y c inside e (omega arith) i4_s form_i4_s h
      ∙ ap (λ (n : ℕ). push_w y c 1 n (c.regs.at + 2)) (sym (q ∙ ap (λ (n : ℕ). of_z w32 (to_z w8 n)) p))

  pub i4_does : get_or part c.regs.at 0 ≡ 0x20 → c.regs.at + 5 ≤ length part → {v : ℕ} → v ≡ little 4 (drop (suc c.regs.at) part)
      → acts_w P part y c ≡ push_w y c 1 v (c.regs.at + 5)
  unfolding act_w plain_w value bits_in kind kind_number kind_of_type i4
  i4_does e h p = acts_long P part y c inside e (omega arith) i4 form_i4 h ∙ ap (λ (n : ℕ). push_w y c 1 n (c.regs.at + 5)) (sym p)

  pub i8_does : get_or part c.regs.at 0 ≡ 0x21 → c.regs.at + 9 ≤ length part → {v : ℕ} → v ≡ little 8 (drop (suc c.regs.at) part)
      → acts_w P part y c ≡ push_w y c 2 v (c.regs.at + 9)
  unfolding act_w plain_w value bits_in kind kind_number kind_of_type i8
  i8_does e h p = acts_double P part y c inside e (omega arith) i8 form_i8 h ∙ ap (λ (n : ℕ). push_w y c 2 n (c.regs.at + 9)) (sym p)

  pub r8_does : get_or part c.regs.at 0 ≡ 0x23 → c.regs.at + 9 ≤ length part
      → {x v : ℕ} → x ≡ little 8 (drop (suc c.regs.at) part) → v ≡ to_bits binary64 (of_bits binary64 x)
      → acts_w P part y c ≡ push_w y c 3 v (c.regs.at + 9)
  unfolding act_w plain_w value bits_in kind kind_number kind_of_type r8
  r8_does e h p q =
      acts_double P part y c inside e (omega arith) r8 form_r8 h
      ∙ ap (λ (n : ℕ). push_w y c 3 n (c.regs.at + 9)) (sym (q ∙ ap (λ (n : ℕ). to_bits binary64 (of_bits binary64 n)) p))
