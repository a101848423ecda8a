-- What the instruction at the offset does, by the form of its opcode.
use Rattle.std.proofs.Common.{◌≡◌, ℕ, ◌+◌, ◌<◌, ◌≤◌, List, length, get_or, refl, ap, ◌∙◌, arith}
use mathlib.Core.Option.{Option, none, some}
use Rattle.model.specs.Answer.{Answer, bad, need, ◌>>=◌}
use Rattle.model.specs.Loading.{little}
use Rattle.model.specs.Code.{Ins, Jump, jump, target, Form, bare, short, long, double, near, far, instructions, form_of, Decoded, decode, size_of}
use Rattle.state.specs.declared.Stay.{Stay}
use Rattle.state.specs.View.{Work}
use Rattle.state.specs.Work.{Tables, Went, act_w, acts_w}
use Rattle.state.specs.Meets.{Meets}
use Rattle.code.proofs.Decoding.{rest, too_short, bare_at, short_at, long_at, double_at, near_at, far_at}
use Rattle.in_frame.proofs.Answers.{stops}

unfoldable by : Tables → ℕ → Stay → Work → Option Decoded → Answer ℕ Went
by P n y c o = need o 41 >>= λ d. act_w P n y c d.ins d.next

module _ (P : Tables) (part : List ℕ) (y : Stay) (c : Work) where
  acts : {d : Decoded} → decode part c.regs.at ≡ some d → acts_w P part y c ≡ act_w P (length part) y c d.ins d.next
  unfolding acts_w need ◌>>=◌ by
  acts e = ap (by P (length part) y c) e

  not_decoded : decode part c.regs.at ≡ none → acts_w P part y c ≡ bad 41
  unfolding acts_w need ◌>>=◌ by
  not_decoded e = ap (by P (length part) y c) e

  -- k is the opcode
  module _ {k : ℕ} (inside : c.regs.at < length part) (byte : get_or part c.regs.at 0 ≡ k) (few : k < 256) where
    a_byte : get_or part c.regs.at 0 < 256
    a_byte = omega arith

    form : {f : Form} → form_of instructions k ≡ some f → form_of instructions (get_or part c.regs.at 0) ≡ some f
    form e = ap (form_of instructions) byte ∙ e

    -- the bytes don't suffice
    pub acts_cut : {o : ℕ} (f : Form) → form_of instructions k ≡ some f → length part < c.regs.at + size_of f → Meets 41 o c c (acts_w P part y c)
    acts_cut f e h = stops refl refl (not_decoded (too_short part c.regs.at inside a_byte f (form e) h))

    pub acts_bare : (i : Ins) → form_of instructions k ≡ some (bare i) → acts_w P part y c ≡ act_w P (length part) y c i (c.regs.at + 1)
    acts_bare i e = acts (bare_at part c.regs.at inside a_byte i (form e))

    pub acts_short : (f : ℕ → Ins) → form_of instructions k ≡ some (short f) → c.regs.at + 2 ≤ length part
        → acts_w P part y c ≡ act_w P (length part) y c (f (little 1 (rest part c.regs.at))) (c.regs.at + 2)
    acts_short f e h = acts (short_at part c.regs.at inside a_byte f (form e) h)

    pub acts_long : (f : ℕ → Ins) → form_of instructions k ≡ some (long f) → c.regs.at + 5 ≤ length part
        → acts_w P part y c ≡ act_w P (length part) y c (f (little 4 (rest part c.regs.at))) (c.regs.at + 5)
    acts_long f e h = acts (long_at part c.regs.at inside a_byte f (form e) h)

    pub acts_double : (f : ℕ → Ins) → form_of instructions k ≡ some (double f) → c.regs.at + 9 ≤ length part
        → acts_w P part y c ≡ act_w P (length part) y c (f (little 8 (rest part c.regs.at))) (c.regs.at + 9)
    acts_double f e h = acts (double_at part c.regs.at inside a_byte f (form e) h)

    pub acts_near : (j : Jump) → form_of instructions k ≡ some (near j) → c.regs.at + 2 ≤ length part
        → acts_w P part y c ≡ act_w P (length part) y c (jump j (target 0x100 (c.regs.at + 2) (little 1 (rest part c.regs.at)))) (c.regs.at + 2)
    acts_near j e h = acts (near_at part c.regs.at inside a_byte j (form e) h)

    pub acts_far : (j : Jump) → form_of instructions k ≡ some (far j) → c.regs.at + 5 ≤ length part
        → acts_w P part y c ≡ act_w P (length part) y c (jump j (target 0x100000000 (c.regs.at + 5) (little 4 (rest part c.regs.at)))) (c.regs.at + 5)
    acts_far j e h = acts (far_at part c.regs.at inside a_byte j (form e) h)
