-- Arguments and locals whose number stands in the byte after the opcode.
use Rattle.std.proofs.Common.{◌≡◌, ℕ, suc, ◌+◌, ◌<◌, ◌≤◌, List, length, get_or, drop, sym, refl, ap, ◌∙◌, arith}
use mathlib.Core.Option.{some}
use Rattle.model.specs.Answer.{pick}
use Rattle.model.specs.Loading.{little}
use Rattle.model.specs.Code.{Ins, ldarg, starg, ldloc, stloc, short, ◌is◌, op, un, const, branches, loads, operators, objects, instructions, form_of, size_of}
use Rattle.state.specs.declared.Stay.{Stay}
use Rattle.state.specs.View.{Work}
use Rattle.state.specs.Work.{Tables, ldarg_w, starg_w, ldloc_w, stloc_w, act_w, acts_w}
use Rattle.state.specs.Meets.{Meets}
use Rattle.in_frame.proofs.Acting.{acts_cut, acts_short}

-- the opcode k is followed by a byte
abbrev Short : ℕ → (ℕ → Ins) → Type 0
Short k f = (k < 256) × (form_of instructions k ≡ some (short f))

pub shorts : Short 0x0E ldarg × Short 0x10 starg × Short 0x11 ldloc × Short 0x13 stloc
unfolding pick ◌is◌ op un const branches loads operators objects instructions form_of
shorts = ((omega arith, refl), (omega arith, refl), (omega arith, refl), (omega arith, refl))

module _ (P : Tables) (part : List ℕ) (y : Stay) (c : Work) (inside : c.regs.at < length part) where
  module _ {k : ℕ} {f : ℕ → Ins} (s : Short k f) (e : get_or part c.regs.at 0 ≡ k) where
    pub short_cut : {o : ℕ} → length part < c.regs.at + 2 → Meets 41 o c c (acts_w P part y c)
    unfolding size_of
    short_cut h = acts_cut P part y c inside e s.0 (short f) s.1 h

    short_goes : {i : ℕ} → c.regs.at + 2 ≤ length part → i ≡ little 1 (drop (suc c.regs.at) part)
        → acts_w P part y c ≡ act_w P (length part) y c (f i) (c.regs.at + 2)
    short_goes h q = acts_short P part y c inside e s.0 f s.1 h ∙ ap (λ (n : ℕ). act_w P (length part) y c (f n) (c.regs.at + 2)) (sym q)

  module _ {i : ℕ} (h : c.regs.at + 2 ≤ length part) (q : i ≡ little 1 (drop (suc c.regs.at) part)) where
    pub ldarg_does : {variables : List ℕ} → get_or part c.regs.at 0 ≡ 0x0E → P.variables ≡ variables
        → acts_w P part y c ≡ ldarg_w variables y c i (c.regs.at + 2)
    unfolding act_w
    ldarg_does e v = short_goes shorts.0 e h q ∙ ap (λ (l : List ℕ). ldarg_w l y c i (c.regs.at + 2)) v

    pub ldloc_does : {variables : List ℕ} → get_or part c.regs.at 0 ≡ 0x11 → P.variables ≡ variables
        → acts_w P part y c ≡ ldloc_w variables y c i (c.regs.at + 2)
    unfolding act_w
    ldloc_does e v = short_goes shorts.2 e h q ∙ ap (λ (l : List ℕ). ldloc_w l y c i (c.regs.at + 2)) v

    pub starg_does : {methods ancestors : List ℕ} → get_or part c.regs.at 0 ≡ 0x10 → P.methods ≡ methods → P.ancestors ≡ ancestors
        → acts_w P part y c ≡ starg_w methods ancestors y c i (c.regs.at + 2)
    unfolding act_w
    starg_does {ancestors} e m a =
        short_goes shorts.1 e h q
        ∙ ap (λ (l : List ℕ). starg_w P.methods l y c i (c.regs.at + 2)) a
        ∙ ap (λ (l : List ℕ). starg_w l ancestors y c i (c.regs.at + 2)) m

    pub stloc_does : {methods ancestors : List ℕ} → get_or part c.regs.at 0 ≡ 0x13 → P.methods ≡ methods → P.ancestors ≡ ancestors
        → acts_w P part y c ≡ stloc_w methods ancestors y c i (c.regs.at + 2)
    unfolding act_w
    stloc_does {ancestors} e m a =
        short_goes shorts.3 e h q
        ∙ ap (λ (l : List ℕ). stloc_w P.methods l y c i (c.regs.at + 2)) a
        ∙ ap (λ (l : List ℕ). stloc_w l ancestors y c i (c.regs.at + 2)) m
