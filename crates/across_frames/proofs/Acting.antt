-- What the instructions that change the frame do, by the byte at the running frame's offset and by the token after it.
use Prim.Native.Nat.{ℕ, suc, ◌+◌, ◌≤◌, ◌<◌}
use native.Mathlib.Omega.{arith}
use native.Mathlib.Numerals.{add-one}
use mathlib.Core.Path.{◌≡◌, refl, sym, ap, ◌∙◌}
use mathlib.Core.Bool.{Bool, true, false, not}
use mathlib.Core.Option.{Option, none, some}
use mathlib.Core.List.{List}
use lib.ListN.{length, get_or, drop}
use lib.Dec.{leb, eqb}
use borrow.Author.Tests.{lt-ltb, le-ltb, leb-true, leb-false, eq-eqb, ne_eqb, not-true, not-false}
use Rattle.model.specs.Answer.{Answer, bad, ◌>>=◌, guard, need, pick}
use Rattle.model.specs.Loading.{little}
use Rattle.model.specs.Code.{Ins, plain, ret, call, callvirt, newobj, bare, long, ◌is◌, op, un, const, branches, loads, operators, objects, instructions, form_of, Decoded, decode, size_of}
use Rattle.code.proofs.Decoding.{too_short, bare_at, long_at}
use Rattle.state.specs.declared.Stay.{Stay}
use Rattle.state.specs.View.{Work}
use Rattle.state.specs.Work.{Tables, Went, is_token, row_of_token, is_method, ret_w, plain_w, act_w, acts_w}
use Rattle.state.specs.Meets.{Names}
use Rattle.across_frames.specs.declared.calls.Way.{Way}
use Rattle.across_frames.specs.declared.calls.Way.TheVariants.{Call, Callvirt}
use Rattle.across_frames.specs.Lent.{Lends, opcode_of, named_sort, named_row, named_w, newobj_w}

-- ---- The opcodes

-- newobj, else callvirt, else call
unfoldable pub ins_by : Bool → Bool → ℕ → Ins
ins_by true by = newobj
ins_by false true = callvirt
ins_by false false = call

-- the instruction that calls
abbrev pub way_of : Bool → Way
way_of true = Callvirt
way_of false = Call

-- the instruction of a number that is not ret's
abbrev pub ins_of : ℕ → ℕ → Ins
ins_of next = ins_by (eqb next 6) (eqb next 5)

pub way_virtual : {next : ℕ} {way : Way} → next ≡ 5 → way ≡ Callvirt → way ≡ way_of (eqb next 5)
way_virtual e q = rw (eq-eqb _ _ e) q

pub way_plain : {next : ℕ} {way : Way} → (next ≡ 5 → ⊥) → way ≡ Call → way ≡ way_of (eqb next 5)
way_plain n q = rw (ne_eqb _ _ n) q

form_ret : form_of instructions 0x2A ≡ some (bare (plain ret))
unfolding form_of instructions loads operators objects branches ◌is◌ op un const pick
form_ret = refl

record Token (b : ℕ) (f : ℕ → Ins) : Type 0 where
  few : b < 256
  form : form_of instructions b ≡ some (long f)

tokens : (new by : Bool) → Token (pick new 0x73 (pick by 0x6F 0x28)) (ins_by new by)
unfolding ins_by form_of instructions loads operators objects branches ◌is◌ op un const pick
tokens true by = record { few = omega arith; form = refl }
tokens false true = record { few = omega arith; form = refl }
tokens false false = record { few = omega arith; form = refl }

token_of : (next : ℕ) → (next ≡ 3 → ⊥) → Token (opcode_of next) (ins_of next)
unfolding opcode_of pick
token_of next h = rw (ne_eqb _ _ h) (tokens (eqb next 6) (eqb next 5))

-- ---- The instruction is there whole, or it can't be decoded

unfoldable by : Tables → ℕ → Stay → Work → Option Decoded → Answer ℕ Went
by P n y c o = need o 41 >>= λ d. act_w P n y c d.ins d.next

module _ (P : Tables) (part : List ℕ) (y : Stay) (c : Work) where
  acts : {d : Decoded} → decode part c.regs.at ≡ some d → acts_w P part y c ≡ act_w P (length part) y c d.ins d.next
  unfolding acts_w need ◌>>=◌ by
  acts e = ap (by P (length part) y c) e

  not_decoded : decode part c.regs.at ≡ none → acts_w P part y c ≡ bad 41
  unfolding acts_w need ◌>>=◌ by
  not_decoded e = ap (by P (length part) y c) e

  module _ {next : ℕ} (inside : c.regs.at < length part) (e : get_or part c.regs.at 0 ≡ opcode_of next) where
    pub acts_ret : next ≡ 3 → {count : ℕ} {methods initialisers ancestors chosen : List ℕ} → Lends P count methods initialisers ancestors chosen → acts_w P part y c ≡ ret_w methods ancestors y c
    unfolding opcode_of pick act_w plain_w
    acts_ret h q =
        let o : get_or part c.regs.at 0 ≡ 0x2A = e ∙ simp (eq-eqb _ _ h) in
        rw (← q.same_methods, ← q.same_ancestors) (acts (bare_at part c.regs.at inside (rw o (omega arith)) (plain ret) (ap (form_of instructions) o ∙ form_ret)))

    module _ (other : next ≡ 3 → ⊥) {w : Bool} (h : w ≡ leb (c.regs.at + 5) (length part)) where
      pub no_token : not w ≡ true → acts_w P part y c ≡ bad 41
      unfolding size_of
      no_token t = not_decoded (too_short part c.regs.at inside (rw e (token_of next other).few) (long (ins_of next)) (ap (form_of instructions) e ∙ (token_of next other).form) (leb-false (c.regs.at + 5) (length part) (sym h ∙ not-true w t)))

      -- t is the token
      pub by_token : not w ≡ false → {t : ℕ} → t ≡ little 4 (drop (suc c.regs.at) part) → acts_w P part y c ≡ act_w P (length part) y c (ins_of next t) (c.regs.at + 5)
      by_token l four =
          acts (long_at part c.regs.at inside (rw e (token_of next other).few) (ins_of next) (ap (form_of instructions) e ∙ (token_of next other).form) (leb-true (c.regs.at + 5) (length part) (sym h ∙ not-false w l)))
          ∙ ap (λ (x : ℕ). act_w P (length part) y c (ins_of next x) (c.regs.at + 5)) (sym four)

-- ---- The method that the token names

module _ (P : Tables) (m : ℕ) (y : Stay) (c : Work) (o : ℕ) {t n count : ℕ} {methods initialisers ancestors chosen : List ℕ} (q : Lends P count methods initialisers ancestors chosen) (k : Names 6 t n) (few : count ≤ 128) where
  absent : count ≤ n → is_token 6 count t ≡ false
  absent h = sym (k.tests count (omega arith)) ∙ le-ltb _ _ h

  pub none_named : (new by : Bool) → count ≤ n → act_w P m y c (ins_by new by t) o ≡ bad 42
  unfolding act_w ins_by is_method guard ◌>>=◌
  none_named true by h = simp (q.same_count, absent h)
  none_named false true h = simp (q.same_count, absent h)
  none_named false false h = simp (q.same_count, absent h)

  module _ (h : n < count) where
    present : is_token 6 count t ≡ true
    present = sym (k.tests count (omega arith)) ∙ lt-ltb _ _ h

    row_is : row_of_token t ≡ n + 1
    row_is = sym (k.row_is count (omega arith) h) ∙ sym (add-one n)

    new_by : (by : Bool) → act_w P m y c (ins_by true by t) o ≡ newobj_w methods initialisers ancestors y c (n + 1)
    unfolding act_w ins_by is_method newobj_w
    new_by by = simp (q.same_count, q.same_methods, q.same_initialisers, q.same_ancestors, present, row_is)

    call_by : (by : Bool) → act_w P m y c (ins_by false by t) o ≡ named_w (way_of by) methods initialisers ancestors chosen y c (n + 1)
    unfolding act_w ins_by is_method named_w named_sort named_row
    call_by true = simp (q.same_count, q.same_methods, q.same_initialisers, q.same_ancestors, q.same_chosen, present, row_is)
    call_by false = simp (q.same_count, q.same_methods, q.same_initialisers, q.same_ancestors, present, row_is)

    pub new_named : (next : ℕ) → next ≡ 6 → act_w P m y c (ins_of next t) o ≡ newobj_w methods initialisers ancestors y c (n + 1)
    new_named next e = rw (eq-eqb _ _ e) (new_by (eqb next 5))

    pub call_named : (next : ℕ) → (next ≡ 6 → ⊥) → {way : Way} → way ≡ way_of (eqb next 5) → act_w P m y c (ins_of next t) o ≡ named_w way methods initialisers ancestors chosen y c (n + 1)
    call_named next e q = rw (q, ne_eqb _ _ e) (call_by (eqb next 5))
