-- What an instruction with a token does, by what its token names.
use Prim.Native.Nat.{ℕ, ◌+◌, ◌%◌, ◌≤◌, ◌<◌}
use mathlib.Core.Path.{◌≡◌, refl, ◌∙◌}
use mathlib.Core.Bool.{Bool, true, false}
use mathlib.Core.Option.{some}
use mathlib.Core.List.{List}
use native.Mathlib.Omega.{arith}
use lib.ListN.{length, get_or}
use Rattle.std.specs.Prelude.{Result, Ok, Err}
use Rattle.model.specs.Answer.{Answer, ◌>>=◌, guard, pick}
use Rattle.model.specs.Code.{Ins, ldfld, stfld, ldsfld, stsfld, castclass, isinst, long, ◌is◌, op, un, const, branches, loads, operators, objects, instructions, form_of, size_of}
use Rattle.state.specs.declared.Stay.{Stay}
use Rattle.state.specs.View.{Work}
use Rattle.state.specs.Work.{Tables, Went, is_token, is_field, ldfld_row, stfld_row, ldsfld_row, stsfld_row, cast_w, act_w, acts_w}
use Rattle.state.specs.Meets.{Meets}
use Rattle.state.specs.declared.ending.Ending.{Ending}
use Rattle.state.specs.declared.ending.Ending.TheVariants.{Undecodable, BadOperand}
use Rattle.state.specs.Steps.{number}
use Rattle.in_frame.proofs.Answers.{stops}
use Rattle.in_frame.proofs.Acting.{acts_cut, acts_long}
use Rattle.fields.specs.Named.{token_at, Names, cut, wrong, right, NamesField, NamesRow}
use Rattle.fields.specs.Members.{Reaches, LendsFields}
use Rattle.fields.proofs.Casting.{missed, cast_row}

-- f is the instruction of the opcode k, by its token
module _ (P : Tables) (part : List ℕ) (y : Stay) (c : Work) {k : ℕ} (f : ℕ → Ins) (few : k < 256) (form : form_of instructions k ≡ some (long f))
    (inside : c.regs.at < length part) (byte : get_or part c.regs.at 0 ≡ k) where
  -- names is the test of the token, and by what follows it, by the row
  module _ (names : ℕ → Bool) (by : ℕ → ℕ → Answer ℕ Went)
      (acts : (t next : ℕ) → act_w P (length part) y c (f t) next ≡ (guard (names t) 42 >>= λ _. by (t % 0x1000000) next)) {x : Result ℕ Ending} where
    refuses : {e : Ending} {o : ℕ} → Names part c.regs.at (names (token_at part c.regs.at)) x → x ≡ Err e → Meets (number e) o c c (acts_w P part y c)
    unfolding guard ◌>>=◌ size_of
    refuses {e} (cut p h) z = let same : e ≡ Undecodable = cc in rw same (acts_cut P part y c inside byte few (long f) form h)
    refuses {e} (wrong p h w) z =
        let same : e ≡ BadOperand = cc in
        rw same (stops refl refl (acts_long P part y c inside byte few f form h ∙ (acts (token_at part c.regs.at) (c.regs.at + 5) ∙ rw w refl)))
    refuses (right p h w q) z = cc

    does : {r : ℕ} → Names part c.regs.at (names (token_at part c.regs.at)) x → x ≡ Ok r → acts_w P part y c ≡ by r (c.regs.at + 5)
    unfolding guard ◌>>=◌
    does (cut p h) z = cc
    does (wrong p h w) z = cc
    does {r} (right {r = k} p h w q) z =
        let same : k ≡ r = cc in
        acts_long P part y c inside byte few f form h ∙ (acts (token_at part c.regs.at) (c.regs.at + 5) ∙ rw (w, ← q, same) refl)

-- ---- The forms of the opcodes

castclass_form : form_of instructions 0x74 ≡ some (long castclass)
unfolding pick ◌is◌ op un const branches loads operators objects instructions form_of
castclass_form = refl

isinst_form : form_of instructions 0x75 ≡ some (long isinst)
unfolding pick ◌is◌ op un const branches loads operators objects instructions form_of
isinst_form = refl

ldfld_form : form_of instructions 0x7B ≡ some (long ldfld)
unfolding pick ◌is◌ op un const branches loads operators objects instructions form_of
ldfld_form = refl

stfld_form : form_of instructions 0x7D ≡ some (long stfld)
unfolding pick ◌is◌ op un const branches loads operators objects instructions form_of
stfld_form = refl

ldsfld_form : form_of instructions 0x7E ≡ some (long ldsfld)
unfolding pick ◌is◌ op un const branches loads operators objects instructions form_of
ldsfld_form = refl

stsfld_form : form_of instructions 0x80 ≡ some (long stsfld)
unfolding pick ◌is◌ op un const branches loads operators objects instructions form_of
stsfld_form = refl

-- ---- Fields

-- what is asked of registers and tables stays so at a row that is there
pub reaches : {y : Stay} {sp at r q : ℕ} {fields initialisers : List ℕ} → Reaches y sp at q fields initialisers → r ≤ 128
    → Reaches y sp at r fields initialisers
reaches p h =
    record { stays = p.stays; topped = p.topped; at_few = p.at_few; row_few = h; ranges = p.ranges; initialiser_few = p.initialiser_few }

module _ (P : Tables) (part : List ℕ) (y : Stay) (c : Work) {count : ℕ} {fields initialisers ancestors : List ℕ}
    (l : LendsFields P count fields initialisers ancestors)
    (inside : c.regs.at < length part) where
  acts_ldfld : (t next : ℕ) → act_w P (length part) y c (ldfld t) next
      ≡ (guard (is_field count fields 0 t) 42 >>= λ _. ldfld_row fields initialisers ancestors y c (t % 0x1000000) next)
  unfolding act_w
  acts_ldfld t next = rw (l.same_count, l.same_fields, l.same_initialisers, l.same_ancestors) refl

  acts_stfld : (t next : ℕ) → act_w P (length part) y c (stfld t) next
      ≡ (guard (is_field count fields 0 t) 42 >>= λ _. stfld_row fields initialisers ancestors y c (t % 0x1000000) next)
  unfolding act_w
  acts_stfld t next = rw (l.same_count, l.same_fields, l.same_initialisers, l.same_ancestors) refl

  acts_ldsfld : (t next : ℕ) → act_w P (length part) y c (ldsfld t) next
      ≡ (guard (is_field count fields 1 t) 42 >>= λ _. ldsfld_row fields initialisers y c (t % 0x1000000) next)
  unfolding act_w
  acts_ldsfld t next = rw (l.same_count, l.same_fields, l.same_initialisers) refl

  acts_stsfld : (t next : ℕ) → act_w P (length part) y c (stsfld t) next
      ≡ (guard (is_field count fields 1 t) 42 >>= λ _. stsfld_row fields initialisers ancestors y c (t % 0x1000000) next)
  unfolding act_w
  acts_stsfld t next = rw (l.same_count, l.same_fields, l.same_initialisers, l.same_ancestors) refl

  -- stfld, or ldfld
  pub stfld_refused : {x : Result ℕ Ending} {e : Ending} → get_or part c.regs.at 0 ≡ 0x7D → NamesField part c.regs.at fields count 0 x
      → {o : ℕ} → x ≡ Err e → Meets (number e) o c c (acts_w P part y c)
  stfld_refused b m z =
      refuses P part y c stfld (omega arith) stfld_form inside b (is_field count fields 0) (stfld_row fields initialisers ancestors y c) acts_stfld m.row z

  pub ldfld_refused : {x : Result ℕ Ending} {e : Ending} → get_or part c.regs.at 0 ≡ 0x7B → NamesField part c.regs.at fields count 0 x
      → {o : ℕ} → x ≡ Err e → Meets (number e) o c c (acts_w P part y c)
  ldfld_refused b m z =
      refuses P part y c ldfld (omega arith) ldfld_form inside b (is_field count fields 0) (ldfld_row fields initialisers ancestors y c) acts_ldfld m.row z

  module _ {x : Result ℕ Ending} {r : ℕ} (m : NamesField part c.regs.at fields count 0 x) (z : x ≡ Ok r) where
    pub ldfld_does : get_or part c.regs.at 0 ≡ 0x7B → acts_w P part y c ≡ ldfld_row fields initialisers ancestors y c r (c.regs.at + 5)
    ldfld_does byte =
        does P part y c ldfld (omega arith) ldfld_form inside byte (is_field count fields 0) (ldfld_row fields initialisers ancestors y c) acts_ldfld m.row z

    pub stfld_does : get_or part c.regs.at 0 ≡ 0x7D → acts_w P part y c ≡ stfld_row fields initialisers ancestors y c r (c.regs.at + 5)
    stfld_does byte =
        does P part y c stfld (omega arith) stfld_form inside byte (is_field count fields 0) (stfld_row fields initialisers ancestors y c) acts_stfld m.row z

  -- stsfld, or ldsfld
  pub stsfld_refused : {x : Result ℕ Ending} {e : Ending} → get_or part c.regs.at 0 ≡ 0x80 → NamesField part c.regs.at fields count 1 x
      → {o : ℕ} → x ≡ Err e → Meets (number e) o c c (acts_w P part y c)
  stsfld_refused b m z =
      refuses P part y c stsfld (omega arith) stsfld_form inside b (is_field count fields 1) (stsfld_row fields initialisers ancestors y c) acts_stsfld m.row z

  pub ldsfld_refused : {x : Result ℕ Ending} {e : Ending} → get_or part c.regs.at 0 ≡ 0x7E → NamesField part c.regs.at fields count 1 x
      → {o : ℕ} → x ≡ Err e → Meets (number e) o c c (acts_w P part y c)
  ldsfld_refused b m z =
      refuses P part y c ldsfld (omega arith) ldsfld_form inside b (is_field count fields 1) (ldsfld_row fields initialisers y c) acts_ldsfld m.row z

  module _ {x : Result ℕ Ending} {r : ℕ} (m : NamesField part c.regs.at fields count 1 x) (z : x ≡ Ok r) where
    pub ldsfld_does : get_or part c.regs.at 0 ≡ 0x7E → acts_w P part y c ≡ ldsfld_row fields initialisers y c r (c.regs.at + 5)
    ldsfld_does byte =
        does P part y c ldsfld (omega arith) ldsfld_form inside byte (is_field count fields 1) (ldsfld_row fields initialisers y c) acts_ldsfld m.row z

    pub stsfld_does : get_or part c.regs.at 0 ≡ 0x80 → acts_w P part y c ≡ stsfld_row fields initialisers ancestors y c r (c.regs.at + 5)
    stsfld_does byte =
        does P part y c stsfld (omega arith) stsfld_form inside byte (is_field count fields 1) (stsfld_row fields initialisers ancestors y c) acts_stsfld m.row z

-- ---- Casts

abbrev cast_ins : Bool → ℕ → Ins
cast_ins true t = isinst t
cast_ins false t = castclass t

module _ (P : Tables) (part : List ℕ) (y : Stay) (c : Work) {count : ℕ} {ancestors : List ℕ} (same_count : P.class_count ≡ count)
    (same_ancestors : P.ancestors ≡ ancestors)
    (inside : c.regs.at < length part) where
  acts_cast : (b : Bool) (t next : ℕ) → act_w P (length part) y c (cast_ins b t) next
      ≡ (guard (is_token 2 count t) 42 >>= λ _. cast_row ancestors y c b (t % 0x1000000) next)
  unfolding act_w cast_w cast_row missed
  acts_cast true t next = rw (same_count, same_ancestors) refl
  acts_cast false t next = rw (same_count, same_ancestors) refl

  pub cast_refused : {x : Result ℕ Ending} {e : Ending} (b : Bool) → get_or part c.regs.at 0 ≡ pick b 0x75 0x74 → NamesRow part c.regs.at 2 count x → {o : ℕ} → x ≡ Err e
      → Meets (number e) o c c (acts_w P part y c)
  unfolding pick
  cast_refused true e m z = refuses P part y c isinst (omega arith) isinst_form inside e (is_token 2 count) (cast_row ancestors y c true) (acts_cast true)
      m.row z
  cast_refused false e m z = refuses P part y c castclass (omega arith) castclass_form inside e (is_token 2 count) (cast_row ancestors y c false)
      (acts_cast false) m.row z

  pub cast_does : {x : Result ℕ Ending} {r : ℕ} (b : Bool) → get_or part c.regs.at 0 ≡ pick b 0x75 0x74 → NamesRow part c.regs.at 2 count x → x ≡ Ok r → acts_w P part y c
      ≡ cast_row ancestors y c b r (c.regs.at + 5)
  unfolding pick
  cast_does true e m z = does P part y c isinst (omega arith) isinst_form inside e (is_token 2 count) (cast_row ancestors y c true) (acts_cast true) m.row z
  cast_does false e m z = does P part y c castclass (omega arith) castclass_form inside e (is_token 2 count) (cast_row ancestors y c false) (acts_cast false)
      m.row z
