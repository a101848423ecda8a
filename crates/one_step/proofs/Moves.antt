-- What a step promises by the arm of its opcode: constants and what else moves the stack's top, arguments and locals, branches.
use Prim.Native.Nat.{ℕ, ◌+◌, ◌<◌}
use mathlib.Core.Path.{◌≡◌, refl, sym, ap, subst, ◌∙◌}
use mathlib.Core.Option.{some}
use mathlib.Core.List.{List}
use lib.ListN.{length, get_or}
use Rattle.model.specs.Answer.{Answer}
use Rattle.model.specs.Tables.{int32, null}
use Rattle.model.specs.Operators.{kind, kind_number}
use Rattle.model.specs.State.{value, bits_in}
use Rattle.model.specs.Code.{Ins, plain, nop, pop, dup, ldc, ldarg, ldloc, stloc, Form, instructions, form_of}
use Rattle.state.specs.declared.Stay.{Stay}
use Rattle.state.specs.declared.Step.{Step}
use Rattle.state.specs.declared.Step.TheVariants.{On}
use Rattle.state.specs.View.{Work, kind_of_type}
use Rattle.state.specs.Work.{Tables, Went, with_regs, with_cells, moved_to, goto, push_w, pop_w, dup_w, ldarg_w, ldloc_w, stloc_w, plain_w, act_w, acts_w}
use Rattle.state.specs.Meets.{Topped, on_stack}
use Rattle.state.specs.Steps.{Own, ComesTo}
use Rattle.in_frame.specs.Tries.{Reads}
use Rattle.fields.specs.Members.{on_member}
use Rattle.in_frame.proofs.Answers.{goes, instead}
use Rattle.in_frame.proofs.Acting.{acts_bare}
use Rattle.one_step.proofs.Forms.{Bare}
use Rattle.one_step.proofs.Promised.{Promised, carried}

-- an instruction that is an opcode by itself
bared : {part : List ℕ} {b k : ℕ} (P : Tables) (y : Stay) (c : Work) (i : Ins) → Reads c.regs.at part b → b ≡ k → Bare k i
    → acts_w P part y c ≡ act_w P (length part) y c i (c.regs.at + 1)
bared {part} P y c i r e q = acts_bare P part y c r.inside (r.byte ∙ e) (subst (λ (n : ℕ). n < 256) e r.few) i q

-- ---- What is lent, where the running frame is, and the opcode b

module _ (cells kinds : List ℕ) (at sp : ℕ) where
  -- a step that comes to what is said
  abbrev Meeting : Step → List ℕ → List ℕ → Work → Answer ℕ Went → Type 0
  Meeting x cells' kinds' c said = ComesTo x (on_stack c at sp cells' kinds') (on_stack c at sp cells kinds) said

  -- whatever the rest of the work is
  abbrev Steps : Step → List ℕ → List ℕ → (Work → Answer ℕ Went) → Type 0
  Steps x cells' kinds' said = (c : Work) → Meeting x cells' kinds' c (said (on_stack c at sp cells kinds))

module _ (part cells kinds methods variables ancestors classes : List ℕ) (y : Stay) (at sp : ℕ) where
  abbrev Does : Step → List ℕ → List ℕ → Type 0
  Does x cells' kinds' =
      (P : Tables) (c : Work) → P.methods ≡ methods → P.variables ≡ variables → P.ancestors ≡ ancestors → c.classes ≡ classes
      → Meeting cells kinds at sp x cells' kinds' c (acts_w P part y (on_stack c at sp cells kinds))

-- the opcode is k
module _ {part cells kinds marks classes heap statics methods variables fields initialisers ancestors : List ℕ} {class_count field_count : ℕ} {y : Stay}
    {at sp b k : ℕ} (x : Step)
    {cells' kinds' : List ℕ} (r : Reads at part b) (e : b ≡ k) where
  own : Own y sp x → Does part cells kinds methods variables ancestors classes y at sp x cells' kinds'
      → Promised part cells kinds marks classes heap statics methods variables fields initialisers ancestors class_count field_count y at sp x cells' kinds' marks heap statics
  own o d =
      carried o (λ P c l. d P (on_member c at sp cells kinds marks classes heap statics) l.same_methods l.same_variables l.same_ancestors refl)

  -- an instruction with no operand, as it is said to be
  by_itself : (i : Ins) → Bare k i → {said : Work → Answer ℕ Went}
      → ((P : Tables) (c : Work) → P.methods ≡ methods → P.variables ≡ variables → P.ancestors ≡ ancestors
      → act_w P (length part) y c i (at + 1) ≡ said c)
      → Own y sp x × Steps cells kinds at sp x cells' kinds' said
      → Promised part cells kinds marks classes heap statics methods variables fields initialisers ancestors class_count field_count y at sp x cells' kinds' marks heap statics
  by_itself i q a w = own w.0 (λ P c m v s k. instead (bared P y (on_stack c at sp cells kinds) i r e q ∙ a P (on_stack c at sp cells kinds) m v s) (w.1 c))

  pub argument : (i : ℕ) → Bare k (ldarg i) → Own y sp x × Steps cells kinds at sp x cells' kinds' (λ c. ldarg_w variables y c i (at + 1))
      → Promised part cells kinds marks classes heap statics methods variables fields initialisers ancestors class_count field_count y at sp x cells' kinds' marks heap statics
  unfolding act_w
  argument i q w = by_itself (ldarg i) q (λ P c m v s. ap (λ (l : List ℕ). ldarg_w l y c i (at + 1)) v) w

  pub local : (i : ℕ) → Bare k (ldloc i) → Own y sp x × Steps cells kinds at sp x cells' kinds' (λ c. ldloc_w variables y c i (at + 1))
      → Promised part cells kinds marks classes heap statics methods variables fields initialisers ancestors class_count field_count y at sp x cells' kinds' marks heap statics
  unfolding act_w
  local i q w = by_itself (ldloc i) q (λ P c m v s. ap (λ (l : List ℕ). ldloc_w l y c i (at + 1)) v) w

  pub null_constant : Bare k (plain (ldc null 0)) → Own y sp x × Steps cells kinds at sp x cells' kinds' (λ c. push_w y c 0 0 (at + 1))
      → Promised part cells kinds marks classes heap statics methods variables fields initialisers ancestors class_count field_count y at sp x cells' kinds' marks heap statics
  unfolding act_w plain_w value bits_in kind kind_number kind_of_type
  null_constant q w = by_itself (plain (ldc null 0)) q (λ P c m v s. refl) w

  pub constant : (n : ℕ) → Bare k (plain (ldc int32 n)) → Own y sp x × Steps cells kinds at sp x cells' kinds' (λ c. push_w y c 1 n (at + 1))
      → Promised part cells kinds marks classes heap statics methods variables fields initialisers ancestors class_count field_count y at sp x cells' kinds' marks heap statics
  unfolding act_w plain_w value bits_in kind kind_number kind_of_type
  constant n q w = by_itself (plain (ldc int32 n)) q (λ P c m v s. refl) w

  pub doubled : Bare k (plain dup) → Own y sp x × Steps cells kinds at sp x cells' kinds' (λ c. dup_w y c (at + 1))
      → Promised part cells kinds marks classes heap statics methods variables fields initialisers ancestors class_count field_count y at sp x cells' kinds' marks heap statics
  unfolding act_w plain_w
  doubled q w = by_itself (plain dup) q (λ P c m v s. refl) w

  -- an operand stands after the opcode
  pub with_operand : Own y sp x
      × ((P : Tables) (c : Work) → get_or part at 0 ≡ k → Meeting cells kinds at sp x cells' kinds' c (acts_w P part y (on_stack c at sp cells kinds)))
      → Promised part cells kinds marks classes heap statics methods variables fields initialisers ancestors class_count field_count y at sp x cells' kinds' marks heap statics
  with_operand w = own w.0 (λ P c m v s k. w.1 P c (r.byte ∙ e))

  pub numbered : Own y sp x
      × ((P : Tables) (c : Work) → P.variables ≡ variables → get_or part at 0 ≡ k
      → Meeting cells kinds at sp x cells' kinds' c (acts_w P part y (on_stack c at sp cells kinds)))
      → Promised part cells kinds marks classes heap statics methods variables fields initialisers ancestors class_count field_count y at sp x cells' kinds' marks heap statics
  numbered w = own w.0 (λ P c m v s k. w.1 P c v (r.byte ∙ e))

-- the same where the kinds are as before
module _ {part cells kinds marks classes heap statics methods variables fields initialisers ancestors : List ℕ} {class_count field_count : ℕ} {y : Stay}
    {at sp b k : ℕ} (x : Step)
    {cells' : List ℕ} (r : Reads at part b) (e : b ≡ k) where
  pub stored : (i : ℕ) → Bare k (stloc i)
      → Own y sp x
      × ((c : Work) → c.classes ≡ classes → Meeting cells kinds at sp x cells' kinds c (stloc_w methods ancestors y (on_stack c at sp cells kinds) i (at + 1)))
      → Promised part cells kinds marks classes heap statics methods variables fields initialisers ancestors class_count field_count y at sp x cells' kinds marks heap statics
  unfolding act_w
  stored i q w =
      own x r e w.0 (λ P c m v s k.
      instead
      (bared P y (on_stack c at sp cells kinds) (stloc i) r e q
      ∙ ap (λ (l : List ℕ). stloc_w P.methods l y (on_stack c at sp cells kinds) i (at + 1)) s
      ∙ ap (λ (l : List ℕ). stloc_w l ancestors y (on_stack c at sp cells kinds) i (at + 1)) m)
      (w.1 c k))

  pub number_stored : Own y sp x
      × ((P : Tables) (c : Work) → P.methods ≡ methods → P.ancestors ≡ ancestors → c.classes ≡ classes → get_or part at 0 ≡ k
      → Meeting cells kinds at sp x cells' kinds c (acts_w P part y (on_stack c at sp cells kinds)))
      → Promised part cells kinds marks classes heap statics methods variables fields initialisers ancestors class_count field_count y at sp x cells' kinds marks heap statics
  number_stored w = own x r e w.0 (λ P c m v s k. w.1 P c m s k (r.byte ∙ e))

-- and where no array changes
module _ {part cells kinds marks classes heap statics methods variables fields initialisers ancestors : List ℕ} {class_count field_count : ℕ} {y : Stay}
    {at sp b k : ℕ} (x : Step) (r : Reads at part b)
    (e : b ≡ k) where
  pub popped : Bare k (plain pop)
      → Own y sp x
      × ((c : Work) → ComesTo x (with_regs c (moved_to c.regs at sp)) (with_regs c (moved_to c.regs at sp))
      (pop_w y (with_regs c (moved_to c.regs at sp)) (at + 1)))
      → Promised part cells kinds marks classes heap statics methods variables fields initialisers ancestors class_count field_count y at sp x cells kinds marks heap statics
  unfolding act_w plain_w
  popped q w = own x r e w.0 (λ P c m v s k. instead (bared P y (on_stack c at sp cells kinds) (plain pop) r e q) (w.1 (with_cells c cells kinds)))

  -- a branch, by the form f of its opcode
  pub branched : {f : Form} → form_of instructions k ≡ some f
      → Own y sp x
      × ((P : Tables) (c : Work) → get_or part at 0 < 256 → form_of instructions (get_or part at 0) ≡ some f
      → Meeting cells kinds at sp x cells kinds c (acts_w P part y (on_stack c at sp cells kinds)))
      → Promised part cells kinds marks classes heap statics methods variables fields initialisers ancestors class_count field_count y at sp x cells kinds marks heap statics
  branched q w =
      own x r e w.0 (λ P c m v s k. w.1 P c (subst (λ (n : ℕ). n < 256) (sym r.byte) r.few) (ap (form_of instructions) (r.byte ∙ e) ∙ q))

-- nothing changes but the offset
module _ {part cells kinds marks classes heap statics methods variables fields initialisers ancestors : List ℕ} {class_count field_count : ℕ} {y : Stay}
    {at sp b k : ℕ} (r : Reads at part b) (e : b ≡ k) where
  pub onward : Bare k (plain nop) → Topped y sp
      → Promised part cells kinds marks classes heap statics methods variables fields initialisers ancestors class_count field_count y at sp (On (at + 1) sp) cells kinds marks heap statics
  unfolding act_w plain_w goto
  onward q t =
      own (On (at + 1) sp) r e (record { stays = refl; ended = refl; topped = t }) (λ P c m v s k. goes (bared P y (on_stack c at sp cells kinds) (plain nop) r e q))
