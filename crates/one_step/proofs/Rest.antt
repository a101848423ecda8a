-- What a step promises by the arm of its opcode: operators, casts and fields.
use Prim.Native.Nat.{ℕ, ◌+◌, ◌<◌}
use mathlib.Core.Path.{◌≡◌, refl, subst, ◌∙◌}
use mathlib.Core.List.{List}
use lib.ListN.{get_or}
use Rattle.model.specs.Code as code
use Rattle.model.specs.Code.{plain, binary, unary, op, un}
use Rattle.state.specs.declared.Stay.{Stay}
use Rattle.state.specs.declared.Step.{Step}
use Rattle.state.specs.View.{Work}
use Rattle.state.specs.Work.{Tables, with_statics, with_heap, binary_w, unary_w, plain_w, act_w, acts_w}
use Rattle.state.specs.Meets.{on_stack}
use Rattle.state.specs.Steps.{Own, ComesTo}
use Rattle.in_frame.specs.Tries.{Reads}
use Rattle.in_frame.proofs.Answers.{instead}
use Rattle.in_frame.proofs.Acting.{acts_bare}
use Rattle.fields.specs.Members.{on_member, LendsFields}
use Rattle.one_step.proofs.Forms.{Binary, Unary}
use Rattle.one_step.proofs.Promised.{Promised, carried, lends_fields}

few : {part : List ℕ} {at b k : ℕ} → Reads at part b → b ≡ k → k < 256
few r e = subst (λ (n : ℕ). n < 256) e r.few

-- the opcode is k
module _ {part cells kinds marks classes heap statics methods variables fields initialisers ancestors : List ℕ} {class_count field_count : ℕ} {y : Stay}
    {at sp b k : ℕ}
    (x : Step) (r : Reads at part b) (e : b ≡ k) where
  -- operators
  pub two_operands : {cells' kinds' : List ℕ} (o : code.Binary) → Binary k o
      → Own y sp x × ((c : Work) → ComesTo x (on_stack c at sp cells' kinds') (on_stack c at sp cells kinds)
      (binary_w y (on_stack c at sp cells kinds) o (at + 1)))
      → Promised part cells kinds marks classes heap statics methods variables fields initialisers ancestors class_count field_count y at sp x cells' kinds' marks heap statics
  unfolding op act_w plain_w
  two_operands o q w =
      carried w.0 (λ P c l.
      instead (acts_bare P part y (on_member c at sp cells kinds marks classes heap statics) r.inside (r.byte ∙ e) (few r e) (plain (binary o)) q)
      (w.1 (on_member c at sp cells kinds marks classes heap statics)))

  pub one_operand : {cells' kinds' : List ℕ} (o : code.Unary) → Unary k o
      → Own y sp x × ((c : Work) → ComesTo x (on_stack c at sp cells' kinds') (on_stack c at sp cells kinds)
      (unary_w y (on_stack c at sp cells kinds) o (at + 1)))
      → Promised part cells kinds marks classes heap statics methods variables fields initialisers ancestors class_count field_count y at sp x cells' kinds' marks heap statics
  unfolding un act_w plain_w
  one_operand o q w =
      carried w.0 (λ P c l.
      instead (acts_bare P part y (on_member c at sp cells kinds marks classes heap statics) r.inside (r.byte ∙ e) (few r e) (plain (unary o)) q)
      (w.1 (on_member c at sp cells kinds marks classes heap statics)))

  pub comparing : {cells' kinds' : List ℕ}
      → Own y sp x × ((P : Tables) (c : Work) → get_or part at 0 ≡ k → ComesTo x (on_stack c at sp cells' kinds')
      (on_stack c at sp cells kinds) (acts_w P part y (on_stack c at sp cells kinds)))
      → Promised part cells kinds marks classes heap statics methods variables fields initialisers ancestors class_count field_count y at sp x cells' kinds' marks heap statics
  comparing w = carried w.0 (λ P c l. w.1 P (on_member c at sp cells kinds marks classes heap statics) (r.byte ∙ e))

  -- casts
  pub casting : {cells' : List ℕ}
      → Own y sp x × ((P : Tables) (c : Work) → P.class_count ≡ class_count → P.ancestors ≡ ancestors → c.classes ≡ classes → ComesTo x (on_stack c at sp cells' kinds) (on_stack c at sp cells kinds) (acts_w P part y (on_stack c at sp cells kinds)))
      → Promised part cells kinds marks classes heap statics methods variables fields initialisers ancestors class_count field_count y at sp x cells' kinds marks heap statics
  casting w =
      carried w.0 (λ P c l. w.1 P (on_member c at sp cells kinds marks classes heap statics) l.same_classes l.same_ancestors refl)

  -- fields
  pub of_object : {cells' kinds' marks' heap' : List ℕ}
      → Own y sp x × ((P : Tables) (c : Work) → LendsFields P field_count fields initialisers ancestors → ComesTo x (on_member c at sp cells' kinds' marks' classes heap' c.statics)
      (on_member c at sp cells kinds marks classes heap c.statics) (acts_w P part y (on_member c at sp cells kinds marks classes heap c.statics)))
      → Promised part cells kinds marks classes heap statics methods variables fields initialisers ancestors class_count field_count y at sp x cells' kinds' marks' heap' statics
  of_object w = carried w.0 (λ P c l. w.1 P (with_statics c statics) (lends_fields l))

  pub of_class : {cells' kinds' marks' statics' : List ℕ}
      → Own y sp x × ((P : Tables) (c : Work) → LendsFields P field_count fields initialisers ancestors → ComesTo x (on_member c at sp cells' kinds' marks' classes c.heap statics')
      (on_member c at sp cells kinds marks classes c.heap statics) (acts_w P part y (on_member c at sp cells kinds marks classes c.heap statics)))
      → Promised part cells kinds marks classes heap statics methods variables fields initialisers ancestors class_count field_count y at sp x cells' kinds' marks' heap statics'
  of_class w = carried w.0 (λ P c l. w.1 P (with_heap c classes heap) (lends_fields l))
