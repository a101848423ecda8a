use Rattle.std.proofs.Common.{◌≡◌, refl, sym, ◌∙◌, true, false}
use Rattle.std.proofs.Math.Option.{none}
use Rattle.model.specs.Check.{effect, pushes, pops_one}
use Rattle.model.specs.Code.{operands, Act}
use Rattle.model.specs.Operators.{flag}
use Rattle.check_operands.specs.Groups.{field_by}
use Rattle.check_operands.proofs.Operands.{lacks, has, field_lacks, field_has, field_low, field_high, field_29, field_30, field_31, field_32, owner_byte}
use Rattle.check_operands.proofs.step.fields_of.Goals as goal

pub returns-in_default-clause-operand : goal.returns-in_default-clause-operand
unfolding flag effect
returns-in_default-clause-operand c = λ M m e p H l f S w.
    lacks _ (λ a. effect M m a S) (operands M m (field_by c.args.g c.args.token)) (field_low (λ o. o ≡ none) M m _ _ l c.if-g-lt-LDSFLD.true
    (field_lacks M _ c.args.fields.now H false Act.ldfld c.args.token _ (c.field_row.ensures.as_model H.few) c.in_default.is)
    (field_lacks M _ c.args.fields.now H false Act.stfld c.args.token _ (c.field_row.ensures.as_model H.few) c.in_default.is)) f

pub returns-then-g-eq-LDFLD-clause-operand : goal.returns-then-g-eq-LDFLD-clause-operand
unfolding flag effect
returns-then-g-eq-LDFLD-clause-operand c = λ M m e p H l f S w.
    let k = field_has M _ c.args.fields.now H false Act.ldfld c.args.token _ (c.field_row.ensures.as_model H.few) _ c.in-Some.is in
    has _ _ _ (λ a. effect M m a S) (operands M m (field_by c.args.g c.args.token)) (Act.ldfld c.in-Some.r k.field) (effect M m (Act.ldfld 0 k.field) S)
    (field_29 M m _ _ c.if-g-eq-LDFLD.true ∙ k.found) refl
    (c.ldfld.ensures.effect M m k.field p (owner_byte _ _ _ (H.owner _ k.field k.is) (H.low _ k.field k.is) c.class_byte-owner.ensures) (sym (H.type _ k.field k.is)) f S w)

pub returns-then-g-lt-LDSFLD-clause-operand : goal.returns-then-g-lt-LDSFLD-clause-operand
unfolding flag effect
returns-then-g-lt-LDSFLD-clause-operand c = λ M m e p H l f S w.
    let k = field_has M _ c.args.fields.now H false Act.stfld c.args.token _ (c.field_row.ensures.as_model H.few) _ c.in-Some.is in
    has _ _ _ (λ a. effect M m a S) (operands M m (field_by c.args.g c.args.token)) (Act.stfld c.in-Some.r k.field) (effect M m (Act.stfld 0 k.field) S)
    (field_30 M m _ _ c.if-g-eq-LDFLD.false l c.if-g-lt-LDSFLD.true ∙ k.found) refl
    (c.stfld.ensures.effect M m k.field p (owner_byte _ _ _ (H.owner _ k.field k.is) (H.low _ k.field k.is) c.class_byte-owner.ensures) (sym (H.type _ k.field k.is)) f S w)

pub returns-in_default-field_row-clause-operand : goal.returns-in_default-field_row-clause-operand
unfolding flag effect
returns-in_default-field_row-clause-operand c = λ M m e p H l f S w.
    lacks _ (λ a. effect M m a S) (operands M m (field_by c.args.g c.args.token)) (field_high (λ o. o ≡ none) M m _ _ c.if-g-lt-LDSFLD.false
    (field_lacks M _ c.args.fields.now H true Act.ldsfld c.args.token _ (c.field_row-2.ensures.as_model H.few) c.in_default-field_row.is)
    (field_lacks M _ c.args.fields.now H true Act.stsfld c.args.token _ (c.field_row-2.ensures.as_model H.few) c.in_default-field_row.is)) f

pub returns-then-g-eq-LDSFLD-clause-operand : goal.returns-then-g-eq-LDSFLD-clause-operand
unfolding flag effect
returns-then-g-eq-LDSFLD-clause-operand c = λ M m e p H l f S w.
    let k = field_has M _ c.args.fields.now H true Act.ldsfld c.args.token _ (c.field_row-2.ensures.as_model H.few) _ c.in-Some-field_row.is in
    has _ _ _ (λ a. effect M m a S) (operands M m (field_by c.args.g c.args.token)) (Act.ldsfld c.in-Some-field_row.r k.field) (pushes m k.field.type S)
    (field_31 M m _ _ c.if-g-eq-LDSFLD.true ∙ k.found) refl (c.push.ensures.effect m k.field.type e (sym (H.type _ k.field k.is)) f S w)

pub returns-clause-operand : goal.returns-clause-operand
unfolding flag effect
returns-clause-operand c = λ M m e p H l f S w.
    let k = field_has M _ c.args.fields.now H true Act.stsfld c.args.token _ (c.field_row-2.ensures.as_model H.few) _ c.in-Some-field_row.is in
    has _ _ _ (λ a. effect M m a S) (operands M m (field_by c.args.g c.args.token)) (Act.stsfld c.in-Some-field_row.r k.field) (pops_one M k.field.type S)
    (field_32 M m _ _ c.if-g-lt-LDSFLD.false c.if-g-eq-LDSFLD.false ∙ k.found) refl
    (c.store.ensures.effect M k.field.type p (sym (H.type _ k.field k.is)) f S w)
