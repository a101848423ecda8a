use Rattle.visits.proofs.Visiting.{branch_refused, quiet_refused}
use Rattle.check_operands.proofs.Operands.{ins_plain, ins_call, ins_cast, ins_field, above, method_none, class_none, field_none, field_low, field_high}
use Rattle.model.specs.Answer.{is_none}
use Rattle.model.specs.Code.{Ins, Act, operands}
use Rattle.model.specs.Operators.{flag}
use mathlib.Core.Bool.{true, false}
use mathlib.Core.Option.{Option}
use mathlib.Core.Path.{◌≡◌, sym, ap, ◌∙◌}
use Rattle.visits.proofs.instruction.refused.Goals as goal

pub returns-then-g-ge-BR : goal.returns-then-g-ge-BR
returns-then-g-ge-BR c =
    let start = c in
    let the-group = c.group-g in
    let the-if1 = c.if-g-ge-BR in
    λ M m all max parents gt H z st. branch_refused M m all start.args.i start.args.size _ _ _ (the-group.ensures gt) the-if1.true z
    (c.lands.ensures.lands all start.requires.size_at_most st) c.is_none.ensures

pub returns-then-g-lt-CALL : goal.returns-then-g-lt-CALL
returns-then-g-lt-CALL c =
    let start = c in
    let the-group = c.group-g in
    let the-if1 = c.if-g-ge-BR in
    let the-if2 = c.if-g-lt-CALL in
    λ M m all max parents gt H z st. quiet_refused M m all start.args.i _ _ (the-group.ensures gt) the-if1.false
    (c.undeclared.ensures M m max _ H.own ∙ sym (ap (λ (x : Ins). is_none (operands M m x)) (ins_plain _ _ _ _ the-if2.true)))

pub returns-then-g-lt-CASTS : goal.returns-then-g-lt-CASTS
returns-then-g-lt-CASTS c =
    let start = c in
    let the-group = c.group-g in
    let the-if1 = c.if-g-ge-BR in
    let the-if2 = c.if-g-lt-CALL in
    let the-if3 = c.if-g-lt-CASTS in
    λ M m all max parents gt H z st. quiet_refused M m all start.args.i _ _ (the-group.ensures gt) the-if1.false
    (method_none M m _ _ H.by_method _ _ _ (c.method_row.ensures.none H.by_method.few)
    (λ r s q. c.method_row.ensures.as_model r s H.by_method.few q) _ c.is_none-then-g-lt-CASTS.ensures ∙ sym
    (ap (λ (x : Ins). is_none (operands M m x)) (ins_call _ _ _ _ the-if2.false the-if3.true)))

pub returns-then-g-eq-CASTS : goal.returns-then-g-eq-CASTS
returns-then-g-eq-CASTS c =
    let start = c in
    let the-group = c.group-g in
    let the-if1 = c.if-g-ge-BR in
    let the-if4 = c.if-g-eq-CASTS in
    λ M m all max parents gt H z st. quiet_refused M m all start.args.i _ _ (the-group.ensures gt) the-if1.false
    (class_none M m _ _ _ H.by_class.count (c.class_row.ensures.as_model H.by_class.few) _ c.is_none-then-g-eq-CASTS.ensures ∙ sym
    (ap (λ (x : Ins). is_none (operands M m x)) (ins_cast _ _ _ _ the-if4.true)))

pub returns-then-g-lt-LDSFLD : goal.returns-then-g-lt-LDSFLD
unfolding flag
returns-then-g-lt-LDSFLD c =
    let start = c in
    let the-group = c.group-g in
    let the-if1 = c.if-g-ge-BR in
    let the-if3 = c.if-g-lt-CASTS in
    let the-if4 = c.if-g-eq-CASTS in
    let the-if5 = c.if-g-lt-LDSFLD in
    λ M m all max parents gt H z st. quiet_refused M m all start.args.i _ _ (the-group.ensures gt) the-if1.false
    (field_low (λ (o : Option Act). c.is_none-then-g-lt-LDSFLD.result ≡ is_none o) M m _ _ (above _ the-if3.false the-if4.false) the-if5.true
    (field_none M _ start.args.loaded.now.fields H.by_field false Act.ldfld start.args.i.operand _ (c.field_row.ensures.as_model H.by_field.few) _ c.is_none-then-g-lt-LDSFLD.ensures) (field_none M _ start.args.loaded.now.fields H.by_field false Act.stfld start.args.i.operand
    _ (c.field_row.ensures.as_model H.by_field.few) _ c.is_none-then-g-lt-LDSFLD.ensures) ∙ sym
    (ap (λ (x : Ins). is_none (operands M m x)) (ins_field _ _ _ _ the-if3.false the-if4.false the-if1.false)))

pub returns : goal.returns
unfolding flag
returns c =
    let start = c in
    let the-group = c.group-g in
    let the-if1 = c.if-g-ge-BR in
    let the-if3 = c.if-g-lt-CASTS in
    let the-if4 = c.if-g-eq-CASTS in
    let the-if5 = c.if-g-lt-LDSFLD in
    λ M m all max parents gt H z st. quiet_refused M m all start.args.i _ _ (the-group.ensures gt) the-if1.false
    (field_high (λ (o : Option Act). c.is_none-2.result ≡ is_none o) M m _ _ the-if5.false
    (field_none M _ start.args.loaded.now.fields H.by_field true Act.ldsfld start.args.i.operand _ (c.field_row-2.ensures.as_model H.by_field.few) _ c.is_none-2.ensures) (field_none M _ start.args.loaded.now.fields H.by_field true Act.stsfld start.args.i.operand
    _ (c.field_row-2.ensures.as_model H.by_field.few) _ c.is_none-2.ensures) ∙ sym
    (ap (λ (x : Ins). is_none (operands M m x)) (ins_field _ _ _ _ the-if3.false the-if4.false the-if1.false)))
