use Rattle.check_operands.proofs.Operands.{act_by, lacks, has, method_lacks, method_has, call_effect_lem, new_effect, new_arguments, types_tail, types_part, part_length}
use Rattle.check_operands.proofs.Operands.{new_gives, tail_length}
use Rattle.model.specs.Code.{operands}
use Rattle.check_operands.specs.Groups.{call_by}
use Rattle.shapes.specs.Effects.{called_effect}
use Rattle.model.specs.Check.{effect}
use Rattle.model.specs.Tables.{class, arguments}
use lib.ListN.{length}
use native.Mathlib.Omega.{arith}
use mathlib.Core.Option.{some}
use mathlib.Core.Path.{ap, ◌∙◌}
use Prim.Native.Nat.{◌*◌, ◌≤◌}
use borrow.Author.Rules.{rules}
use Rattle.check_operands.proofs.step.calls.Goals as goal

pub returns-in_default-clause-operand : goal.returns-in_default-clause-operand
returns-in_default-clause-operand c = λ M m e p H l f S w.
    lacks _ (λ a. effect M m a S) (operands M m (call_by c.args.which c.args.token))
    (method_lacks M m _ _ H c.args.which c.args.token _ (c.method_row.ensures.none H.few) (λ r s q. c.method_row.ensures.as_model r s H.few q) c.in_default.is) f

pub returns-then-n-gt-LOCALS : goal.returns-then-n-gt-LOCALS
returns-then-n-gt-LOCALS c = let the-if2 = c.if-n-gt-LOCALS in
    record {
      small = search rules;
      operand = λ M m e p H l f S w.
          let k = method_has M m _ _ H c.args.which c.args.token _ (c.method_row.ensures.none H.few)
          (λ r s q. c.method_row.ensures.as_model r s H.few q) _ c.in-Some.is in
          let a : length (arguments k.method) ≤ 8 = H.small c.in-Some.r k.method k.is in
          let b = H.arity c.in-Some.r k.method k.is in
          absurd (omega (arith, b, the-if2.true));
    }

pub returns-then-n-eq0 : goal.returns-then-n-eq0
returns-then-n-eq0 c = let the-if3 = c.if-which-eq-NEW in
    let the-if4 = c.if-n-eq0 in
    record {
      small = search rules;
      operand = λ M m e p H l f S w.
          let k = method_has M m _ _ H c.args.which c.args.token _ (c.method_row.ensures.none H.few)
          (λ r s q. c.method_row.ensures.as_model r s H.few q) _ c.in-Some.is in
          let a = new_arguments c.args.which k.method the-if3.true k.may in
          let b = H.arity c.in-Some.r k.method k.is ∙ ap length a in
          absurd (omega (arith, b, the-if4.true));
    }

pub returns-then-which-eq-NEW : goal.returns-then-which-eq-NEW
returns-then-which-eq-NEW c = let the-if3 = c.if-which-eq-NEW in
    let the-class-byte = c.class_byte-gives in
    record {
      small = c.call.ensures.small;
      operand = λ M m e p H l f S w.
          let k = method_has M m _ _ H c.args.which c.args.token _ (c.method_row.ensures.none H.few)
          (λ r s q. c.method_row.ensures.as_model r s H.few q) _ c.in-Some.is in
          let a = new_arguments c.args.which k.method the-if3.true k.may in
          let z = tail_length _ _ _ _ a (H.arity c.in-Some.r k.method k.is) in
          let b = c.in-Some.ensures.result_at_most in
          let d = c.if-n-eq0.false in
          has _ _ _ (λ a. effect M m a S) (operands M m (call_by c.args.which c.args.token))
          (act_by c.args.which c.in-Some.r k.method) (called_effect M m k.method.params (some (class k.method.owner)) S)
          k.found (new_effect M m c.args.which c.in-Some.r k.method S the-if3.true)
          (c.call.ensures.effect M m k.method.params (some (class k.method.owner)) e p
          (types_part c.args.methods.now _ _ k.method.params
          (types_tail c.args.methods.now (c.in-Some.r * 32) _ _ _ a (H.arguments_at c.in-Some.r k.method k.is)) (omega arith))
          (part_length c.args.methods.now _ _ k.method.params (omega arith) (omega arith))
          (new_gives _ _ _ (H.owner c.in-Some.r k.method k.is) (H.low c.in-Some.r k.method k.is)
          the-class-byte.ensures) f S w);
    }

pub returns : goal.returns
returns c = let the-if3 = c.if-which-eq-NEW in
    record {
      small = c.call-2.ensures.small;
      operand = λ M m e p H l f S w.
          let k = method_has M m _ _ H c.args.which c.args.token _ (c.method_row.ensures.none H.few)
          (λ r s q. c.method_row.ensures.as_model r s H.few q) _ c.in-Some.is in
          let z = H.arity c.in-Some.r k.method k.is in
          has _ _ _ (λ a. effect M m a S) (operands M m (call_by c.args.which c.args.token))
          (act_by c.args.which c.in-Some.r k.method) (called_effect M m (arguments k.method) k.method.returns S)
          k.found (call_effect_lem M m c.args.which c.in-Some.r k.method S the-if3.false l)
          (c.call-2.ensures.effect M m (arguments k.method) k.method.returns e p
          (types_part c.args.methods.now _ _ (arguments k.method) (H.arguments_at c.in-Some.r k.method k.is) (omega (arith, z)))
          (part_length c.args.methods.now _ _ (arguments k.method) (omega (arith, z)) (omega (arith, z, c.in-Some.ensures.result_at_most)))
          (H.due c.in-Some.r k.method k.is) f S w);
    }
