use Rattle.check_operands.proofs.Operands.{renamed, ins_call, ins_cast, ins_field, above}
use Rattle.model.specs.Check.{effect}
use Rattle.model.specs.Code.{operands}
use native.Mathlib.Omega.{arith}
use mathlib.Core.Path.{ap}
use Rattle.check_operands.proofs.step.step.Goals as goal

pub returns-then-g-lt-CASTS : goal.returns-then-g-lt-CASTS
returns-then-g-lt-CASTS c = let the-if1 = c.if-g-lt-CASTS in
    record {
      small = c.calls.ensures.small;
      operand = λ M m op x C D K l f S w. renamed _ _ _ (λ a. effect M m a S) _ _
          (ap (operands M m) (ins_call _ _ _ _ c.requires.g_positive the-if1.true)) (c.calls.ensures.operand M m x C.parent K (omega arith) f S w);
    }

pub returns-then-g-eq-CASTS : goal.returns-then-g-eq-CASTS
returns-then-g-eq-CASTS c = let the-if2 = c.if-g-eq-CASTS in
    record {
      small = c.casts.ensures.small;
      operand = λ M m op x C D K l f S w. renamed _ _ _ (λ a. effect M m a S) _ _ (ap (operands M m) (ins_cast _ _ _ _ the-if2.true))
          (c.casts.ensures.operand M m C.count C.few f S w);
    }

pub returns : goal.returns
returns c = let the-if1 = c.if-g-lt-CASTS in
    let the-if2 = c.if-g-eq-CASTS in
    record {
      small = c.fields_of.ensures.small;
      operand = λ M m op x C D K l f S w. renamed _ _ _ (λ a. effect M m a S) _ _
          (ap (operands M m) (ins_field _ _ _ _ the-if1.false the-if2.false l))
          (c.fields_of.ensures.operand M m x C.parent D (above _ the-if1.false the-if2.false) f S w);
    }
