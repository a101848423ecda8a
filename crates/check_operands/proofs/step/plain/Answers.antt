use Rattle.check_operands.proofs.Operands.{grouped, mapped, numbers, integers, shifts, equals, orders}
use Rattle.shapes.proofs.Replies.{leaves, told}
use Rattle.check_operands.specs.Groups.{plain_by, in_opcode, unary_by}
use Rattle.shapes.specs.declared.kind.Pair.TheVariants.{Numbers, Integers, Shift, Alike}
use Rattle.std.proofs.Common.{arith}
use Rattle.shapes.specs.Effects.{binary_effect, compare_effect}
use Rattle.shapes.specs.Pool.{Takes}
use Rattle.model.specs.Check.{effect, plain_effect, pushes, pops_one}
use Rattle.model.specs.Code.{operands, Act, nop, binary, number, add, whole, rem, shift, shl, compare, eq, lt}
use Rattle.model.specs.Tables.{int32, int64, F, null, byte_of}
use Rattle.model.specs.Answer.{pick}
use borrow.Author.Tests.{ne_eqb}
use mathlib.Core.Path.{refl}
use Rattle.check_operands.proofs.step.plain.Goals as goal

pub returns-in-0-clause-operand : goal.returns-in-0-clause-operand
unfolding plain_by pick operands Takes effect plain_effect
returns-in-0-clause-operand c = λ M m p own f S w. grouped _ _ _ M m S _ _ _ 0 c.in-0.is (leaves _ c.args.s S (plain_effect M m nop S) refl w f)

pub returns-in-1 : goal.returns-in-1
unfolding plain_by pick operands Takes effect plain_effect in_opcode byte_of
returns-in-1 c = record { small = c.pop.ensures.small; operand = λ M m p own f S w. grouped _ _ _ M m S _ _ _ 1 c.in-1.is (c.pop.ensures.effect M m f S w) }

pub returns-in-2 : goal.returns-in-2
unfolding plain_by pick operands Takes effect plain_effect in_opcode byte_of
returns-in-2 c = record { small = c.dup.ensures.small; operand = λ M m p own f S w. grouped _ _ _ M m S _ _ _ 2 c.in-2.is (c.dup.ensures.effect M m own.most f S w) }

pub returns-in-3 : goal.returns-in-3
unfolding plain_by pick operands Takes effect plain_effect in_opcode byte_of
returns-in-3 c = record { small = c.ret.ensures.small; operand = λ M m p own f S w. grouped _ _ _ M m S _ _ _ 3 c.in-3.is (c.ret.ensures.effect M m p own.gives f S w) }

pub returns-in-4 : goal.returns-in-4
unfolding plain_by pick operands Takes effect plain_effect in_opcode byte_of
returns-in-4 c = record { small = c.push.ensures.small; operand = λ M m p own f S w. grouped _ _ _ M m S _ _ _ 4 c.in-4.is (c.push.ensures.effect m null own.most refl f S w) }

pub returns-in-5 : goal.returns-in-5
unfolding plain_by pick operands Takes effect plain_effect in_opcode byte_of
returns-in-5 c = record { small = c.push-in-5.ensures.small; operand = λ M m p own f S w. grouped _ _ _ M m S _ _ _ 5 c.in-5.is (c.push-in-5.ensures.effect m int32 own.most refl f S w) }

pub returns-in-6 : goal.returns-in-6
unfolding plain_by pick operands Takes effect plain_effect in_opcode byte_of
returns-in-6 c = record { small = c.push-in-6.ensures.small; operand = λ M m p own f S w. grouped _ _ _ M m S _ _ _ 6 c.in-6.is (c.push-in-6.ensures.effect m int64 own.most refl f S w) }

pub returns-in-7 : goal.returns-in-7
unfolding plain_by pick operands Takes effect plain_effect in_opcode byte_of
returns-in-7 c = record { small = c.push-in-7.ensures.small; operand = λ M m p own f S w. grouped _ _ _ M m S _ _ _ 7 c.in-7.is (c.push-in-7.ensures.effect m F own.most refl f S w) }

pub returns-in-8 : goal.returns-in-8
unfolding plain_by pick operands Takes effect plain_effect in_opcode byte_of
returns-in-8 c = let the-declared = c.argument in
    record {
      small = c.load.ensures.small;
      operand = λ M m p own f S w. grouped _ _ _ M m S _ _ _ 8 c.in-8.is
          (mapped _ _ _ (λ u. pushes m u S) (λ a. effect M m a S) (Act.ldarg (in_opcode c.args.op)) _ (λ a. refl)
          (c.load.ensures.operand m _ own.most (the-declared.ensures m _ _ own) f S w));
    }

pub returns-in-9 : goal.returns-in-9
unfolding plain_by pick operands Takes effect plain_effect in_opcode byte_of
returns-in-9 c = let the-declared2 = c.argument-in-9 in
    record {
      small = c.load-in-9.ensures.small;
      operand = λ M m p own f S w. grouped _ _ _ M m S _ _ _ 9 c.in-9.is
          (mapped _ _ _ (λ u. pushes m u S) (λ a. effect M m a S) (Act.ldarg c.args.n) _ (λ a. refl)
          (c.load-in-9.ensures.operand m _ own.most (the-declared2.ensures m _ _ own) f S w));
    }

pub returns-in-10 : goal.returns-in-10
unfolding plain_by pick operands Takes effect plain_effect in_opcode byte_of
returns-in-10 c = let the-declared3 = c.argument-in-10 in
    record {
      small = c.keep.ensures.small;
      operand = λ M m p own f S w. grouped _ _ _ M m S _ _ _ 10 c.in-10.is
          (mapped _ _ _ (λ u. pops_one M u S) (λ a. effect M m a S) (Act.starg c.args.n) _ (λ a. refl)
          (c.keep.ensures.operand M _ p (the-declared3.ensures m _ _ own) f S w));
    }

pub returns-in-11 : goal.returns-in-11
unfolding plain_by pick operands Takes effect plain_effect in_opcode byte_of
returns-in-11 c = let the-declared4 = c.local in
    record {
      small = c.load-in-11.ensures.small;
      operand = λ M m p own f S w. grouped _ _ _ M m S _ _ _ 11 c.in-11.is
          (mapped _ _ _ (λ u. pushes m u S) (λ a. effect M m a S) (Act.ldloc (in_opcode c.args.op)) _ (λ a. refl)
          (c.load-in-11.ensures.operand m _ own.most (the-declared4.ensures m _ _ own) f S w));
    }

pub returns-in-12 : goal.returns-in-12
unfolding plain_by pick operands Takes effect plain_effect in_opcode byte_of
returns-in-12 c = let the-declared5 = c.local-in-12 in
    record {
      small = c.keep-in-12.ensures.small;
      operand = λ M m p own f S w. grouped _ _ _ M m S _ _ _ 12 c.in-12.is
          (mapped _ _ _ (λ u. pops_one M u S) (λ a. effect M m a S) (Act.stloc (in_opcode c.args.op)) _ (λ a. refl)
          (c.keep-in-12.ensures.operand M _ p (the-declared5.ensures m _ _ own) f S w));
    }

pub returns-in-13 : goal.returns-in-13
unfolding plain_by pick operands Takes effect plain_effect in_opcode byte_of
returns-in-13 c = let the-declared6 = c.local-in-13 in
    record {
      small = c.load-in-13.ensures.small;
      operand = λ M m p own f S w. grouped _ _ _ M m S _ _ _ 13 c.in-13.is
          (mapped _ _ _ (λ u. pushes m u S) (λ a. effect M m a S) (Act.ldloc c.args.n) _ (λ a. refl)
          (c.load-in-13.ensures.operand m _ own.most (the-declared6.ensures m _ _ own) f S w));
    }

pub returns-in-14 : goal.returns-in-14
unfolding plain_by pick operands Takes effect plain_effect in_opcode byte_of
returns-in-14 c = let the-declared7 = c.local-in-14 in
    record {
      small = c.keep-in-14.ensures.small;
      operand = λ M m p own f S w. grouped _ _ _ M m S _ _ _ 14 c.in-14.is
          (mapped _ _ _ (λ u. pops_one M u S) (λ a. effect M m a S) (Act.stloc c.args.n) _ (λ a. refl)
          (c.keep-in-14.ensures.operand M _ p (the-declared7.ensures m _ _ own) f S w));
    }

pub returns-in-15 : goal.returns-in-15
unfolding plain_by pick operands Takes effect plain_effect in_opcode byte_of
returns-in-15 c = record {
  small = c.binary.ensures.small;
  operand = λ M m p own f S w. grouped _ _ _ M m S _ _ _ 15 c.in-15.is
      (told _ _ _ (plain_effect M m (binary (number add)) S) (binary_effect Numbers S) (numbers M m S) (c.binary.ensures.effect f S w));
}

pub returns-in-16 : goal.returns-in-16
unfolding plain_by pick operands Takes effect plain_effect in_opcode byte_of
returns-in-16 c = record {
  small = c.binary-in-16.ensures.small;
  operand = λ M m p own f S w. grouped _ _ _ M m S _ _ _ 16 c.in-16.is
      (told _ _ _ (plain_effect M m (binary (whole rem)) S) (binary_effect Integers S) (integers M m S) (c.binary-in-16.ensures.effect f S w));
}

pub returns-in-17 : goal.returns-in-17
unfolding plain_by pick operands Takes effect plain_effect in_opcode byte_of
returns-in-17 c = record {
  small = c.binary-in-17.ensures.small;
  operand = λ M m p own f S w. grouped _ _ _ M m S _ _ _ 17 c.in-17.is
      (told _ _ _ (plain_effect M m (binary (shift shl)) S) (binary_effect Shift S) (shifts M m S) (c.binary-in-17.ensures.effect f S w));
}

pub returns-in-18 : goal.returns-in-18
unfolding plain_by pick operands Takes effect plain_effect in_opcode byte_of
returns-in-18 c = record {
  small = c.compare.ensures.small;
  operand = λ M m p own f S w. grouped _ _ _ M m S _ _ _ 18 c.in-18.is
      (told _ _ _ (plain_effect M m (binary (compare eq)) S) (compare_effect Alike S) (equals M m S) (c.compare.ensures.effect f S w));
}

pub returns-in-24 : goal.returns-in-24
unfolding plain_by pick operands Takes effect plain_effect in_opcode byte_of
returns-in-24 c = record {
  small = c.compare-in-24.ensures.small;
  operand = λ M m p own f S w. grouped _ _ _ M m S _ _ _ 24 c.in-24.is
      (told _ _ _ (plain_effect M m (binary (compare lt)) S) (compare_effect Numbers S) (orders M m S) (c.compare-in-24.ensures.effect f S w));
}

pub returns-in-19 : goal.returns-in-19
unfolding plain_by pick operands Takes effect plain_effect unary_by
returns-in-19 c = record { small = c.unary.ensures.small; operand = λ M m p own f S w. grouped _ _ _ M m S _ _ _ 19 c.in-19.is (c.unary.ensures.effect M m f S w) }

pub returns-in-20 : goal.returns-in-20
unfolding plain_by pick operands Takes effect plain_effect unary_by
returns-in-20 c = record { small = c.unary-in-20.ensures.small; operand = λ M m p own f S w. grouped _ _ _ M m S _ _ _ 20 c.in-20.is (c.unary-in-20.ensures.effect M m f S w) }

pub returns-in-21 : goal.returns-in-21
unfolding plain_by pick operands Takes effect plain_effect unary_by
returns-in-21 c = record { small = c.unary-in-21.ensures.small; operand = λ M m p own f S w. grouped _ _ _ M m S _ _ _ 21 c.in-21.is (c.unary-in-21.ensures.effect M m f S w) }

pub returns-in-23 : goal.returns-in-23
unfolding plain_by pick operands Takes effect plain_effect unary_by
returns-in-23 c = record { small = c.unary-in-23.ensures.small; operand = λ M m p own f S w. grouped _ _ _ M m S _ _ _ 23 c.in-23.is (c.unary-in-23.ensures.effect M m f S w) }

pub returns-in_default : goal.returns-in_default
unfolding plain_by pick operands Takes effect plain_effect unary_by
returns-in_default c = record {
  small = c.unary-in_default.ensures.small;
  operand = λ M m p own f S w. simp (
    ne_eqb c.args.g 0 (λ z. omega arith),
    ne_eqb c.args.g 1 (λ z. omega arith),
    ne_eqb c.args.g 2 (λ z. omega arith),
    ne_eqb c.args.g 3 (λ z. omega arith),
    ne_eqb c.args.g 4 (λ z. omega arith),
    ne_eqb c.args.g 5 (λ z. omega arith),
    ne_eqb c.args.g 6 (λ z. omega arith),
    ne_eqb c.args.g 7 (λ z. omega arith),
    ne_eqb c.args.g 8 (λ z. omega arith),
    ne_eqb c.args.g 9 (λ z. omega arith),
    ne_eqb c.args.g 10 (λ z. omega arith),
    ne_eqb c.args.g 11 (λ z. omega arith),
    ne_eqb c.args.g 12 (λ z. omega arith),
    ne_eqb c.args.g 13 (λ z. omega arith),
    ne_eqb c.args.g 14 (λ z. omega arith),
    ne_eqb c.args.g 15 (λ z. omega arith),
    ne_eqb c.args.g 16 (λ z. omega arith),
    ne_eqb c.args.g 17 (λ z. omega arith),
    ne_eqb c.args.g 18 (λ z. omega arith),
    ne_eqb c.args.g 19 (λ z. omega arith),
    ne_eqb c.args.g 20 (λ z. omega arith),
    ne_eqb c.args.g 21 (λ z. omega arith),
    ne_eqb c.args.g 23 (λ z. omega arith),
    ne_eqb c.args.g 24 (λ z. omega arith),
  ) (c.unary-in_default.ensures.effect M m f S w);
}
