use Rattle.check_operands.proofs.Operands.{untyped, none_grouped, plain_there}
use Rattle.check_operands.specs.Groups.{plain_by, in_opcode}
use Rattle.model.specs.Answer.{pick}
use Rattle.model.specs.Code.{operands, Act}
use Rattle.check_operands.proofs.operand.undeclared.Goals as goal

pub returns-in-8 : goal.returns-in-8
unfolding plain_by pick operands in_opcode
returns-in-8 c =
    let start = c in
    λ M m max due own. none_grouped M m _ _ _ 8 _ c.in-8.is
    (untyped (Act.ldarg (in_opcode start.args.op)) _ _ _ (c.argument.ensures m _ _ own) c.is_none.ensures)

pub returns-in-9 : goal.returns-in-9
unfolding plain_by pick operands in_opcode
returns-in-9 c =
    let start = c in
    λ M m max due own. none_grouped M m _ _ _ 9 _ c.in-9.is
    (untyped (Act.ldarg start.args.n) _ _ _ (c.argument-in-9.ensures m _ _ own) c.is_none-in-9.ensures)

pub returns-in-10 : goal.returns-in-10
unfolding plain_by pick operands in_opcode
returns-in-10 c =
    let start = c in
    λ M m max due own. none_grouped M m _ _ _ 10 _ c.in-10.is
    (untyped (Act.starg start.args.n) _ _ _ (c.argument-in-10.ensures m _ _ own) c.is_none-in-10.ensures)

pub returns-in-11 : goal.returns-in-11
unfolding plain_by pick operands in_opcode
returns-in-11 c =
    let start = c in
    λ M m max due own. none_grouped M m _ _ _ 11 _ c.in-11.is
    (untyped (Act.ldloc (in_opcode start.args.op)) _ _ _ (c.local.ensures m _ _ own) c.is_none-in-11.ensures)

pub returns-in-12 : goal.returns-in-12
unfolding plain_by pick operands in_opcode
returns-in-12 c =
    let start = c in
    λ M m max due own. none_grouped M m _ _ _ 12 _ c.in-12.is
    (untyped (Act.stloc (in_opcode start.args.op)) _ _ _ (c.local-in-12.ensures m _ _ own) c.is_none-in-12.ensures)

pub returns-in-13 : goal.returns-in-13
unfolding plain_by pick operands in_opcode
returns-in-13 c =
    let start = c in
    λ M m max due own. none_grouped M m _ _ _ 13 _ c.in-13.is
    (untyped (Act.ldloc start.args.n) _ _ _ (c.local-in-13.ensures m _ _ own) c.is_none-in-13.ensures)

pub returns-in-14 : goal.returns-in-14
unfolding plain_by pick operands in_opcode
returns-in-14 c =
    let start = c in
    λ M m max due own. none_grouped M m _ _ _ 14 _ c.in-14.is
    (untyped (Act.stloc start.args.n) _ _ _ (c.local-in-14.ensures m _ _ own) c.is_none-in-14.ensures)

pub returns-in_default : goal.returns-in_default
returns-in_default c =
    λ M m max due own. plain_there M m _ _ _ c.in_default.in_default-own.rest.0.0.0.0.0.0.1 c.in_default.in_default-own.rest.0.0.0.0.0.1 c.in_default.in_default-own.rest.0.0.0.0.1
    c.in_default.in_default-own.rest.0.0.0.1 c.in_default.in_default-own.rest.0.0.1 c.in_default.in_default-own.rest.0.1 c.in_default.in_default-own.rest.1
