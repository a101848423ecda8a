use Rattle.check_operands.proofs.Operands.{type_none, type_some}
use Rattle.std.proofs.Common.{arith, refl, ◌+◌, ◌*◌}
use Rattle.check_operands.proofs.operand.declared.Goals as goal

pub returns-then-most-i : goal.returns-then-most-i
returns-then-most-i c = λ ts e l t. type_none ts _ (omega arith)

pub returns-then-from-i : goal.returns-then-from-i
returns-then-from-i c = λ ts e l t. type_none ts _ (omega (arith, c.from.ensures))

pub returns : goal.returns
returns c = λ ts e l t. type_some c.args.methods.now (c.args.row * 32 + c.args.from) ts _ _ (omega (arith, c.from.ensures)) t refl
