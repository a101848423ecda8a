use Rattle.std.proofs.Common.{◌≡◌, arith}
use Rattle.operators.specs.Gives.{unary_by}
use Rattle.operators.proofs.ByKind.{by_reference}
use Rattle.operators.proofs.operators.converted.Goals as goal

pub returns-in_default : goal.returns-in_default
returns-in_default c = λ h. let none : c.args.k ≡ 0 = omega arith in rw none (by_reference (unary_by c.args.op) c.args.a)
