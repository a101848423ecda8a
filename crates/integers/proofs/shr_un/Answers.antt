use Rattle.model.specs.Operators.{shifted}
use Rattle.integers.proofs.Shifts.{below}
use Rattle.integers.proofs.shr_un.Goals as goal

pub overflow_shr-result : goal.overflow_shr-result
overflow_shr-result g c = below g.met.I.Integer.of_cell c.args.n c.amount.result c.amount.ensures

pub returns : goal.returns
unfolding shifted
returns g c = cc
