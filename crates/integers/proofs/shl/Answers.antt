use Rattle.integers.proofs.Shifts.{below, shl_law}
use Rattle.integers.proofs.shl.Goals as goal

pub overflow_shl-a : goal.overflow_shl-a
overflow_shl-a g c = below g.met.I.Integer.of_cell c.args.n c.amount.result c.amount.ensures

pub returns : goal.returns
returns g c = shl_law g.met.I.Integer.of_cell c.args.n c.amount.result c.amount.ensures c.args.a c.low.result c.low.ensures
