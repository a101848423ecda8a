use Rattle.std.proofs.Common.{ap, ◌∙◌}
use Rattle.integers.specs.Cells.{low}
use Rattle.integers.proofs.Shifts.{signed_below, below, shr_law}
use Rattle.integers.proofs.shr.Goals as goal

pub overflow_cast-amount : goal.overflow_cast-amount
overflow_cast-amount g c = signed_below g.met.I.Integer.of_cell c.args.n c.amount.result c.amount.ensures

pub overflow_shr-value : goal.overflow_shr-value
overflow_shr-value g c = below g.met.I.Integer.of_cell c.args.n c.amount.result c.amount.ensures

pub returns : goal.returns
returns g c =
    shr_law g.met.I.Integer.of_cell c.args.n c.amount.result c.amount.ensures c.args.a c.low.result c.value.result c.value.ensures
    (c.low.ensures ∙ ap (low g.I.Integer.width) c.cast_unsigned.ensures)
