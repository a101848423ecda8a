use Rattle.std.proofs.Common.{sym, ap, ◌∙◌}
use Rattle.model.specs.Answer.{ok}
use Rattle.model.specs.Operators.{integer}
use Rattle.integers.proofs.Wrapping.{sums}
use Rattle.integers.proofs.add.Goals as goal

pub returns : goal.returns
unfolding integer
returns g c = ap ok (sym (c.low.ensures ∙ sums g.met.I.Integer.of_cell c.args.a c.args.b))
