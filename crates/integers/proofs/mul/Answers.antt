use Rattle.std.proofs.Common.{sym, ap, ◌∙◌}
use Rattle.model.specs.Answer.{ok}
use Rattle.model.specs.Operators.{integer}
use Rattle.integers.proofs.Wrapping.{products}
use Rattle.integers.proofs.mul.Goals as goal

pub returns : goal.returns
unfolding integer
returns g c = ap ok (sym (c.low.ensures ∙ products g.met.I.Integer.of_cell c.args.a c.args.b))
