use Rattle.std.proofs.Common.{sym, ap, ◌∙◌}
use Rattle.model.specs.Answer.{ok}
use Rattle.model.specs.Operators.{integer}
use Rattle.integers.proofs.Wrapping.{differences}
use Rattle.integers.proofs.sub.Goals as goal

pub returns : goal.returns
unfolding integer
returns g c = ap ok (sym (c.low.ensures ∙ differences g.met.I.Integer.of_cell c.args.a c.args.b c.ranges.b.fits))
