use Rattle.std.proofs.Common.{◌∙◌}
use Rattle.integers.proofs.Wrapping.{negated}
use Rattle.integers.proofs.neg.Goals as goal

pub returns : goal.returns
returns g c = c.low.ensures ∙ negated g.met.I.Integer.of_cell c.args.a _ c.wrapping_neg.ensures
