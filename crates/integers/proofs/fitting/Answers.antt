use Rattle.integers.proofs.Checked.{fits, unfit, unfit_wide}
use Rattle.integers.proofs.fitting.Goals as goal

pub returns-in-Some : goal.returns-in-Some
returns-in-Some g c x s = fits g.met.I.Integer.of_cell x s c.in-Some.is c.holds.ensures c.if-holds.true c.cast_unsigned.ensures c.low.ensures

pub returns-in_default : goal.returns-in_default
returns-in_default g c x s = unfit g.met.I.Integer.of_cell x s c.in-Some.is c.holds.ensures c.if-holds.false

pub returns-in_default-2 : goal.returns-in_default-2
returns-in_default-2 g c x s = unfit_wide g.met.I.Integer.of_cell x s c.in_default.is
