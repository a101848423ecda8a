use Rattle.integers.proofs.Checked.{by_zero, quotient_held, quotient_over, no_quotient}
use Rattle.integers.proofs.quotient.Goals as goal

pub returns-then-low-eq0 : goal.returns-then-low-eq0
returns-then-low-eq0 g c = by_zero g.met.I.Integer.of_cell c.args.a c.args.b c.low.ensures c.if-low-eq0.true

pub returns-in-Some : goal.returns-in-Some
returns-in-Some g c =
    quotient_held g.met.I.Integer.of_cell c.args.a c.args.b c.low.ensures c.if-low-eq0.false c.value.ensures c.value-2.ensures c.checked_div.ensures
    c.in-Some.is c.holds.ensures c.if-holds.true

pub returns-in_default : goal.returns-in_default
returns-in_default g c =
    quotient_over g.met.I.Integer.of_cell c.args.a c.args.b c.low.ensures c.if-low-eq0.false c.value.ensures c.value-2.ensures c.checked_div.ensures
    c.in-Some.is c.holds.ensures c.if-holds.false

pub returns-in_default-2 : goal.returns-in_default-2
returns-in_default-2 g c =
    no_quotient g.met.I.Integer.of_cell c.args.a c.args.b c.low.ensures c.if-low-eq0.false c.value.ensures c.value-2.ensures c.checked_div.ensures
    c.in_default.is
