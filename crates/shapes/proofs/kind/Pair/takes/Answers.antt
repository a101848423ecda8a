use Rattle.shapes.proofs.Operators.{takes, tested}
use Rattle.shapes.proofs.kind.Pair.takes.Goals as goal

pub returns-then-eq : goal.returns-then-eq
unfolding tested
returns-then-eq c = λ A B e q. takes _ _ _ A B _ (c.of-x.ensures A e) (c.of-y.ensures B q) (rw (c.in-Numbers.is, ← c.if-eq.ensures) c.ne.ensures)

pub returns-else-eq : goal.returns-else-eq
unfolding tested
returns-else-eq c = λ A B e q. takes _ _ _ A B _ (c.of-x.ensures A e) (c.of-y.ensures B q) (rw (c.in-Numbers.is, ← c.if-eq.ensures) c.if-eq.false)

pub returns-then-eq-2 : goal.returns-then-eq-2
unfolding tested
returns-then-eq-2 c = λ A B e q. takes _ _ _ A B _ (c.of-x.ensures A e) (c.of-y.ensures B q) (rw (c.in-Integers.is, ← c.if-eq-2.ensures) c.is_integer.ensures)

pub returns-else-eq-2 : goal.returns-else-eq-2
unfolding tested
returns-else-eq-2 c = λ A B e q. takes _ _ _ A B _ (c.of-x.ensures A e) (c.of-y.ensures B q) (rw (c.in-Integers.is, ← c.if-eq-2.ensures) c.if-eq-2.false)

pub returns-then-eq-3 : goal.returns-then-eq-3
unfolding tested
returns-then-eq-3 c = λ A B e q. takes _ _ _ A B _ (c.of-x.ensures A e) (c.of-y.ensures B q) (rw (c.in-Shift.is, ← c.if-eq-3.ensures) c.is_integer-then-eq-3.ensures)

pub returns-else-eq-3 : goal.returns-else-eq-3
unfolding tested
returns-else-eq-3 c = λ A B e q. takes _ _ _ A B _ (c.of-x.ensures A e) (c.of-y.ensures B q) (rw (c.in-Shift.is, ← c.if-eq-3.ensures) c.if-eq-3.false)

pub returns-in-Alike : goal.returns-in-Alike
unfolding tested
returns-in-Alike c = λ A B e q. takes _ _ _ A B _ (c.of-x.ensures A e) (c.of-y.ensures B q) (rw (c.in-Alike.is) c.eq-in-Alike.ensures)
