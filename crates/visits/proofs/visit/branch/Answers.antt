use Rattle.visits.proofs.Arrivals.{agrees_shape}
use Rattle.visits.proofs.Branches.{jump_always, jump_test, jump_same, jump_order}
use native.Mathlib.Omega.{arith}
use Rattle.visits.proofs.visit.branch.Goals as goal

pub returns-in-33-clause-agrees : goal.returns-in-33-clause-agrees
returns-in-33-clause-agrees c = λ S f w. agrees_shape _ _ _ S (jump_always _ S c.in-33.is) w

pub returns-in-34-clause-agrees : goal.returns-in-34-clause-agrees
returns-in-34-clause-agrees c = λ S f w. rw (jump_test _ S c.in-34.is) (c.test.ensures.effect f S w).0

pub returns-in-35-clause-agrees : goal.returns-in-35-clause-agrees
returns-in-35-clause-agrees c = λ S f w. rw (jump_same _ S c.in-35.is) (c.when.ensures.effect f S w).0

pub returns-in_default-clause-agrees : goal.returns-in_default-clause-agrees
returns-in_default-clause-agrees c =
    λ S f w.
    rw (jump_order c.args.g S (λ e. absurd (omega arith)) (λ e. absurd (omega arith)) (λ e. absurd (omega arith)))
    (c.when-in_default.ensures.effect f S w).0
