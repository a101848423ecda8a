use Rattle.visits.proofs.Arrivals.{read_at}
use mathlib.Core.Path.{ap}
use Prim.Native.Nat.{ℕ, ◌%◌}
use Rattle.visits.proofs.visit.found_at.Goals as goal

pub returns-clause-read : goal.returns-clause-read
returns-clause-read c =
    λ P n F f k h b. rw c.then_some.ensures (read_at P n F _ _ f k h b _ (ap (λ (v : ℕ). v % 2048) (c.in_ok-s.ensures.lookup.3.1 0)))
