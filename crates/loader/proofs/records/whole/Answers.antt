-- `loader::records::whole` meets its contract.
use Rattle.std.proofs.Common.{refl, subst, ℕ, ◌-◌, ◌≤◌, length}
use Rattle.loader.proofs.Reading.{cut}
use Rattle.loader.proofs.records.whole.Goals as goal

pub returns-then-tables-at : goal.returns-then-tables-at
returns-then-tables-at c = (refl, cut c.args.tables.now c.args.at c.in_ok-kind.kind c.in_ok-kind.ensures (subst (λ (i : ℕ). length c.args.tables.now - c.args.at ≤ i) c.size.ensures c.if-tables-at.true))
