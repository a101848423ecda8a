use Rattle.std.proofs.Common.{◌<◌, ◌≤◌, min, arith}
use Rattle.visits.proofs.Branches.{land_past, land_none, land_inside}
use Rattle.visits.proofs.visit.lands.Goals as goal

pub returns-in_err-t-clause-lands : goal.returns-in_err-t-clause-lands
returns-in_err-t-clause-lands c = λ all b m. rw c.from_residual.ensures (land_none all _ _ c.in_err-t.ensures)

pub returns-then-min-t-clause-lands : goal.returns-then-min-t-clause-lands
returns-then-min-t-clause-lands c =
    λ all b m. let k : min c.args.size 1024 ≤ c.in_ok-t.t = rw (← c.min.ensures) c.if-min-t.true in
    land_past all _ _ _ c.in_ok-t.ensures (omega arith) b

pub returns-clause-lands : goal.returns-clause-lands
returns-clause-lands c =
    λ all b m. let k : c.in_ok-t.t < min c.args.size 1024 = rw (← c.min.ensures) c.if-min-t.false in
    rw c.then_some.ensures (land_inside all c.args.starts.now _ _ _ c.in_ok-t.ensures (omega arith) b m)
