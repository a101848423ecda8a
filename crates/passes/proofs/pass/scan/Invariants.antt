use Rattle.passes.proofs.Loops.{Scanning}
use lib.ListN.{length}
use Prim.Native.Nat.{◌-◌}
use Rattle.passes.proofs.pass.scan.Given as goal

abbrev pub invariant-loop-at : goal.invariant-loop-at
invariant-loop-at l =
    Scanning l.code l.starts l.at

abbrev pub decreases-loop-at : goal.decreases-loop-at
decreases-loop-at l =
    length l.code - l.at
