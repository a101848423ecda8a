use Prim.Native.Nat.{◌-◌}
use lib.ListN.{length}
use Rattle.loader.proofs.Reading.{Going}
use Rattle.loader.proofs.records.read_records.Given as goal

abbrev pub invariant-loop-at : goal.invariant-loop-at
invariant-loop-at l = Going l.tables l.code l.at l.loaded l.notes

abbrev pub decreases-loop-at : goal.decreases-loop-at
decreases-loop-at l = length l.tables - l.at
