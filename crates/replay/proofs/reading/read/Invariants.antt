-- What is there announces a length, and there is less room with each part that is read.
use Rattle.std.proofs.Common.{length, ◌-◌, ◌≤◌, take, ◌≡◌}
use Rattle.case_line.specs.Places.{announced_by}
use Rattle.replay.proofs.reading.read.Given as goal

abbrev pub invariant-loop-have : goal.invariant-loop-have
invariant-loop-have g l = (length l.case ≡ length l.initial.case) × (l.have ≤ length l.case) × (l.all ≡ announced_by (take l.have l.case))

abbrev pub decreases-loop-have : goal.decreases-loop-have
decreases-loop-have g l = length l.initial.case - l.have
