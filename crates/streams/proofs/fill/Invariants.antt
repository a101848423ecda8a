-- What was read stands at the start of the buffer, and there is less room with each read.
use Rattle.std.proofs.Common.{length, ◌-◌, ◌≤◌, take, ◌≡◌}
use Rattle.std.specs.Io.KnownBytes.{Consumes}
use Rattle.streams.proofs.fill.Given as goal

abbrev pub invariant-loop-have : goal.invariant-loop-have
invariant-loop-have g l = (length l.to ≡ length l.initial.to) × (l.have ≤ length l.to) × Consumes (g.R.Read.remaining l.initial.from) (g.R.Read.remaining l.from) (take l.have l.to)

abbrev pub decreases-loop-have : goal.decreases-loop-have
decreases-loop-have g l = length l.initial.to - l.have
