use Rattle.std.proofs.Common.{◌≡◌, ◌^◌, ◌<◌}
use Rattle.model.specs.Loading.{little}
use Rattle.code.proofs.little.number.Given as goal

-- the bytes below i are read
abbrev pub invariant-loop-i : goal.invariant-loop-i
invariant-loop-i l = (l.n ≡ little l.i l.part) × (l.n < 256 ^ l.i)
