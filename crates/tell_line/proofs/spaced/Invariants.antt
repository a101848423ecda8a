use Rattle.std.proofs.Common.{◌≡◌, take}
use Rattle.line.specs.Append.{appended}
use Rattle.tell_line.specs.Shapes.{spaced}
use Rattle.tell_line.proofs.spaced.Given as goal

-- what is appended so far is for the numbers below
abbrev pub invariant-loop-n : goal.invariant-loop-n
invariant-loop-n l = l.text ≡ appended l.initial.text (spaced (take l.n-index l.numbers))
