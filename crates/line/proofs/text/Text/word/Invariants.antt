use Rattle.std.proofs.Common.{◌≡◌, take}
use Rattle.line.specs.Append.{appended}
use Rattle.line.proofs.text.Text.word.Given as goal

-- what is appended so far is the text's first bytes
abbrev pub invariant-loop-b : goal.invariant-loop-b
invariant-loop-b l = l.self ≡ appended l.initial.self (take l.b-index l.text)
