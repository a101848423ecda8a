use Rattle.std.proofs.Common.{◌≡◌, length, take}
use Rattle.case_line.specs.Case.{words as words_of}
use Rattle.case_line.proofs.reading.fill.Given as goal

-- what is filled so far are the first numbers
abbrev pub invariant-loop-i : goal.invariant-loop-i
invariant-loop-i l = (length l.words ≡ 255) × (take l.i l.words ≡ words_of l.i l.bytes)
