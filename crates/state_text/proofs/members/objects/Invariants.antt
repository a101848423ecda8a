use Rattle.std.proofs.Common.{◌≡◌}
use Rattle.model.specs.Replay.{heap_text}
use Rattle.state.specs.View.{span}
use Rattle.line.specs.Append.{appended}
use Rattle.state_text.specs.Texts.{place_in}
use Rattle.state_text.proofs.members.objects.Given as goal

-- what is appended so far is the text of the places below
abbrev pub invariant-loop-place : goal.invariant-loop-place
invariant-loop-place l = l.text ≡ appended l.initial.text (heap_text (span (place_in l.classes l.types l.heap) 0 l.place))
