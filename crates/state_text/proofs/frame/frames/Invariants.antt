use Rattle.std.proofs.Common.{◌≡◌, []}
use Rattle.model.specs.Replay.{frames_text}
use Rattle.state.specs.View.{down}
use Rattle.line.specs.Append.{appended}
use Rattle.state_text.specs.Texts.{one_frame}
use Rattle.state_text.proofs.frame.frames.Given as goal

-- what is appended so far is the text of the frames below
abbrev pub invariant-loop-i : goal.invariant-loop-i
invariant-loop-i l = l.text ≡ appended l.initial.text (frames_text (down (one_frame l.methods l.cells l.kinds) l.i) [])
