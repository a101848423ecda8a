-- `frames` meets its contract.
use Rattle.std.proofs.Common.{◌∙◌, ◌≡◌, ℕ, [], ap, arith}
use Rattle.model.specs.Replay.{frames_text}
use Rattle.state.specs.View.{down}
use Rattle.line.specs.Append.{appended}
use Rattle.line.proofs.Appending.{added_none}
use Rattle.state_text.specs.Texts.{one_frame, frames_in}
use Rattle.state_text.proofs.Joining.{frame_more}
use Rattle.state_text.proofs.frame.frames.Goals as goal

pub loop-i-init : goal.loop-i-init
unfolding frames_text down
loop-i-init c = added_none _

pub loop-i-preserved : goal.loop-i-preserved
loop-i-preserved c = frame_more _ _ _ (one_frame c.args.methods.now c.args.cells.now c.args.kinds.now) _ c.loop-i.invariant c.one.ensures

pub returns : goal.returns
unfolding frames_in
returns c =
    let s = c.args in
    let e : c.loop-i.i ≡ s.live = omega arith in
    c.loop-i.invariant ∙ ap (λ (k : ℕ). appended s.text.now (frames_text (down (one_frame s.methods.now s.cells.now s.kinds.now) k) [])) e
