use Rattle.std.proofs.Common.{rules}
use Rattle.state.specs.Work.{put, goto}
use Rattle.in_frame.proofs.Answers.{push_full, push_goes}
use Rattle.in_frame.proofs.stack.push.Goals as goal

pub returns-then-y-sp : goal.returns-then-y-sp
returns-then-y-sp c = rw c.ends.ensures (record { own = search rules; meets = λ s. push_full _ _ _ _ _ c.if-y-sp.true })

pub returns : goal.returns
unfolding put goto
returns c = record { own = search rules; meets = λ s. push_goes _ _ _ _ _ c.if-y-sp.false }
