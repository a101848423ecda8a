use Rattle.state.specs.Work.{copy_of}
use Rattle.across_frames.proofs.Copied.{fours_none, copied_one, copied_two}
use Rattle.across_frames.proofs.enter.copy.Goals as goal

pub returns-then-n-eq0 : goal.returns-then-n-eq0
unfolding copy_of
returns-then-n-eq0 c = rw (fours_none c.if-n-eq0.true)

pub returns-then-n-le4 : goal.returns-then-n-le4
returns-then-n-le4 c = copied_one _ _ _ _ c.if-n-eq0.false c.copy_four.ensures c.if-n-le4.true

pub returns : goal.returns
returns c = copied_two _ _ _ _ c.if-n-eq0.false c.copy_four.ensures c.if-n-le4.false c.requires.2 c.requires.0 c.copy_four-2.ensures
