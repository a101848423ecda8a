use Rattle.state.specs.Work.{copy_of}
use Rattle.across_frames.proofs.Copied.{fours_none, cleared_one, cleared_two, cleared_four}
use Rattle.across_frames.proofs.enter.clear.Goals as goal

pub returns-then-n-eq0 : goal.returns-then-n-eq0
unfolding copy_of
returns-then-n-eq0 c = rw (fours_none c.if-n-eq0.true)

pub returns-then-n-le4 : goal.returns-then-n-le4
returns-then-n-le4 c = cleared_one _ _ _ c.if-n-eq0.false c.clear_four.ensures c.if-n-le4.true

pub returns-then-n-le8 : goal.returns-then-n-le8
returns-then-n-le8 c = cleared_two _ _ _ c.if-n-eq0.false c.clear_four.ensures c.if-n-le4.false c.clear_four-2.ensures c.if-n-le8.true

pub returns : goal.returns
returns c = cleared_four _ _ _ c.if-n-eq0.false c.clear_four.ensures c.if-n-le4.false c.clear_four-2.ensures c.if-n-le8.false c.clear_four-3.ensures c.clear_four-4.ensures
