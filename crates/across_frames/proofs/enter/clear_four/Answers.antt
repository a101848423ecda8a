use Rattle.across_frames.proofs.Copied.{four_cleared}
use Rattle.across_frames.proofs.enter.clear_four.Goals as goal

pub returns : goal.returns
returns c = four_cleared _ _
