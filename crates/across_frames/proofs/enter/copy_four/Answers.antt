use Rattle.across_frames.proofs.Copied.{four_sets}
use Rattle.across_frames.proofs.enter.copy_four.Goals as goal

pub returns : goal.returns
returns c = four_sets _ _ _ _
