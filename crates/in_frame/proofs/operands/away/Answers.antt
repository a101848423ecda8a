use Rattle.std.proofs.Common.{rules}
use Rattle.in_frame.proofs.Signed.{wrapped}
use Rattle.in_frame.proofs.operands.away.Goals as goal

pub returns : goal.returns
returns c = wrapped _ _ c.requires.0 c.requires.1 _ (search rules) c.wrapping_sub_u64.ensures.value
