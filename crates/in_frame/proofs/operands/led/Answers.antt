use Rattle.in_frame.proofs.Signed.{lands}
use Rattle.in_frame.proofs.operands.led.Goals as goal

pub returns : goal.returns
returns c = lands _ _ c.requires.0 c.requires.1 _ _ _ c.requires.2 c.away.ensures c.wrapping_add_u64.ensures.value
