use Rattle.std.proofs.Common.{arith}
use Rattle.state.proofs.Naming.{names}
use Rattle.state.proofs.tokens.row_named.Goals as goal

pub returns : goal.returns
returns c = names _ _ _ c.requires.0 c.requires.1 c.wrapping_sub_u64.ensures.value (omega arith)
