-- `line` meets its contract: a line has room in 128 bytes.
use native.Mathlib.Omega.{arith}
use Rattle.line.proofs.Lines.{alone}
use Rattle.line.proofs.line.line.Goals as goal

pub returns : goal.returns
returns c = alone _ (omega arith) c.append_line.ensures
