use Rattle.std.proofs.Common.{arith}
use Rattle.model.specs.Tables.{byte_of}
use Rattle.shapes.proofs.fit.class_byte.Goals as goal

pub returns : goal.returns
unfolding byte_of
returns c = λ h. omega arith
