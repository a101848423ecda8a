use Rattle.shapes.proofs.Operators.{an_integer, no_integer}
use Rattle.shapes.proofs.kind.Kind.is_integer.Goals as goal

pub returns-in-Int32 : goal.returns-in-Int32
returns-in-Int32 c = an_integer _ c.in-Int32.is

pub returns-in_default : goal.returns-in_default
returns-in_default c = no_integer _ c.in_default.not-Int32 c.in_default.not-Int64
