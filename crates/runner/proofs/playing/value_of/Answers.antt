use Rattle.runner.proofs.Values.{null_value, object_value, int32_value, int64_value, real_value}
use Rattle.runner.proofs.playing.value_of.Goals as goal

pub returns-then-bits-eq0 : goal.returns-then-bits-eq0
returns-then-bits-eq0 c = null_value _ _ c.in-0.is c.if-bits-eq0.true

pub returns-else-bits-eq0 : goal.returns-else-bits-eq0
returns-else-bits-eq0 c = object_value _ _ c.in-0.is c.if-bits-eq0.false

pub returns-in-1 : goal.returns-in-1
returns-in-1 c = int32_value _ _ _ c.in-1.is c.conv_i8.ensures

pub returns-in-2 : goal.returns-in-2
returns-in-2 c = int64_value _ _ c.in-2.is

pub returns-in_default : goal.returns-in_default
returns-in_default c = real_value _ _ c.in_default.in_default-own.rest.0.0.1 c.in_default.in_default-own.rest.0.1 c.in_default.in_default-own.rest.1
