use Rattle.std.proofs.Common.{le-ltb, lt-ltb}
use Rattle.model.specs.Answer.{pick}
use Rattle.state.specs.View.{kind_of_byte}
use Rattle.state.proofs.fit.kind_of.Goals as goal

pub returns-then-byte-gt3 : goal.returns-then-byte-gt3
unfolding kind_of_byte pick
returns-then-byte-gt3 c = simp (lt-ltb _ _ c.if-byte-gt3.true)

pub returns-else-byte-gt3 : goal.returns-else-byte-gt3
unfolding kind_of_byte pick
returns-else-byte-gt3 c = simp (le-ltb _ _ c.if-byte-gt3.false)
