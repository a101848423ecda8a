use Rattle.std.proofs.Common.{rules}
use Rattle.in_frame.proofs.Answers.{instead, load_none, load_pushes}
use Rattle.in_frame.proofs.variables.load.Goals as goal

pub returns-then-k-gt3 : goal.returns-then-k-gt3
returns-then-k-gt3 c = rw c.ends.ensures (record { own = search rules; meets = λ s. load_none _ _ _ _ _ c.if-k-gt3.true })

pub returns : goal.returns
returns c = record { own = c.push.ensures.own; meets = λ s. instead (load_pushes _ _ _ _ _ c.if-k-gt3.false) (c.push.ensures.meets s) }
