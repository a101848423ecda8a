use Rattle.std.proofs.Common.{rules}
use Rattle.in_frame.proofs.Answers.{instead, dup_none, dup_pushes}
use Rattle.in_frame.proofs.stack.dup.Goals as goal

pub returns-then-sp-y : goal.returns-then-sp-y
returns-then-sp-y c = rw c.ends.ensures (record { own = search rules; meets = λ s. dup_none _ _ _ c.if-sp-y.true })

pub returns : goal.returns
returns c = record { own = c.push.ensures.own; meets = λ s. instead (dup_pushes _ _ _ c.if-sp-y.false) (c.push.ensures.meets s) }
