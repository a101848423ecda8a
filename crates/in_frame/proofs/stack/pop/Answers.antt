use Rattle.std.proofs.Common.{rules}
use Rattle.state.specs.Work.{goto}
use Rattle.in_frame.proofs.Answers.{pop_none, pop_goes}
use Rattle.in_frame.proofs.stack.pop.Goals as goal

pub returns-then-sp-y : goal.returns-then-sp-y
returns-then-sp-y c = rw c.ends.ensures (record { own = search rules; meets = λ s. pop_none _ _ _ c.if-sp-y.true })

pub returns : goal.returns
unfolding goto
returns c = record { own = search rules; meets = λ s. pop_goes _ _ _ c.if-sp-y.false }
