use Rattle.std.proofs.Common.{ap, rules}
use Rattle.operators.specs.Gives.{jump_by}
use Rattle.state.specs.Work.{goto}
use Rattle.in_frame.proofs.Branching.{branch_out, branch_always, branch_true, branch_false, branch_when}
use Rattle.in_frame.proofs.Answers.{instead}
use Rattle.in_frame.proofs.branches.branch.Goals as goal

pub returns-then-len-target : goal.returns-then-len-target
returns-then-len-target c = rw c.ends.ensures (record { own = search rules; meets = λ s. branch_out _ _ _ _ _ _ c.if-len-target.true })

pub returns-in-Always : goal.returns-in-Always
unfolding goto
returns-in-Always c = record { own = search rules; meets = λ s. branch_always _ _ _ _ _ _ c.if-len-target.false (ap jump_by c.in-Always.is) }

pub returns-in-IfTrue : goal.returns-in-IfTrue
returns-in-IfTrue c = record { own = c.test.ensures.own; meets = λ s. instead (branch_true _ _ _ _ _ _ c.if-len-target.false (ap jump_by c.in-IfTrue.is)) (c.test.ensures.meets s) }

pub returns-in-IfFalse : goal.returns-in-IfFalse
returns-in-IfFalse c = record { own = c.test-in-IfFalse.ensures.own; meets = λ s. instead (branch_false _ _ _ _ _ _ c.if-len-target.false (ap jump_by c.in-IfFalse.is)) (c.test-in-IfFalse.ensures.meets s) }

pub returns-in-When : goal.returns-in-When
returns-in-When c = record { own = c.when.ensures.own; meets = λ s. instead (branch_when _ _ _ _ _ _ c.if-len-target.false (ap jump_by c.in-When.is)) (c.when.ensures.meets s) }
