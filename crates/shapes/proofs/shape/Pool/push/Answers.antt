use Rattle.std.proofs.Common.{arith, add-one, ap, suc, ◌∙◌}
use Rattle.shapes.specs.declared.fault.FaultKind.TheVariants.{TooMany}
use Rattle.model.specs.Check.{pushes}
use Rattle.shapes.proofs.Doing.{push_full, push_room}
use Rattle.shapes.proofs.Replies.{refuses, brings}
use Rattle.shapes.proofs.Showing.{height}
use Rattle.shapes.proofs.shape.Pool.push.Goals as goal

pub returns-then-max-h-clause-effect : goal.returns-then-max-h-clause-effect
returns-then-max-h-clause-effect c = λ m u e q f S w. refuses _ TooMany _ (push_full m u S _ _ e (height _ S _ w) c.if-max-h.true) (omega arith) f

pub returns-clause-effect : goal.returns-clause-effect
returns-clause-effect c = λ m u e q f S w.
    brings _ _ _ u S (pushes m u S) _ _ _ (push_room m u S _ _ e (height _ S _ w) c.if-max-h.false) c.requires.made_below c.put.ensures.result
    c.put.ensures.pool q (add-one _ ∙ ap suc (height _ S _ w)) w f
