use Rattle.std.proofs.Common.{arith}
use Rattle.shapes.specs.declared.fault.FaultKind.TheVariants.{TooFew}
use Rattle.model.specs.Check.{plain_effect}
use Rattle.model.specs.Code.{pop}
use Rattle.shapes.proofs.Doing.{pop_few, pop_is}
use Rattle.shapes.proofs.Replies.{refuses, leaves, one, few_1}
use Rattle.shapes.proofs.shape.Pool.pop.Goals as goal

pub returns-then-self-s-lt1-clause-effect : goal.returns-then-self-s-lt1-clause-effect
returns-then-self-s-lt1-clause-effect c = λ M m f S w. refuses _ TooFew _ (few_1 c.args.self.now (plain_effect M m pop) _ 13 (pop_few M m) c.if-self-s-lt1.true S w) (omega arith) f

pub returns-clause-effect : goal.returns-clause-effect
returns-clause-effect c = λ M m f S w.
    let o = one c.args.self.now S _ f c.if-self-s-lt1.false w in
    leaves _ _ o.rest (plain_effect M m pop S) (pop_is M m S o.rest o.top o.is) (o.below _ c.below.ensures.below) f
