use Rattle.std.proofs.Common.{arith}
use Rattle.shapes.specs.declared.fault.FaultKind.TheVariants.{TooFew}
use Rattle.model.specs.Check.{plain_effect}
use Rattle.model.specs.Code.{dup}
use Rattle.shapes.proofs.Doing.{dup_few, dup_is}
use Rattle.shapes.proofs.Replies.{refuses, one, few_1, told}
use Rattle.shapes.proofs.shape.Pool.dup.Goals as goal

pub returns-then-self-s-lt1-clause-effect : goal.returns-then-self-s-lt1-clause-effect
returns-then-self-s-lt1-clause-effect c = λ M m e f S w. refuses _ TooFew _ (few_1 c.args.self.now (plain_effect M m dup) _ 13 (dup_few M m) c.if-self-s-lt1.true S w) (omega arith) f

pub returns-clause-effect : goal.returns-clause-effect
returns-clause-effect c = λ M m e f S w.
    let o = one c.args.self.now S _ f c.if-self-s-lt1.false w in
    told _ _ _ (plain_effect M m dup S) _ (dup_is M m S o.rest o.top o.is) (c.push.ensures.effect m o.top e o.byte f S w)
