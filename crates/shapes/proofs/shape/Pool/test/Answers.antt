use Rattle.std.proofs.Common.{arith}
use Rattle.shapes.specs.declared.fault.FaultKind.TheVariants.{TooFew, WrongType}
use Rattle.model.specs.Check.{test_effect}
use Rattle.shapes.proofs.Doing.{test_few, test_right, test_wrong}
use Rattle.shapes.specs.declared.kind.Kind.TheVariants.{F}
use Rattle.shapes.proofs.Operators.{is_kind, is_no_kind}
use Rattle.shapes.proofs.Replies.{refuses, leaves, one, few_1}
use Rattle.shapes.proofs.shape.Pool.test.Goals as goal

pub returns-then-self-s-lt1-clause-effect : goal.returns-then-self-s-lt1-clause-effect
returns-then-self-s-lt1-clause-effect c = λ f S w. refuses _ TooFew _ (few_1 c.args.self.now (test_effect) _ 13 test_few c.if-self-s-lt1.true S w) (omega arith) f

pub returns-then-eq-clause-effect : goal.returns-then-eq-clause-effect
returns-then-eq-clause-effect c = λ f S w.
    let o = one c.args.self.now S _ f c.if-self-s-lt1.false w in
    refuses _ WrongType _ (test_wrong o.top S o.rest o.is (is_kind _ F _ (c.of.ensures o.top o.byte) c.if-eq.ensures)) (omega arith) f

pub returns-clause-effect : goal.returns-clause-effect
returns-clause-effect c = λ f S w.
    let o = one c.args.self.now S _ f c.if-self-s-lt1.false w in
    leaves _ _ o.rest (test_effect S) (test_right o.top S o.rest o.is (is_no_kind _ F _ (c.of.ensures o.top o.byte) c.if-eq.ensures))
    (o.below _ c.below.ensures.below) f
