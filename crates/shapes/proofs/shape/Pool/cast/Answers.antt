use Rattle.std.proofs.Common.{arith}
use Rattle.shapes.specs.declared.fault.FaultKind.TheVariants.{TooFew, WrongType}
use Rattle.model.specs.Check.{cast_effect}
use Rattle.shapes.proofs.Doing.{cast_few, cast_right, cast_wrong}
use Rattle.model.specs.Tables.{class}
use Rattle.shapes.specs.declared.kind.Kind.TheVariants.{Reference}
use Rattle.shapes.proofs.Operators.{same_kind, other_kind}
use Rattle.shapes.proofs.Replies.{refuses, brings, one, few_1}
use Rattle.shapes.proofs.shape.Pool.cast.Goals as goal

pub returns-then-h-lt1-clause-effect : goal.returns-then-h-lt1-clause-effect
returns-then-h-lt1-clause-effect c = λ k q f S w. refuses _ TooFew _ (few_1 c.args.self.now (cast_effect k) _ 13 (cast_few k) c.if-h-lt1.true S w) (omega arith) f

pub returns-then-ne-clause-effect : goal.returns-then-ne-clause-effect
returns-then-ne-clause-effect c = λ k q f S w.
    let o = one c.args.self.now S _ f c.if-h-lt1.false w in
    refuses _ WrongType _ (cast_wrong k o.top S o.rest o.is (other_kind _ Reference _ (c.of.ensures o.top o.byte) c.if-ne.ensures)) (omega arith) f

pub returns-clause-effect : goal.returns-clause-effect
returns-clause-effect c = λ k q f S w.
    let o = one c.args.self.now S _ f c.if-h-lt1.false w in
    brings _ _ _ (class k) o.rest (cast_effect k S) _ _ _
    (cast_right k o.top S o.rest o.is (same_kind _ Reference _ (c.of.ensures o.top o.byte) c.if-ne.ensures)) c.requires.made_below c.put.ensures.result
    c.put.ensures.pool q o.height (o.below _ c.below-rest.ensures.below) f
