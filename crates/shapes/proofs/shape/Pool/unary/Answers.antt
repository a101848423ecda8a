use Rattle.std.proofs.Common.{arith, refl}
use Rattle.shapes.specs.declared.fault.FaultKind.TheVariants.{TooFew, WrongType}
use Rattle.model.specs.Check.{plain_effect}
use Rattle.model.specs.Code.{unary}
use Rattle.shapes.specs.Kinds.{unary_by}
use Rattle.shapes.proofs.Doing.{unary_few, unary_right, unary_wrong}
use Rattle.shapes.proofs.Replies.{refuses, brings, one, few_1}
use Rattle.shapes.proofs.shape.Pool.unary.Goals as goal

pub returns-then-h-lt1-clause-effect : goal.returns-then-h-lt1-clause-effect
returns-then-h-lt1-clause-effect c = λ M m f S w. refuses _ TooFew _ (few_1 c.args.self.now (plain_effect M m (unary (unary_by c.args.operator))) _ 13 (unary_few M m _) c.if-h-lt1.true S w) (omega arith) f

pub returns-in_default-clause-effect : goal.returns-in_default-clause-effect
returns-in_default-clause-effect c = λ M m f S w.
    let o = one c.args.self.now S _ f c.if-h-lt1.false w in
    refuses _ WrongType _ (unary_wrong M m _ o.top S o.rest o.is (rw (← c.gives-given.ensures o.top o.byte, c.in_default.is) refl)) (omega arith) f

pub returns-clause-effect : goal.returns-clause-effect
returns-clause-effect c = λ M m f S w.
    let o = one c.args.self.now S _ f c.if-h-lt1.false w in
    let u = unary_right M m (unary_by c.args.operator) o.top S o.rest c.in-Some.t o.is (rw (← c.gives-given.ensures o.top o.byte, c.in-Some.is) refl) in
    brings _ _ _ u.type o.rest (plain_effect M m (unary (unary_by c.args.operator)) S) _ _ _ u.is c.requires.made_below c.put.ensures.result
    c.put.ensures.pool u.byte o.height (o.below _ c.below-rest.ensures.below) f
