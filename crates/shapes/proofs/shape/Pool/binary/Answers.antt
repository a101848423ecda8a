use Rattle.std.proofs.Common.{arith, sym, ◌∷◌, ◌∙◌}
use Rattle.shapes.specs.declared.fault.FaultKind.TheVariants.{TooFew, WrongType}
use Rattle.shapes.specs.Effects.{binary_effect}
use Rattle.shapes.proofs.Doing.{binary_few, binary_few_1, binary_right, binary_wrong}
use Rattle.shapes.proofs.Replies.{refuses, leaves, two, few_2}
use Rattle.shapes.proofs.shape.Pool.binary.Goals as goal

pub returns-then-self-s-lt2-clause-effect : goal.returns-then-self-s-lt2-clause-effect
returns-then-self-s-lt2-clause-effect c = λ f S w. refuses _ TooFew _ (few_2 c.args.self.now (binary_effect c.args.pair) _ 13 (binary_few _) (binary_few_1 _) c.if-self-s-lt2.true S w) (omega arith) f

pub returns-then-not-takes-clause-effect : goal.returns-then-not-takes-clause-effect
returns-then-not-takes-clause-effect c = λ f S w.
    let o = two c.args.self.now S _ f c.if-self-s-lt2.false w in
    refuses _ WrongType _ (binary_wrong c.args.pair o.top o.next S o.rest o.is
    (sym c.if-not-takes.true ∙ c.takes.ensures o.next o.top (o.next_byte _ c.below-first.ensures.below) o.byte)) (omega arith) f

pub returns-clause-effect : goal.returns-clause-effect
returns-clause-effect c = λ f S w.
    let o = two c.args.self.now S _ f c.if-self-s-lt2.false w in
    leaves _ _ (o.next ∷ o.rest) (binary_effect c.args.pair S) (binary_right c.args.pair o.top o.next S o.rest o.is
    (sym c.if-not-takes.false ∙ c.takes.ensures o.next o.top (o.next_byte _ c.below-first.ensures.below) o.byte))
    (o.below _ c.below-first.ensures.below) f
