use Rattle.std.proofs.Common.{rules, ◌∷◌}
use Rattle.model.specs.Tables.{int32}
use Rattle.shapes.specs.Effects.{compare_effect}
use Rattle.shapes.proofs.Doing.{paired, compare_bad, byte_1}
use Rattle.shapes.proofs.Replies.{brings, passes_on}
use Rattle.shapes.proofs.Showing.{height, under}
use Rattle.shapes.proofs.shape.Pool.compare.Goals as goal

pub returns-in_err-first-clause-effect : goal.returns-in_err-first-clause-effect
returns-in_err-first-clause-effect c = λ f S w.
    passes_on _ _ _ _ (compare_effect c.args.pair S) (search rules) (c.in_err-first.ensures.effect f S w) (compare_bad c.args.pair S)

pub returns-clause-effect : goal.returns-clause-effect
returns-clause-effect c = λ f S w.
    let k = paired _ c.args.pair S _ (c.in_ok-first.ensures.effect f S w).0 in
    brings _ _ _ int32 k.rest (compare_effect c.args.pair S) _ _ _ k.compared c.requires.made_below c.put.ensures.result
    c.put.ensures.pool byte_1 (height _ (k.top ∷ k.rest) _ k.shows) (under _ k.top k.rest _ _ f k.shows c.below-rest.ensures.below) f
