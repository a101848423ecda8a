use Rattle.std.proofs.Common.{rules}
use Rattle.shapes.specs.Effects.{when_effect}
use Rattle.shapes.proofs.Doing.{paired, when_bad}
use Rattle.shapes.proofs.Replies.{leaves, passes_on}
use Rattle.shapes.proofs.Showing.{under}
use Rattle.shapes.proofs.shape.Pool.when.Goals as goal

pub returns-in_err-first-clause-effect : goal.returns-in_err-first-clause-effect
returns-in_err-first-clause-effect c = λ f S w.
    passes_on _ _ _ _ (when_effect c.args.pair S) (search rules) (c.in_err-first.ensures.effect f S w) (when_bad c.args.pair S)

pub returns-clause-effect : goal.returns-clause-effect
returns-clause-effect c = λ f S w.
    let k = paired _ c.args.pair S _ (c.in_ok-first.ensures.effect f S w).0 in
    leaves _ _ k.rest (when_effect c.args.pair S) k.tested (under _ k.top k.rest _ _ f k.shows c.below.ensures.below) f
