use Rattle.std.proofs.Common.{rules, ◌∙◌}
use Rattle.model.specs.Check.{effect}
use Rattle.model.specs.Code.{Act}
use Rattle.model.specs.Tables.{class}
use Rattle.shapes.proofs.Doing.{ldfld_bad, ldfld_right, one_less}
use Rattle.shapes.proofs.Replies.{brings, passes_on, taken}
use Rattle.shapes.proofs.Showing.{height}
use Rattle.shapes.proofs.shape.Pool.ldfld.Goals as goal

pub returns-in_err-rest-clause-effect : goal.returns-in_err-rest-clause-effect
returns-in_err-rest-clause-effect c = λ M m d p e q f S w.
    passes_on _ _ _ _ (effect M m (Act.ldfld 0 d) S) (search rules) (c.in_err-rest.ensures.effect M (class d.owner) p e f S w) (ldfld_bad M m d S)

pub returns-clause-effect : goal.returns-clause-effect
returns-clause-effect c = λ M m d p e q f S w.
    let k = taken _ _ _ (c.in_ok-rest.ensures.effect M (class d.owner) p e f S w).0 in
    brings _ _ _ d.type k.shape (effect M m (Act.ldfld 0 d) S) _ _ _ (ldfld_right M m d S k.shape k.is) c.requires.made_below c.put.ensures.result
    c.put.ensures.pool q (height _ S _ w ∙ one_less M _ S k.shape k.is) k.shows f
