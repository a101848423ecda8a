use Rattle.std.proofs.Common.{arith, sym, ◌∙◌}
use Rattle.shapes.specs.declared.fault.FaultKind.TheVariants.{TooFew, WrongType}
use Rattle.model.specs.Check.{pops_one}
use Rattle.shapes.proofs.Doing.{store_few, store_right, store_wrong}
use Rattle.shapes.proofs.Replies.{refuses, leaves, one, few_1}
use Rattle.shapes.proofs.shape.Pool.store.Goals as goal

pub returns-then-self-s-lt1-clause-effect : goal.returns-then-self-s-lt1-clause-effect
returns-then-self-s-lt1-clause-effect c = λ M u p e f S w. refuses _ TooFew _ (few_1 c.args.self.now (pops_one M u) _ 13 (store_few M u) c.if-self-s-lt1.true S w) (omega arith) f

pub returns-then-not-fits-clause-effect : goal.returns-then-not-fits-clause-effect
returns-then-not-fits-clause-effect c = λ M u p e f S w.
    let o = one c.args.self.now S _ f c.if-self-s-lt1.false w in
    refuses _ WrongType _ (store_wrong M u o.top S o.rest o.is (sym c.if-not-fits.true ∙ c.fits.ensures M.parents o.top u p o.byte e)) (omega arith) f

pub returns-clause-effect : goal.returns-clause-effect
returns-clause-effect c = λ M u p e f S w.
    let o = one c.args.self.now S _ f c.if-self-s-lt1.false w in
    leaves _ _ o.rest (pops_one M u S) (store_right M u o.top S o.rest o.is (sym c.if-not-fits.false ∙ c.fits.ensures M.parents o.top u p o.byte e))
    (o.below _ c.below.ensures.below) f
