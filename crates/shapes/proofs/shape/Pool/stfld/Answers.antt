use Rattle.std.proofs.Common.{arith, sym, ◌∙◌}
use Rattle.shapes.specs.declared.fault.FaultKind.TheVariants.{TooFew, WrongType}
use Rattle.model.specs.Check.{effect}
use Rattle.model.specs.Code.{Act}
use Rattle.model.specs.Tables.{class}
use Rattle.shapes.proofs.Doing.{stfld_few, stfld_few_1, stfld_right, stfld_wrong, stfld_wrong_top}
use Rattle.shapes.proofs.Replies.{refuses, leaves, two, few_2}
use Rattle.shapes.proofs.shape.Pool.stfld.Goals as goal

pub returns-then-self-s-lt2-clause-effect : goal.returns-then-self-s-lt2-clause-effect
returns-then-self-s-lt2-clause-effect c = λ M m d p e q f S w. refuses _ TooFew _ (few_2 c.args.self.now (effect M m (Act.stfld 0 d)) _ 13 (stfld_few M m d) (stfld_few_1 M m d) c.if-self-s-lt2.true S w) (omega arith) f

pub returns-then-not-fits-clause-effect : goal.returns-then-not-fits-clause-effect
returns-then-not-fits-clause-effect c = λ M m d p e q f S w.
    let o = two c.args.self.now S _ f c.if-self-s-lt2.false w in
    refuses _ WrongType _ (stfld_wrong M m d o.top o.next S o.rest o.is
    (sym c.if-not-fits.true ∙ c.fits.ensures M.parents o.next (class d.owner) p (o.next_byte _ c.below-object.ensures.below) e)) (omega arith) f

pub returns-then-not-fits-2-clause-effect : goal.returns-then-not-fits-2-clause-effect
returns-then-not-fits-2-clause-effect c = λ M m d p e q f S w.
    let o = two c.args.self.now S _ f c.if-self-s-lt2.false w in
    refuses _ WrongType _ (stfld_wrong_top M m d o.top o.next S o.rest o.is
    (sym c.if-not-fits.false ∙ c.fits.ensures M.parents o.next (class d.owner) p (o.next_byte _ c.below-object.ensures.below) e)
    (sym c.if-not-fits-2.true ∙ c.fits-2.ensures M.parents o.top d.type p o.byte q)) (omega arith) f

pub returns-clause-effect : goal.returns-clause-effect
returns-clause-effect c = λ M m d p e q f S w.
    let o = two c.args.self.now S _ f c.if-self-s-lt2.false w in
    leaves _ _ o.rest (effect M m (Act.stfld 0 d) S) (stfld_right M m d o.top o.next S o.rest o.is
    (sym c.if-not-fits.false ∙ c.fits.ensures M.parents o.next (class d.owner) p (o.next_byte _ c.below-object.ensures.below) e)
    (sym c.if-not-fits-2.false ∙ c.fits-2.ensures M.parents o.top d.type p o.byte q))
    (o.deep _ _ c.below-object.ensures.below c.below.ensures.below) f
