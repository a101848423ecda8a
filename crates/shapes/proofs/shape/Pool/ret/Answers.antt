use Rattle.std.proofs.Common.{arith, sym, ◌∙◌, []}
use Rattle.shapes.specs.declared.fault.FaultKind.TheVariants.{TooFew, WrongType}
use Rattle.model.specs.Check.{plain_effect}
use Rattle.model.specs.Code.{ret}
use Rattle.shapes.proofs.Doing.{gives_none, gives_some, by_height, void_right, void_wrong, ret_few, ret_wrong, ret_more, ret_right}
use Rattle.shapes.proofs.Replies.{refuses, leaves, one}
use Rattle.shapes.proofs.Showing.{height, empty_shows}
use Rattle.shapes.proofs.shape.Pool.ret.Goals as goal

pub returns-then-h-ne0-clause-effect : goal.returns-then-h-ne0-clause-effect
returns-then-h-ne0-clause-effect c = λ M m p q f S w.
    refuses _ WrongType _ (void_wrong M m S (gives_none _ _ q c.if-due-eq-NULL.true) (λ z. c.if-h-ne0.true (height _ S _ w ∙ z))) (omega arith) f

pub returns-then-due-eq-NULL-clause-effect : goal.returns-then-due-eq-NULL-clause-effect
returns-then-due-eq-NULL-clause-effect c = λ M m p q f S w.
    leaves _ _ [] (plain_effect M m ret S) (void_right M m S (gives_none _ _ q c.if-due-eq-NULL.true) (sym (height _ S _ w) ∙ c.if-h-ne0.false))
    (empty_shows _ f) f

pub returns-then-h-lt1-clause-effect : goal.returns-then-h-lt1-clause-effect
returns-then-h-lt1-clause-effect c = λ M m p q f S w.
    let g = gives_some _ _ q c.if-due-eq-NULL.false in
    refuses _ TooFew _ (ret_few M m g.type S g.is (by_height _ _ _ (height _ S _ w) c.if-h-lt1.true)) (omega arith) f

pub returns-then-not-fits-clause-effect : goal.returns-then-not-fits-clause-effect
returns-then-not-fits-clause-effect c = λ M m p q f S w.
    let g = gives_some _ _ q c.if-due-eq-NULL.false in
    let o = one c.args.self.now S _ f c.if-h-lt1.false w in
    refuses _ WrongType _ (ret_wrong M m g.type o.top S o.rest g.is o.is
    (sym c.if-not-fits.true ∙ c.fits.ensures M.parents o.top g.type p o.byte g.byte)) (omega arith) f

pub returns-then-h-ne1-clause-effect : goal.returns-then-h-ne1-clause-effect
returns-then-h-ne1-clause-effect c = λ M m p q f S w.
    let g = gives_some _ _ q c.if-due-eq-NULL.false in
    let o = one c.args.self.now S _ f c.if-h-lt1.false w in
    refuses _ WrongType _ (ret_more M m g.type o.top S o.rest g.is o.is
    (sym c.if-not-fits.false ∙ c.fits.ensures M.parents o.top g.type p o.byte g.byte) (λ z. c.if-h-ne1.true (height _ S _ w ∙ z))) (omega arith) f

pub returns-clause-effect : goal.returns-clause-effect
returns-clause-effect c = λ M m p q f S w.
    let g = gives_some _ _ q c.if-due-eq-NULL.false in
    let o = one c.args.self.now S _ f c.if-h-lt1.false w in
    leaves _ _ [] (plain_effect M m ret S) (ret_right M m g.type o.top S o.rest g.is o.is
    (sym c.if-not-fits.false ∙ c.fits.ensures M.parents o.top g.type p o.byte g.byte) (sym (height _ S _ w) ∙ c.if-h-ne1.false))
    (empty_shows _ f) f
