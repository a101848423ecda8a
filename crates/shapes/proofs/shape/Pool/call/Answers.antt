use Rattle.std.proofs.Common.{arith, ◌≡◌, ◌≤◌, length, get_or, drop}
use Rattle.shapes.specs.declared.fault.FaultKind.TheVariants.{TooFew, TooMany, WrongType}
use Rattle.model.specs.Check.{pushes}
use Rattle.shapes.specs.Effects.{called_effect}
use Rattle.shapes.proofs.Doing.{call_few, calling, call_wrong_by, call_void_full_by, call_void_room_by, call_pushes_by, gives_none, gives_some}
use Rattle.shapes.proofs.Replies.{refuses, leaves, told}
use Rattle.shapes.proofs.Showing.{height}
use Rattle.shapes.proofs.shape.Pool.call.Goals as goal

pub returns-then-self-s-clause-effect : goal.returns-then-self-s-clause-effect
returns-then-self-s-clause-effect c = λ M m ts o k p t e g f S w.
    let h : get_or c.args.self.now.heights c.args.s 0 ≡ length S = height _ S _ w in
    refuses _ TooFew _ (call_few M m ts o S (omega arith)) (omega arith) f

pub returns-in_default-clause-effect : goal.returns-in_default-clause-effect
returns-in_default-clause-effect c = λ M m ts o k p t e g f S w.
    let h : get_or c.args.self.now.heights c.args.s 0 ≡ length S = height _ S _ w in
    let l : length ts ≤ length S = omega arith in
    let y = c.pops.ensures.pops M.parents ts S p t e l f w in
    refuses _ WrongType _ (call_wrong_by _ M m ts o S _ l y c.in_default.is) (omega arith) f

pub returns-then-gives-ne-NULL-clause-effect : goal.returns-then-gives-ne-NULL-clause-effect
returns-then-gives-ne-NULL-clause-effect c = λ M m ts o k p t e g f S w.
    let h : get_or c.args.self.now.heights c.args.s 0 ≡ length S = height _ S _ w in
    let l : length ts ≤ length S = omega arith in
    let y = c.pops.ensures.pops M.parents ts S p t e l f w in
    let x = calling _ M ts S _ _ l y c.in-Some.is in
    let u = gives_some o _ g c.if-gives-ne-NULL.true in
    told _ _ _ (called_effect M m ts o S) (pushes m u.type (drop (length ts) S)) (call_pushes_by _ M m ts o u.type S _ x u.is)
    (c.push.ensures.effect m u.type k u.byte f (drop (length ts) S) x.shows)

pub returns-then-max-self-clause-effect : goal.returns-then-max-self-clause-effect
returns-then-max-self-clause-effect c = λ M m ts o k p t e g f S w.
    let h : get_or c.args.self.now.heights c.args.s 0 ≡ length S = height _ S _ w in
    let l : length ts ≤ length S = omega arith in
    let y = c.pops.ensures.pops M.parents ts S p t e l f w in
    let x = calling _ M ts S _ _ l y c.in-Some.is in
    refuses _ TooMany _ (call_void_full_by _ M m ts o S _ _ x k (gives_none o _ g c.if-gives-ne-NULL.false) c.if-max-self.true) (omega arith) f

pub returns-clause-effect : goal.returns-clause-effect
returns-clause-effect c = λ M m ts o k p t e g f S w.
    let h : get_or c.args.self.now.heights c.args.s 0 ≡ length S = height _ S _ w in
    let l : length ts ≤ length S = omega arith in
    let y = c.pops.ensures.pops M.parents ts S p t e l f w in
    let x = calling _ M ts S _ _ l y c.in-Some.is in
    leaves _ _ (drop (length ts) S) (called_effect M m ts o S)
    (call_void_room_by _ M m ts o S _ _ x k (gives_none o _ g c.if-gives-ne-NULL.false) c.if-max-self.false) x.shows f
