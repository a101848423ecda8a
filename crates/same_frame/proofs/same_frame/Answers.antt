use mathlib.Core.Path.{refl}
use native.Mathlib.Omega.{arith}
use Rattle.fields.specs.Members.{on_member}
use Rattle.between_steps.specs.Running.{Begins}
use Rattle.between_steps.proofs.Going.{enters}
use Rattle.same_frame.proofs.Stepped.{more_left, some_left, one_less, moves_in, asks, past, used_up, goes_to, ends_here}
use Rattle.same_frame.proofs.same_frame.Goals as goal

pub loop-left-init : goal.loop-left-init
loop-left-init c = (omega arith, λ code P w most whole l p h g. g)

-- the run so far, of the tables that were lent

pub returns-then-part-o : goal.returns-then-part-o
returns-then-part-o c = let l = c in
    rw (c.stopped.ensures, c.ends.ensures) (record { left_at_most = l.loop-left.invariant.0; came = λ code P w most whole e p h g. past (l.loop-left.invariant.1 code P w most whole e p h g) (moves_in _ _ p) l.loop-left.left refl (more_left c.loop-left-test.true l.loop-left.invariant.0 h) c.if-part-o.true })

pub bounds-part-o : goal.bounds-part-o
bounds-part-o c = c.if-part-o.false

pub step-requires : goal.step-requires
step-requires c = let l = c in
    let S = l.requires in
    let both = asks ((let it : let S = l.requires in
    Begins S.code S.tables (on_member S.work l.loop-left.o l.loop-left.s l.loop-left.cells l.loop-left.kinds l.loop-left.marks l.args.classes.now l.loop-left.heap l.loop-left.statics) = let S = l.requires in
    (l.loop-left.invariant.1 S.code S.tables S.work l.args.budget _ S.lends S.place (omega arith) (enters (omega arith) S.begins)).begins in it)) (moves_in _ _ S.place) S.lends _ c.if-part-o.false (refl, omega (arith, l.type_inv.part l.loop-left.o)) in record { stays = both.0; topped = both.1.0; reads = both.1.1.0; few = both.1.1.1.0; ranges = both.1.1.1.1 }

pub returns-in_default : goal.returns-in_default
returns-in_default c = let t = c in
    let l = t in
    rw c.stopped-in_default.ensures (record {
      left_at_most = l.loop-left.invariant.0;
      came = λ code P w most whole e p h g. ends_here (l.loop-left.invariant.1 code P w most whole e p h g) (moves_in _ _ p)
          (more_left t.loop-left-test.true l.loop-left.invariant.0 h)
          t.if-part-o.false l.loop-left.left
          (some_left t.loop-left-test.true) refl _ _ (t.step.ensures.tells P w e) c.in_default.not-On;
    })

pub overflow_sub-left : goal.overflow_sub-left
overflow_sub-left c =
    let t = c in some_left t.loop-left-test.true

pub loop-left-smaller : goal.loop-left-smaller
loop-left-smaller c =
    let t = c in
    let z = some_left t.loop-left-test.true in
    omega arith

pub loop-left-preserved : goal.loop-left-preserved
loop-left-preserved c =
    let t = c in
    let l = t in
    let z = some_left t.loop-left-test.true in
    let f = l.loop-left.invariant.0 in (
      omega arith,
      λ code P w most whole e p h g. one_less z f h (goes_to (l.loop-left.invariant.1 code P w most whole e p h g) (moves_in _ _ p)
          (more_left t.loop-left-test.true f h)
          t.if-part-o.false _ (t.step.ensures.tells P w e) c.in-On.is),
    )

pub returns : goal.returns
returns c = let l = c in
    rw (c.stopped-2.ensures, c.ends-2.ensures) (record { left_at_most = omega arith; came = λ code P w most whole e p h g. used_up (l.loop-left.invariant.1 code P w most whole e p h g) (moves_in _ _ p) (omega (arith, c.loop-left-test.false)) })
