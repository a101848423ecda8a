use Rattle.std.proofs.Common.{arith, refl}
use Rattle.shapes.proofs.Walks.{popping_start, popping_next, popping_wrong, popped_wrong, popped_right, stepped}
use Rattle.shapes.proofs.shape.Pool.pops.Goals as goal

pub loop-i-init : goal.loop-i-init
loop-i-init c = record { rest_below = c.requires.s_below; popping = λ ps ts S p t e l f w. rw (← e) (popping_start _ ps ts S _ _ w l) }

pub returns-then-not-fits-clause-pops : goal.returns-then-not-fits-clause-pops
returns-then-not-fits-clause-pops c = λ ps ts S p t e l f w.
    popped_wrong _ ps ts S _ refl l (popping_wrong _ ps c.args.types.now ts S _ _ _ _ f
    (stepped _ ps ts S _ _ _ c.loop-i-test.true (c.loop-i.invariant.popping ps ts S p t e l f w)) t (omega (arith, c.loop-i.auto.i, e))
    (λ A B y z. c.fits.ensures ps A B p y z) c.if-not-fits.true)

pub loop-i-preserved : goal.loop-i-preserved
loop-i-preserved c = record {
  rest_below = c.below-rest.ensures.result_below;
  popping = λ ps ts S p t e l f w. popping_next _ ps c.args.types.now ts S _ _ _ _ f
      (stepped _ ps ts S _ _ _ c.loop-i-test.true (c.loop-i.invariant.popping ps ts S p t e l f w)) t (omega (arith, c.loop-i.auto.i, e))
      (λ A B y z. c.fits.ensures ps A B p y z) _ c.if-not-fits.false c.below-rest.ensures.below;
}

pub returns-clause-pops : goal.returns-clause-pops
returns-clause-pops c = λ ps ts S p t e l f w.
    popped_right _ ps ts S _ refl l _ _ (c.loop-i.invariant.popping ps ts S p t e l f w) (omega arith)
