use Rattle.std.proofs.Common.{arith}
use Rattle.shapes.proofs.Walks.{walk_start, walk_heights, walk_meet, walk_differ, walk_next, walk_end}
use Rattle.shapes.proofs.shape.Pool.same.Goals as goal

pub returns-then-height-self : goal.returns-then-height-self
returns-then-height-self c = λ A B f v w. walk_heights _ A B _ _ v w c.if-height-self.true

pub loop-i-init : goal.loop-i-init
loop-i-init c = record {
  x_below = c.requires.a_below;
  y_below = c.requires.b_below;
  walk = λ A B f v w. walk_start _ A B _ _ _ v w (omega arith) c.if-height-self.false;
}

pub returns-then-x-y : goal.returns-then-x-y
returns-then-x-y c = λ A B f v w. walk_meet _ A B _ _ _ (c.loop-i.invariant.walk A B f v w) c.if-x-y.true

pub returns-then-self-x : goal.returns-then-self-x
returns-then-self-x c = λ A B f v w. walk_differ _ A B _ _ _ f (c.loop-i.invariant.walk A B f v w) (omega arith) c.if-self-x.true

pub loop-i-preserved : goal.loop-i-preserved
loop-i-preserved c = record {
  x_below = c.below-x.ensures.result_below;
  y_below = c.below-y.ensures.result_below;
  walk = λ A B f v w. walk_next _ A B _ _ _ f (c.loop-i.invariant.walk A B f v w) (omega arith) _ _ _ (omega arith) c.if-self-x.false c.below-x.ensures.below
      c.below-y.ensures.below;
}

pub returns : goal.returns
returns c = λ A B f v w. walk_end _ A B _ _ _ (c.loop-i.invariant.walk A B f v w) (omega arith)
