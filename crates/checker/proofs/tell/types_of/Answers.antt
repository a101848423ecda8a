use Rattle.std.proofs.Common.{refl}
-- `types_of` meets its contract: types are told from the top down, the first one last.
use Rattle.checker.proofs.Telling.{telling_start, telling_next, telling_end}
use Rattle.shapes.proofs.Showing.{height}
use lib.ListN.{length-set, length-replicate}
use borrow.Author.Rules.{rules}
use native.Mathlib.Omega.{arith}
use Prim.Native.Nat.{ℕ}
use Rattle.checker.proofs.tell.types_of.Goals as goal

pub returns-then-depth-gt-MOST_STACK : goal.returns-then-depth-gt-MOST_STACK
returns-then-depth-gt-MOST_STACK c =
    λ S f w l. absurd (omega (arith, height _ S _ w, c.if-depth-gt-MOST_STACK.true))

pub loop-n-init : goal.loop-n-init
loop-n-init c = (search rules, length-replicate {A = ℕ} 32 0, λ S f w. telling_start _ S _ _ w refl)

pub loop-n-preserved : goal.loop-n-preserved
loop-n-preserved c = (
  c.below-x.ensures.result_below,
  simp length-set c.loop-n.invariant.1,
  λ S f w. telling_next _ S _ _ _ (c.loop-n.invariant.2 S f w) f c.loop-n-test.true c.loop-n.invariant.1 (omega arith) _ c.below-x.ensures.below,
)

pub returns : goal.returns
returns c = λ S f w l. telling_end _ S _ _ _ (c.loop-n.invariant.2 S f w) _ (omega arith) (height _ S _ w)
