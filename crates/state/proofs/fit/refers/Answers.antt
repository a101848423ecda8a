use Rattle.std.proofs.Common.{arith}
use Rattle.state.specs.Work.{in_set}
use Rattle.state.proofs.Referring.{refers_far, refers_near}
use Rattle.state.proofs.fit.refers.Goals as goal

pub returns-then-place-gt255 : goal.returns-then-place-gt255
returns-then-place-gt255 c =
    refers_far _ _ (omega arith) c.wrapping_sub_u64-place.ensures.value _ _ _ c.if-place-gt255.true

pub bounds-ancestors-class : goal.bounds-ancestors-class
bounds-ancestors-class c =
    omega (arith, c.requires.few c.wrapping_sub_u64-place.result, c.wide-class.ensures.0)

pub returns : goal.returns
unfolding in_set
returns c =
    rw c.wide-class.ensures.0 (refers_near _ _ (omega arith) c.wrapping_sub_u64-place.ensures.value _ _ _ c.if-place-gt255.false)
