use Prim.Native.Nat.{◌+◌, ◌-◌, ◌*◌}
use lib.ListN.{get_or}
use native.Mathlib.Omega.{arith}
use Rattle.begin_end.proofs.Tidied.{objects_more, objects_all, object_left, no_object_left, still_blank}
use Rattle.begin_end.proofs.ending.objects.Goals as goal
use Rattle.begin_end.proofs.ending.objects.Goals.{then-class-ne0, else-class-ne0}

pub loop-place-preserved : goal.loop-place-preserved
loop-place-preserved c =
    objects_more c.args.types.now c.args.classes.now _ c.loop-place.invariant
    elim c.if-class-ne0.branch [
      | then-class-ne0 w ↦ rw (w.heap-is, ← w.from-fields.ensures) (object_left c.args.types.now w.from-fields.result c.loop-place.place c.loop-place.heap _ (omega arith) w.rewrite.ensures.long w.rewrite.ensures.each)
      | else-class-ne0 w ↦ rw w.heap-is (no_object_left (λ j. get_or c.args.types.now (get_or c.args.classes.now c.loop-place.place 0 * 8 + (j - c.loop-place.place * 8)) 0) _ _ (λ j b. still_blank c.args.types.now c.args.classes.now _ c.loop-place.invariant c.requires.blank j b w.if-class-ne0.false))
    ]

pub returns : goal.returns
returns c = objects_all c.args.types.now c.args.classes.now _ c.loop-place.invariant (omega arith) (omega arith)
