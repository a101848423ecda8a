-- `state_cell` meets its contract, part by part.
use mathlib.Core.Path.{◌∙◌}
use Rattle.host.proofs.Places.{in_live, in_kinds, in_frames, in_statics, in_marks, in_classes, in_heap}
use Rattle.host.proofs.states.state_cell.Goals as goal

pub returns-then-i-lt-KINDS : goal.returns-then-i-lt-KINDS
returns-then-i-lt-KINDS c = in_live _ _ c.if-i-lt-KINDS.true

pub returns-then-i-lt-STACKS : goal.returns-then-i-lt-STACKS
returns-then-i-lt-STACKS c =
    let tested = c in
    c.from.ensures ∙ in_kinds _ _ _ c.place.ensures.0 tested.if-i-lt-KINDS.false tested.if-i-lt-STACKS.true

pub returns-then-i-lt-STATICS : goal.returns-then-i-lt-STATICS
returns-then-i-lt-STATICS c = in_frames _ _ _ c.frame_place.ensures.0 c.if-i-lt-STACKS.false c.if-i-lt-STATICS.true

pub returns-then-i-lt-MARKS : goal.returns-then-i-lt-MARKS
returns-then-i-lt-MARKS c = in_statics _ _ c.if-i-lt-STATICS.false c.if-i-lt-MARKS.true

pub returns-then-i-lt-CLASSES : goal.returns-then-i-lt-CLASSES
returns-then-i-lt-CLASSES c = c.from-then-i-lt-CLASSES.ensures ∙ in_marks _ _ c.if-i-lt-MARKS.false c.if-i-lt-CLASSES.true

pub returns-then-i-lt-HEAP : goal.returns-then-i-lt-HEAP
returns-then-i-lt-HEAP c = c.from-then-i-lt-HEAP.ensures ∙ in_classes _ _ c.if-i-lt-CLASSES.false c.if-i-lt-HEAP.true

pub returns : goal.returns
returns c = in_heap _ _ c.if-i-lt-HEAP.false
