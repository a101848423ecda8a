-- `frame_place` meets its contract, part by part.
use mathlib.Core.Path.{◌∙◌}
use Rattle.host.proofs.Places.{in_stacks, in_arguments, in_locals, in_offsets, in_heights, in_methods}
use Rattle.host.proofs.states.frame_place.Goals as goal

pub returns-then-i-lt-ARGUMENTS : goal.returns-then-i-lt-ARGUMENTS
returns-then-i-lt-ARGUMENTS c = (c.place.ensures.0 ∙ in_stacks _ c.if-i-lt-ARGUMENTS.true, c.place.ensures.1)

pub returns-then-i-lt-LOCALS : goal.returns-then-i-lt-LOCALS
returns-then-i-lt-LOCALS c = (c.place-then-i-lt-LOCALS.ensures.0 ∙ in_arguments _ c.if-i-lt-ARGUMENTS.false c.if-i-lt-LOCALS.true, c.place-then-i-lt-LOCALS.ensures.1)

pub returns-then-i-lt-OFFSETS : goal.returns-then-i-lt-OFFSETS
returns-then-i-lt-OFFSETS c = (c.place-then-i-lt-OFFSETS.ensures.0 ∙ in_locals _ c.if-i-lt-LOCALS.false c.if-i-lt-OFFSETS.true, c.place-then-i-lt-OFFSETS.ensures.1)

pub returns-then-i-lt-HEIGHTS : goal.returns-then-i-lt-HEIGHTS
returns-then-i-lt-HEIGHTS c = (c.place-then-i-lt-HEIGHTS.ensures.0 ∙ in_offsets _ c.if-i-lt-OFFSETS.false c.if-i-lt-HEIGHTS.true, c.place-then-i-lt-HEIGHTS.ensures.1)

pub returns-then-i-lt-METHODS : goal.returns-then-i-lt-METHODS
returns-then-i-lt-METHODS c = (c.place-then-i-lt-METHODS.ensures.0 ∙ in_heights _ c.if-i-lt-HEIGHTS.false c.if-i-lt-METHODS.true, c.place-then-i-lt-METHODS.ensures.1)

pub returns : goal.returns
returns c = (c.place-2.ensures.0 ∙ in_methods _ c.if-i-lt-METHODS.false, c.place-2.ensures.1)
