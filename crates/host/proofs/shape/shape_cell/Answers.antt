-- `shape_cell` meets its contract, part by part.
use mathlib.Core.Path.{◌∙◌}
use Rattle.host.proofs.Places.{in_none, in_starts, in_depth, in_types}
use Rattle.host.proofs.shape.shape_cell.Goals as goal

pub returns-in_default : goal.returns-in_default
returns-in_default c = rw c.in_default.is (in_none _)

pub returns-then-i-lt-DEPTH : goal.returns-then-i-lt-DEPTH
returns-then-i-lt-DEPTH c = rw c.in-Some.is (in_starts _ _ c.if-i-lt-DEPTH.true)

pub returns-then-i-lt-TYPES : goal.returns-then-i-lt-TYPES
returns-then-i-lt-TYPES c = rw c.in-Some.is (in_depth _ _ c.if-i-lt-DEPTH.false c.if-i-lt-TYPES.true)

pub returns : goal.returns
returns c = rw c.in-Some.is (c.from.ensures ∙ in_types _ _ c.if-i-lt-TYPES.false)
