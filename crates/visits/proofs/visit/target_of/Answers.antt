use Rattle.visits.proofs.Branches.{target_near, target_far}
use mathlib.Core.Path.{◌∙◌}
use Rattle.visits.proofs.visit.target_of.Goals as goal

pub returns-then-op-lt-FIRST_FAR : goal.returns-then-op-lt-FIRST_FAR
returns-then-op-lt-FIRST_FAR c =
    c.target.ensures ∙ target_near _ _ _ c.if-op-lt-FIRST_FAR.true

pub returns : goal.returns
returns c =
    c.target-2.ensures ∙ target_far _ _ _ c.if-op-lt-FIRST_FAR.false
