use Rattle.std.proofs.Common.{refl, rules}
use Rattle.code.proofs.There.{there, cut}
use Rattle.in_frame.specs.Tries.{one_byte}
use Rattle.in_frame.proofs.Branching.{near_cut, near_goes}
use Rattle.in_frame.proofs.Answers.{instead}
use mathlib.Core.Path.{ap}
use mathlib.Core.Bool.{not}
use Rattle.in_frame.proofs.branches.near.Goals as goal

pub returns-then-not-whole : goal.returns-then-not-whole
returns-then-not-whole c = rw c.ends.ensures (record { own = search rules; meets = λ P s f e. near_cut P _ _ _ _ c.requires.at_range.0 c.requires.at_range.1 refl f e (cut c.whole.ensures (ap not c.if-not-whole.true)) })

pub byte_after-requires : goal.byte_after-requires
byte_after-requires c = there c.whole.ensures (ap not c.if-not-whole.false)

pub led-target-requires : goal.led-target-requires
led-target-requires c = (one_byte, search rules, search rules)

pub returns : goal.returns
returns c = record { own = c.branch-y.ensures.own; meets = λ P s f e. instead (near_goes P _ _ _ _ c.requires.at_range.0 c.requires.at_range.1 refl f e (there c.whole.ensures (ap not c.if-not-whole.false)) c.byte_after.ensures.1 c.byte_after.ensures.0 c.led-target.ensures) (c.branch-y.ensures.meets s) }
