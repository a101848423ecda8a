use Rattle.std.proofs.Common.{refl, rules}
use Rattle.code.proofs.There.{there, cut}
use Rattle.in_frame.specs.Tries.{four_bytes}
use Rattle.in_frame.proofs.Branching.{far_cut, far_goes}
use Rattle.in_frame.proofs.Answers.{instead}
use mathlib.Core.Path.{ap}
use mathlib.Core.Bool.{not}
use Rattle.in_frame.proofs.branches.far.Goals as goal

pub returns-then-not-whole : goal.returns-then-not-whole
returns-then-not-whole c = rw c.ends.ensures (record { own = search rules; meets = λ P s f e. far_cut P _ _ _ _ c.requires.at_range.0 c.requires.at_range.1 refl f e (cut c.whole.ensures (ap not c.if-not-whole.true)) })

pub four_after-requires : goal.four_after-requires
four_after-requires c = there c.whole.ensures (ap not c.if-not-whole.false)

pub led-target-requires : goal.led-target-requires
led-target-requires c = (four_bytes, search rules, search rules)

pub returns : goal.returns
returns c = record { own = c.branch-y.ensures.own; meets = λ P s f e. instead (far_goes P _ _ _ _ c.requires.at_range.0 c.requires.at_range.1 refl f e (there c.whole.ensures (ap not c.if-not-whole.false)) c.four_after.ensures.0 c.led-target.ensures) (c.branch-y.ensures.meets s) }
