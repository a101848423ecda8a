use Rattle.std.proofs.Common.{rules}
use Rattle.code.proofs.There.{there, cut}
use Rattle.in_frame.specs.Tries.{one_byte}
use Rattle.in_frame.proofs.Answers.{instead}
use Rattle.in_frame.proofs.Constants.{i4_s_cut, i4_s_does}
use Rattle.in_frame.proofs.Signed.{narrowed}
use mathlib.Core.Path.{ap}
use mathlib.Core.Bool.{not}
use Rattle.in_frame.proofs.stack.ldc_i4_s.Goals as goal

pub returns-then-not-whole : goal.returns-then-not-whole
returns-then-not-whole c = rw c.ends.ensures (record { own = search rules; meets = λ P s e. i4_s_cut P _ _ _ c.requires.at_range.0 e (cut c.whole.ensures (ap not c.if-not-whole.true)) })

pub byte_after-requires : goal.byte_after-requires
byte_after-requires c = there c.whole.ensures (ap not c.if-not-whole.false)

pub away-low-requires : goal.away-low-requires
away-low-requires c = (one_byte, search rules)

pub returns : goal.returns
returns c = record { own = c.push.ensures.own; meets = λ P t e. instead (i4_s_does P _ _ _ c.requires.at_range.0 e (there c.whole.ensures (ap not c.if-not-whole.false)) c.byte_after.ensures.0 (narrowed _ _ c.byte_after.ensures.1 c.away-low.ensures)) (c.push.ensures.meets t) }
