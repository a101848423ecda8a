use Rattle.std.proofs.Common.{rules}
use Rattle.code.proofs.There.{there, cut}
use Rattle.in_frame.proofs.Answers.{instead}
use Rattle.in_frame.proofs.Constants.{r8_cut, r8_does}
use mathlib.Core.Path.{ap}
use mathlib.Core.Bool.{not}
use Rattle.in_frame.proofs.stack.ldc_r8.Goals as goal

pub returns-then-not-whole : goal.returns-then-not-whole
returns-then-not-whole c = rw c.ends.ensures (record { own = search rules; meets = λ P s e. r8_cut P _ _ _ c.requires.at_range.0 e (cut c.whole.ensures (ap not c.if-not-whole.true)) })

pub eight_after-requires : goal.eight_after-requires
eight_after-requires c = there c.whole.ensures (ap not c.if-not-whole.false)

pub returns : goal.returns
returns c = record { own = c.push.ensures.own; meets = λ P t e. instead (r8_does P _ _ _ c.requires.at_range.0 e (there c.whole.ensures (ap not c.if-not-whole.false)) c.eight_after.ensures c.stored_bits.ensures) (c.push.ensures.meets t) }
