use borrow.Author.Rules.{rules}
use Rattle.code.proofs.There.{there, cut}
use Rattle.in_frame.proofs.Answers.{instead}
use Rattle.operator_steps.proofs.Opcodes.{comparisons}
use Rattle.operator_steps.proofs.Second.{second_cut, second_none, second_does}
use mathlib.Core.Path.{ap}
use mathlib.Core.Bool.{not}
use Rattle.operator_steps.proofs.operations.compared.Goals as goal

pub returns-then-not-whole : goal.returns-then-not-whole
returns-then-not-whole c = rw c.ends.ensures (record { own = search rules; meets = λ P s b. second_cut P _ _ _ c.requires.at_range.0 b (cut c.whole.ensures (ap not c.if-not-whole.true)) })

pub byte_after-requires : goal.byte_after-requires
byte_after-requires c = there c.whole.ensures (ap not c.if-not-whole.false)

pub returns-in-1 : goal.returns-in-1
returns-in-1 c = record { own = c.binary.ensures.own; meets = λ P s b. instead (second_does P _ _ _ c.requires.at_range.0 b (there c.whole.ensures (ap not c.if-not-whole.false)) c.byte_after.ensures.0 1 _ comparisons.0 c.in-1.is) (c.binary.ensures.meets s) }

pub returns-in-2 : goal.returns-in-2
returns-in-2 c = record { own = c.binary-in-2.ensures.own; meets = λ P s b. instead (second_does P _ _ _ c.requires.at_range.0 b (there c.whole.ensures (ap not c.if-not-whole.false)) c.byte_after.ensures.0 2 _ comparisons.1 c.in-2.is) (c.binary-in-2.ensures.meets s) }

pub returns-in-3 : goal.returns-in-3
returns-in-3 c = record { own = c.binary-in-3.ensures.own; meets = λ P s b. instead (second_does P _ _ _ c.requires.at_range.0 b (there c.whole.ensures (ap not c.if-not-whole.false)) c.byte_after.ensures.0 3 _ comparisons.2 c.in-3.is) (c.binary-in-3.ensures.meets s) }

pub returns-in-4 : goal.returns-in-4
returns-in-4 c = record { own = c.binary-in-4.ensures.own; meets = λ P s b. instead (second_does P _ _ _ c.requires.at_range.0 b (there c.whole.ensures (ap not c.if-not-whole.false)) c.byte_after.ensures.0 4 _ comparisons.3 c.in-4.is) (c.binary-in-4.ensures.meets s) }

pub returns-in-5 : goal.returns-in-5
returns-in-5 c = record { own = c.binary-in-5.ensures.own; meets = λ P s b. instead (second_does P _ _ _ c.requires.at_range.0 b (there c.whole.ensures (ap not c.if-not-whole.false)) c.byte_after.ensures.0 5 _ comparisons.4 c.in-5.is) (c.binary-in-5.ensures.meets s) }

pub returns-in_default : goal.returns-in_default
returns-in_default c = rw c.ends-in_default.ensures (record { own = search rules; meets = λ P s b. second_none P _ _ _ c.requires.at_range.0 b (there c.whole.ensures (ap not c.if-not-whole.false)) c.byte_after.ensures.0 c.in_default.in_default-own.rest })
