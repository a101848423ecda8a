use Rattle.std.proofs.Common.{rules}
use Rattle.code.proofs.There.{there, cut}
use Rattle.in_frame.proofs.Answers.{instead}
use Rattle.in_frame.proofs.Numbered.{shorts, short_cut, ldloc_does}
use mathlib.Core.Path.{ap}
use mathlib.Core.Bool.{not}
use Rattle.in_frame.proofs.variables.ldloc_s.Goals as goal

pub returns-then-not-whole : goal.returns-then-not-whole
returns-then-not-whole c = rw c.ends.ensures (record { own = search rules; meets = λ P s v e. short_cut P _ _ _ c.requires.at_range.0 shorts.2 e (cut c.whole.ensures (ap not c.if-not-whole.true)) })

pub byte_after-requires : goal.byte_after-requires
byte_after-requires c = there c.whole.ensures (ap not c.if-not-whole.false)

pub returns : goal.returns
returns c = record { own = c.ldloc.ensures.own; meets = λ P s v e. instead (ldloc_does P _ _ _ c.requires.at_range.0 (there c.whole.ensures (ap not c.if-not-whole.false)) c.byte_after.ensures.0 e v) (c.ldloc.ensures.meets s) }
