use Rattle.std.proofs.Common.{rules}
use Rattle.in_frame.proofs.Answers.{instead, ldarg_out, ldarg_loads}
use Rattle.in_frame.proofs.variables.ldarg.Goals as goal

pub returns-then-i-ge-ARGUMENTS : goal.returns-then-i-ge-ARGUMENTS
returns-then-i-ge-ARGUMENTS c = rw c.ends.ensures (record { own = search rules; meets = λ s. ldarg_out _ _ _ _ _ c.if-i-ge-ARGUMENTS.true })

pub returns : goal.returns
returns c = record { own = c.load.ensures.own; meets = λ s. instead (ldarg_loads _ _ _ _ _ c.if-i-ge-ARGUMENTS.false) (c.load.ensures.meets s) }
