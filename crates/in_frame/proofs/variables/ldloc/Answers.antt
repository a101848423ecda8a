use Rattle.std.proofs.Common.{rules}
use Rattle.in_frame.proofs.Answers.{instead, ldloc_out, ldloc_loads}
use Rattle.in_frame.proofs.variables.ldloc.Goals as goal

pub returns-then-i-ge-LOCAL_COUNT : goal.returns-then-i-ge-LOCAL_COUNT
returns-then-i-ge-LOCAL_COUNT c = rw c.ends.ensures (record { own = search rules; meets = λ s. ldloc_out _ _ _ _ _ c.if-i-ge-LOCAL_COUNT.true })

pub returns : goal.returns
returns c = record { own = c.load.ensures.own; meets = λ s. instead (ldloc_loads _ _ _ _ _ c.if-i-ge-LOCAL_COUNT.false) (c.load.ensures.meets s) }
