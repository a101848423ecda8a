use Rattle.std.proofs.Common.{rules}
use Rattle.in_frame.proofs.Answers.{instead, starg_out, starg_stores}
use Rattle.in_frame.proofs.variables.starg.Goals as goal

pub returns-then-i-ge-ARGUMENTS : goal.returns-then-i-ge-ARGUMENTS
returns-then-i-ge-ARGUMENTS c = rw c.ends.ensures (record { own = search rules; meets = λ s e. starg_out _ _ _ _ _ _ c.if-i-ge-ARGUMENTS.true })

pub store-requires : goal.store-requires
store-requires c = record { stays = search rules; topped = search rules; i_below = search rules; placed = c.requires.placed }

pub returns : goal.returns
returns c = record { own = c.store.ensures.own; meets = λ s e. instead (starg_stores _ _ _ _ _ _ c.if-i-ge-ARGUMENTS.false) (c.store.ensures.meets s e) }
