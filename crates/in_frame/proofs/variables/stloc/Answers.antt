use Rattle.std.proofs.Common.{rules}
use Rattle.in_frame.proofs.Answers.{instead, stloc_out, stloc_stores}
use Rattle.in_frame.proofs.variables.stloc.Goals as goal

pub returns-then-i-ge-LOCAL_COUNT : goal.returns-then-i-ge-LOCAL_COUNT
returns-then-i-ge-LOCAL_COUNT c = rw c.ends.ensures (record { own = search rules; meets = λ s e. stloc_out _ _ _ _ _ _ c.if-i-ge-LOCAL_COUNT.true })

pub store-requires : goal.store-requires
store-requires c = record { stays = search rules; topped = search rules; i_below = search rules; placed = c.requires.placed }

pub returns : goal.returns
returns c = record { own = c.store.ensures.own; meets = λ s e. instead (stloc_stores _ _ _ _ _ _ c.if-i-ge-LOCAL_COUNT.false) (c.store.ensures.meets s e) }
