use borrow.Author.Rules.{rules}
use Rattle.in_frame.proofs.Answers.{instead}
use Rattle.fields.proofs.Acting.{reaches, stsfld_refused, stsfld_does}
use Rattle.fields.proofs.members.static_store.Goals as goal

pub returns-in-Err : goal.returns-in-Err
returns-in-Err c = rw c.ends.ensures (record { own = search rules; meets = λ P s l. stsfld_refused P _ _ _ l c.requires.at_range.0 c.requires.get_or_is c.field_named.ensures c.in-Err.is })

pub stsfld-requires : goal.stsfld-requires
stsfld-requires c = record { reaches = reaches c.requires.reaches (c.field_named.ensures.few _ c.in-Ok.is); placed = c.requires.placed }

pub returns-in-Ok : goal.returns-in-Ok
returns-in-Ok c = record { own = c.stsfld.ensures.own; meets = λ P s l. instead (stsfld_does P _ _ _ l c.requires.at_range.0 c.field_named.ensures c.in-Ok.is c.requires.get_or_is) (c.stsfld.ensures.meets s) }
