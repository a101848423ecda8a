use borrow.Author.Rules.{rules}
use Rattle.in_frame.proofs.Answers.{instead}
use Rattle.fields.proofs.Acting.{reaches, ldfld_refused, ldfld_does}
use Rattle.fields.proofs.members.object_load.Goals as goal

pub returns-in-Err : goal.returns-in-Err
returns-in-Err c = rw c.ends.ensures (record { own = search rules; meets = λ P s l. ldfld_refused P _ _ _ l c.requires.at_range.0 c.requires.get_or_is c.field_named.ensures c.in-Err.is })

pub ldfld-requires : goal.ldfld-requires
ldfld-requires c = record { reaches = reaches c.requires.reaches (c.field_named.ensures.few _ c.in-Ok.is); field_cell_is = c.field_named.ensures.flagged _ c.in-Ok.is; placed = c.requires.placed }

pub returns-in-Ok : goal.returns-in-Ok
returns-in-Ok c = record { own = c.ldfld.ensures.own; meets = λ P s l. instead (ldfld_does P _ _ _ l c.requires.at_range.0 c.field_named.ensures c.in-Ok.is c.requires.get_or_is) (c.ldfld.ensures.meets s) }
