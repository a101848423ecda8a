use borrow.Author.Rules.{rules}
use Rattle.state.specs.Work.{with_heap}
use Rattle.in_frame.proofs.Answers.{instead}
use Rattle.fields.proofs.Acting.{reaches, ldsfld_refused, ldsfld_does}
use Rattle.fields.proofs.members.static_load.Goals as goal

pub returns-in-Err : goal.returns-in-Err
returns-in-Err c = rw c.ends.ensures (record { own = search rules; meets = λ P s l. ldsfld_refused P _ _ _ l c.requires.at_range.0 c.requires.get_or_is c.field_named.ensures c.in-Err.is })

pub ldsfld-requires : goal.ldsfld-requires
ldsfld-requires c = reaches c.requires.reaches (c.field_named.ensures.few _ c.in-Ok.is)

pub returns-in-Ok : goal.returns-in-Ok
returns-in-Ok c = record { own = c.ldsfld.ensures.own; meets = λ P s l. instead (ldsfld_does P _ _ _ l c.requires.at_range.0 c.field_named.ensures c.in-Ok.is c.requires.get_or_is) (c.ldsfld.ensures.meets (with_heap s c.args.classes.now s.heap)) }
