use borrow.Author.Rules.{rules}
use Rattle.state.specs.Work.{goto}
use Rattle.in_frame.proofs.Answers.{instead}
use Rattle.fields.proofs.Casting.{cast_none, cast_kind, cast_hit, cast_null, cast_ends}
use Rattle.fields.proofs.Acting.{cast_refused, cast_does}
use Rattle.fields.proofs.casts.cast.Goals as goal

pub returns-in-Err : goal.returns-in-Err
returns-in-Err c = rw c.ends.ensures (record { own = search rules; meets = λ P s n a e. cast_refused P _ _ _ n a c.requires.at_range.0 c.args.isinst c.requires.get_or_is c.row_after.ensures c.in-Err.is })

pub returns-then-sp-y : goal.returns-then-sp-y
returns-then-sp-y c = rw c.ends-then-sp-y.ensures (record { own = search rules; meets = λ P s n a e. instead (cast_does P _ _ _ n a c.requires.at_range.0 c.args.isinst c.requires.get_or_is c.row_after.ensures c.in-Ok.is) (cast_none _ _ _ _ _ _ c.if-sp-y.true) })

pub returns-then-kinds-sp-ne0 : goal.returns-then-kinds-sp-ne0
returns-then-kinds-sp-ne0 c = rw c.ends-then-kinds-sp-ne0.ensures (record { own = search rules; meets = λ P s n a e. instead (cast_does P _ _ _ n a c.requires.at_range.0 c.args.isinst c.requires.get_or_is c.row_after.ensures c.in-Ok.is) (cast_kind _ _ _ _ _ _ c.if-sp-y.false c.if-kinds-sp-ne0.true) })

pub returns-then-refers : goal.returns-then-refers
unfolding goto
returns-then-refers c = record { own = search rules; meets = λ P s n a e. instead (cast_does P _ _ _ n a c.requires.at_range.0 c.args.isinst c.requires.get_or_is c.row_after.ensures c.in-Ok.is) (cast_hit _ _ _ _ _ _ c.if-sp-y.false c.if-kinds-sp-ne0.false e c.refers.ensures c.if-refers.true) }

pub returns-then-isinst : goal.returns-then-isinst
unfolding goto
returns-then-isinst c = record { own = search rules; meets = λ P s n a e. instead (cast_does P _ _ _ n a c.requires.at_range.0 c.args.isinst c.requires.get_or_is c.row_after.ensures c.in-Ok.is) (cast_null _ _ _ _ _ _ c.if-sp-y.false c.if-kinds-sp-ne0.false e c.refers.ensures c.if-refers.false c.if-isinst.true) }

pub returns : goal.returns
returns c = rw c.ends-2.ensures (record { own = search rules; meets = λ P s n a e. instead (cast_does P _ _ _ n a c.requires.at_range.0 c.args.isinst c.requires.get_or_is c.row_after.ensures c.in-Ok.is) (cast_ends _ _ _ _ _ _ c.if-sp-y.false c.if-kinds-sp-ne0.false e c.refers.ensures c.if-refers.false c.if-isinst.false) })
