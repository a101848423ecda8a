-- `loader::field::field_allowed` meets its contract.
use Rattle.loader.specs.Allowed.{field_allowed}
use Rattle.model.specs.Answer.{pick}
use mathlib.Core.Path.{sym, ◌∙◌}
use borrow.Author.Tests.{le-leb, lt-leb}
use Rattle.loader.proofs.field.field_allowed.Goals as goal

pub returns-then-not-follows : goal.returns-then-not-follows
unfolding field_allowed pick
returns-then-not-follows c = simp (sym c.follows.ensures ∙ c.if-not-follows.true)

pub returns-then-o-before : goal.returns-then-o-before
unfolding field_allowed pick
returns-then-o-before c = simp (sym c.follows.ensures ∙ c.if-not-follows.false, lt-leb _ _ c.if-o-before.true)

pub returns-then-not-is_row : goal.returns-then-not-is_row
unfolding field_allowed pick
returns-then-not-is_row c = simp (sym c.follows.ensures ∙ c.if-not-follows.false, le-leb _ _ c.if-o-before.false, sym c.is_row.ensures ∙ c.if-not-is_row.true)

pub returns-then-flag-gt1 : goal.returns-then-flag-gt1
unfolding field_allowed pick
returns-then-flag-gt1 c = simp (sym c.follows.ensures ∙ c.if-not-follows.false, le-leb _ _ c.if-o-before.false, sym c.is_row.ensures ∙ c.if-not-is_row.false, lt-leb _ _ c.if-flag-gt1.true)

pub returns-then-not-type_fits : goal.returns-then-not-type_fits
unfolding field_allowed pick
returns-then-not-type_fits c = simp (sym c.follows.ensures ∙ c.if-not-follows.false, le-leb _ _ c.if-o-before.false, sym c.is_row.ensures ∙ c.if-not-is_row.false, le-leb _ _ c.if-flag-gt1.false, sym c.type_fits.ensures ∙ c.if-not-type_fits.true)

pub returns-then-not-field_room : goal.returns-then-not-field_room
unfolding field_allowed pick
returns-then-not-field_room c = simp (sym c.follows.ensures ∙ c.if-not-follows.false, le-leb _ _ c.if-o-before.false, sym c.is_row.ensures ∙ c.if-not-is_row.false, le-leb _ _ c.if-flag-gt1.false, sym c.type_fits.ensures ∙ c.if-not-type_fits.false, sym c.field_room.ensures ∙ c.if-not-field_room.true)

pub returns : goal.returns
unfolding field_allowed pick
returns c = simp (sym c.follows.ensures ∙ c.if-not-follows.false, le-leb _ _ c.if-o-before.false, sym c.is_row.ensures ∙ c.if-not-is_row.false, le-leb _ _ c.if-flag-gt1.false, sym c.type_fits.ensures ∙ c.if-not-type_fits.false, sym c.field_room.ensures ∙ c.if-not-field_room.false)
