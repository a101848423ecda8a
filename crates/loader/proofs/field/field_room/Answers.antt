-- `loader::field::field_room` meets its contract.
use Rattle.loader.specs.Allowed.{slot_room}
use Rattle.model.specs.Answer.{pick}
use borrow.Author.Tests.{le-ltb, lt-ltb, eq-eqb, ne_eqb}
use Rattle.loader.proofs.field.field_room.Goals as goal

pub returns-then-fields-ge-MOST_FIELDS : goal.returns-then-fields-ge-MOST_FIELDS
unfolding slot_room pick
returns-then-fields-ge-MOST_FIELDS c = simp (le-ltb _ _ c.if-fields-ge-MOST_FIELDS.true)

pub returns-then-flag-eq1 : goal.returns-then-flag-eq1
unfolding slot_room pick
returns-then-flag-eq1 c = simp (lt-ltb _ _ c.if-fields-ge-MOST_FIELDS.false, eq-eqb _ _ c.if-flag-eq1.true)

pub returns : goal.returns
unfolding slot_room pick
returns c = simp (lt-ltb _ _ c.if-fields-ge-MOST_FIELDS.false, ne_eqb _ _ c.if-flag-eq1.false)
