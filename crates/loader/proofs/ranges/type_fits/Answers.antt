-- `loader::ranges::type_fits` meets its contract.
use Rattle.loader.proofs.Ladder.{class_type}
use Rattle.model.specs.Tables.{type_at}
use Rattle.loader.specs.Allowed.{is_type}
use Rattle.model.specs.Answer.{pick, only_if, is_none}
use borrow.Author.Tests.{le-ltb, lt-ltb, eq-eqb, ne_eqb}
use Rattle.loader.proofs.ranges.type_fits.Goals as goal

pub returns-then-t-eq-INT32 : goal.returns-then-t-eq-INT32
unfolding is_type type_at pick is_none only_if
returns-then-t-eq-INT32 c = simp (eq-eqb _ _ c.if-t-eq-INT32.true)

pub returns-then-t-eq-INT64 : goal.returns-then-t-eq-INT64
unfolding is_type type_at pick is_none only_if
returns-then-t-eq-INT64 c = simp (ne_eqb _ _ c.if-t-eq-INT32.false, eq-eqb _ _ c.if-t-eq-INT64.true)

pub returns-then-t-eq-F : goal.returns-then-t-eq-F
unfolding is_type type_at pick is_none only_if
returns-then-t-eq-F c = simp (ne_eqb _ _ c.if-t-eq-INT32.false, ne_eqb _ _ c.if-t-eq-INT64.false, eq-eqb _ _ c.if-t-eq-F.true)

pub returns-then-t-le-OBJECT : goal.returns-then-t-le-OBJECT
unfolding is_type type_at pick is_none only_if
returns-then-t-le-OBJECT c = simp (ne_eqb _ _ c.if-t-eq-INT32.false, ne_eqb _ _ c.if-t-eq-INT64.false, ne_eqb _ _ c.if-t-eq-F.false, le-ltb _ _ c.if-t-le-OBJECT.true)

pub returns : goal.returns
unfolding is_type type_at pick is_none only_if
returns c = simp (ne_eqb _ _ c.if-t-eq-INT32.false, ne_eqb _ _ c.if-t-eq-INT64.false, ne_eqb _ _ c.if-t-eq-F.false, lt-ltb _ _ c.if-t-le-OBJECT.false) (class_type c.args.classes c.args.t c.if-t-le-OBJECT.false)
