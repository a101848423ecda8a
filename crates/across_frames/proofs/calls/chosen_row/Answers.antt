use Rattle.across_frames.proofs.Called.{taken_null, taken_bare, taken_none, taken_over}
use mathlib.Core.Path.{refl}
use lib.ListN.{get_or}
use native.Mathlib.Omega.{arith}
use Rattle.across_frames.proofs.calls.chosen_row.Goals as goal
use Prim.Native.Nat.{◌+◌, ◌-◌, ◌*◌, ◌%◌}

pub returns-then-object-eq0-clause-as_model : goal.returns-then-object-eq0-clause-as_model
returns-then-object-eq0-clause-as_model c = λ t. taken_null _ _ _ _ _ t c.if-object-eq0.true

pub returns-then-tables-m-ne-VIRTUAL-clause-as_model : goal.returns-then-tables-m-ne-VIRTUAL-clause-as_model
returns-then-tables-m-ne-VIRTUAL-clause-as_model c = λ t. taken_bare _ _ _ _ _ t c.if-object-eq0.false c.if-tables-m-ne-VIRTUAL.true

pub bounds-tables-i : goal.bounds-tables-i
bounds-tables-i c = omega (arith, c.requires.placed.few ((c.args.object - 1) % 256), c.requires.choice_ranges.root_few c.args.named)

pub returns-then-overriding-eq0-clause-as_model : goal.returns-then-overriding-eq0-clause-as_model
returns-then-overriding-eq0-clause-as_model c = λ t. taken_none _ _ _ _ _ t c.if-object-eq0.false c.if-tables-m-ne-VIRTUAL.false refl refl refl c.if-overriding-eq0.true

pub returns-clause-taken_few : goal.returns-clause-taken_few
returns-clause-taken_few c = omega (arith, c.requires.choice_ranges.chosen_few.most ((get_or c.args.classes.now ((c.args.object - 1) % 256) 0) * 129 + (get_or c.args.tables.now.methods.now (c.args.named * 32 + 30) 0)))

pub returns-clause-as_model : goal.returns-clause-as_model
returns-clause-as_model c = λ t. taken_over _ _ _ _ _ t c.if-object-eq0.false c.if-tables-m-ne-VIRTUAL.false refl refl refl c.if-overriding-eq0.false
