-- `loader::field::held` meets its contract.
use Rattle.std.proofs.Common.{refl}
use Rattle.ancestor.proofs.Climb.{steep}
use Rattle.loader.proofs.Climb.{parents_of, held_zero, held_far, held_step}
use Rattle.loader.proofs.field.+held.Goals as goal

pub returns-then-c-eq0-clause-as_model : goal.returns-then-c-eq0-clause-as_model
returns-then-c-eq0-clause-as_model t c = λ ps fs F C R. held_zero ps fs c.args.c c.if-c-eq0.true

pub returns-then-c-gt-MOST_CLASSES-clause-as_model : goal.returns-then-c-gt-MOST_CLASSES-clause-as_model
returns-then-c-gt-MOST_CLASSES-clause-as_model t c = λ ps fs F C R. held_far C R c.args.c c.if-c-eq0.false c.if-c-gt-MOST_CLASSES.true

pub returns-then-c-up-clause-as_model : goal.returns-then-c-up-clause-as_model
returns-then-c-up-clause-as_model t c = λ ps fs F C R. steep (parents_of C) c.args.c c.if-c-eq0.false _ refl c.if-c-up.true

pub returns-clause-as_model : goal.returns-clause-as_model
returns-clause-as_model t c = λ ps fs F C R. held_step C R c.args.c c.if-c-eq0.false _ _ _ refl (c.held.ensures.as_model ps fs F C R) refl
