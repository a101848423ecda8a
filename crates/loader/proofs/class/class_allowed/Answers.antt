-- `loader::class::class_allowed` meets its contract.
use Rattle.loader.specs.Allowed.{class_allowed}
use Rattle.model.specs.Answer.{pick}
use mathlib.Core.Path.{sym, ◌∙◌}
use borrow.Author.Tests.{le-ltb, lt-ltb}
use Rattle.loader.proofs.class.class_allowed.Goals as goal

pub returns-then-not-follows : goal.returns-then-not-follows
unfolding class_allowed pick
returns-then-not-follows c = simp (sym c.follows.ensures ∙ c.if-not-follows.true)

pub returns-then-not-parent_fits : goal.returns-then-not-parent_fits
unfolding class_allowed pick
returns-then-not-parent_fits c = simp (sym c.follows.ensures ∙ c.if-not-follows.false, sym c.parent_fits.ensures ∙ c.if-not-parent_fits.true)

pub returns-then-classes-ge-MOST_CLASSES : goal.returns-then-classes-ge-MOST_CLASSES
unfolding class_allowed pick
returns-then-classes-ge-MOST_CLASSES c = simp (sym c.follows.ensures ∙ c.if-not-follows.false, sym c.parent_fits.ensures ∙ c.if-not-parent_fits.false, le-ltb _ _ c.if-classes-ge-MOST_CLASSES.true)

pub returns : goal.returns
unfolding class_allowed pick
returns c = simp (sym c.follows.ensures ∙ c.if-not-follows.false, sym c.parent_fits.ensures ∙ c.if-not-parent_fits.false, lt-ltb _ _ c.if-classes-ge-MOST_CLASSES.false)
