-- `loader::method::method_allowed` meets its contract.
use Rattle.loader.specs.Allowed.{method_allowed}
use Rattle.model.specs.Answer.{pick}
use mathlib.Core.Path.{sym, ◌∙◌}
use borrow.Author.Tests.{le-ltb, lt-ltb, le-leb, lt-leb}
use Rattle.loader.proofs.method.method_allowed.Goals as goal

pub returns-then-not-follows : goal.returns-then-not-follows
unfolding method_allowed pick
returns-then-not-follows c = simp (sym c.follows.ensures ∙ c.if-not-follows.true)

pub returns-then-not-is_row : goal.returns-then-not-is_row
unfolding method_allowed pick
returns-then-not-is_row c = simp (sym c.follows.ensures ∙ c.if-not-follows.false, sym c.is_row.ensures ∙ c.if-not-is_row.true)

pub returns-then-b-gt-INITIALISER : goal.returns-then-b-gt-INITIALISER
unfolding method_allowed pick
returns-then-b-gt-INITIALISER c = simp (sym c.follows.ensures ∙ c.if-not-follows.false, sym c.is_row.ensures ∙ c.if-not-is_row.false, lt-leb _ _ c.if-b-gt-INITIALISER.true)

pub returns-then-not-return_fits : goal.returns-then-not-return_fits
unfolding method_allowed pick
returns-then-not-return_fits c = simp (sym c.follows.ensures ∙ c.if-not-follows.false, sym c.is_row.ensures ∙ c.if-not-is_row.false, le-leb _ _ c.if-b-gt-INITIALISER.false, sym c.return_fits.ensures ∙ c.if-not-return_fits.true)

pub returns-then-b-gt-MOST_STACK : goal.returns-then-b-gt-MOST_STACK
unfolding method_allowed pick
returns-then-b-gt-MOST_STACK c = simp (sym c.follows.ensures ∙ c.if-not-follows.false, sym c.is_row.ensures ∙ c.if-not-is_row.false, le-leb _ _ c.if-b-gt-INITIALISER.false, sym c.return_fits.ensures ∙ c.if-not-return_fits.false, lt-leb _ _ c.if-b-gt-MOST_STACK.true)

pub returns-then-not-code_fits : goal.returns-then-not-code_fits
unfolding method_allowed pick
returns-then-not-code_fits c = simp (sym c.follows.ensures ∙ c.if-not-follows.false, sym c.is_row.ensures ∙ c.if-not-is_row.false, le-leb _ _ c.if-b-gt-INITIALISER.false, sym c.return_fits.ensures ∙ c.if-not-return_fits.false, le-leb _ _ c.if-b-gt-MOST_STACK.false, sym c.code_fits.ensures ∙ c.if-not-code_fits.true)

pub returns-then-counts-ge-MOST_METHODS : goal.returns-then-counts-ge-MOST_METHODS
unfolding method_allowed pick
returns-then-counts-ge-MOST_METHODS c = simp (sym c.follows.ensures ∙ c.if-not-follows.false, sym c.is_row.ensures ∙ c.if-not-is_row.false, le-leb _ _ c.if-b-gt-INITIALISER.false, sym c.return_fits.ensures ∙ c.if-not-return_fits.false, le-leb _ _ c.if-b-gt-MOST_STACK.false, sym c.code_fits.ensures ∙ c.if-not-code_fits.false, le-ltb _ _ c.if-counts-ge-MOST_METHODS.true)

pub returns-then-not-over : goal.returns-then-not-over
unfolding method_allowed pick
returns-then-not-over c = simp (sym c.follows.ensures ∙ c.if-not-follows.false, sym c.is_row.ensures ∙ c.if-not-is_row.false, le-leb _ _ c.if-b-gt-INITIALISER.false, sym c.return_fits.ensures ∙ c.if-not-return_fits.false, le-leb _ _ c.if-b-gt-MOST_STACK.false, sym c.code_fits.ensures ∙ c.if-not-code_fits.false, lt-ltb _ _ c.if-counts-ge-MOST_METHODS.false, c.if-not-over.true)

pub returns-then-not-fits : goal.returns-then-not-fits
unfolding method_allowed pick
returns-then-not-fits c = simp (sym c.follows.ensures ∙ c.if-not-follows.false, sym c.is_row.ensures ∙ c.if-not-is_row.false, le-leb _ _ c.if-b-gt-INITIALISER.false, sym c.return_fits.ensures ∙ c.if-not-return_fits.false, le-leb _ _ c.if-b-gt-MOST_STACK.false, sym c.code_fits.ensures ∙ c.if-not-code_fits.false, lt-ltb _ _ c.if-counts-ge-MOST_METHODS.false, c.if-not-over.false, c.if-not-fits.true)

pub returns : goal.returns
unfolding method_allowed pick
returns c = simp (sym c.follows.ensures ∙ c.if-not-follows.false, sym c.is_row.ensures ∙ c.if-not-is_row.false, le-leb _ _ c.if-b-gt-INITIALISER.false, sym c.return_fits.ensures ∙ c.if-not-return_fits.false, le-leb _ _ c.if-b-gt-MOST_STACK.false, sym c.code_fits.ensures ∙ c.if-not-code_fits.false, lt-ltb _ _ c.if-counts-ge-MOST_METHODS.false, c.if-not-over.false, c.if-not-fits.false)
