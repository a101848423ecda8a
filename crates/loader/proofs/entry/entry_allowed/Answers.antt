-- `loader::entry::entry_allowed` meets its contract.
use Rattle.loader.specs.Allowed.{entry_allowed}
use Rattle.model.specs.Answer.{pick}
use mathlib.Core.Path.{sym, ◌∙◌}
use Rattle.loader.proofs.entry.entry_allowed.Goals as goal

pub returns-then-not-follows : goal.returns-then-not-follows
unfolding entry_allowed pick
returns-then-not-follows c = simp (sym c.follows.ensures ∙ c.if-not-follows.true)

pub returns-then-not-is_row : goal.returns-then-not-is_row
unfolding entry_allowed pick
returns-then-not-is_row c = simp (sym c.follows.ensures ∙ c.if-not-follows.false, sym c.is_row.ensures ∙ c.if-not-is_row.true)

pub returns-then-not-fits : goal.returns-then-not-fits
unfolding entry_allowed pick
returns-then-not-fits c = simp (sym c.follows.ensures ∙ c.if-not-follows.false, sym c.is_row.ensures ∙ c.if-not-is_row.false, c.if-not-fits.true)

pub returns : goal.returns
unfolding entry_allowed pick
returns c = simp (sym c.follows.ensures ∙ c.if-not-follows.false, sym c.is_row.ensures ∙ c.if-not-is_row.false, c.if-not-fits.false)
