-- `found_at` meets its contract: the shape that the code reads at an offset is the one found.
use Rattle.checker.proofs.Telling.{past_none, told_none}
use Rattle.visits.proofs.Arrivals.{read_none, read_some}
use Rattle.checker.specs.Told.{told}
use mathlib.Core.Path.{sym, ap, ◌∙◌}
use Rattle.checker.proofs.tell.found_at.Goals as goal

pub returns-then-size-offset : goal.returns-then-size-offset
returns-then-size-offset c = λ F b f K low. told_none _ (past_none c.args.notes.now.pool _ F _ K _ c.if-size-offset.true)

pub returns-in_err-s : goal.returns-in_err-s
returns-in_err-s c =
    λ F b f K low. rw c.from_residual.ensures (told_none _ (read_none c.args.notes.now.pool _ (c.in_err-s.ensures.read _ _ F f K c.if-size-offset.false b)))

pub returns : goal.returns
returns c =
    λ F b f K low.
    let s = read_some c.args.notes.now.pool _ _ (c.in_ok-s.ensures.read _ _ F f K c.if-size-offset.false b) in
    c.types_of.ensures s.shape f s.shows (low s.shape s.is) ∙ ap told (sym s.is)
