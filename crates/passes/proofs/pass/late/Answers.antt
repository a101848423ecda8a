use Rattle.passes.proofs.Loops.{searching_start, searching_end, searching_fault, searching_next}
use lib.ListN.{length}
use mathlib.Core.Path.{sym, ap, ◌∙◌}
use Rattle.passes.proofs.pass.late.Goals as goal

pub loop-at-init : goal.loop-at-init
loop-at-init c = (c.requires.reading, λ M m all l max parents g H e st q. searching_start M m all l _ _ q)

pub returns-then-refused : goal.returns-then-refused
returns-then-refused c =
    λ M m all l max parents g H e st q.
    searching_fault M m all l _ c.loop-at.at (c.loop-at.invariant.1 M m all l max parents g H e st q) c.loop-at-test.true _ c.read_at-i.ensures.decode_is
    c.read_at-i.ensures.onward _ (sym c.if-refused.true ∙ c.refused.ensures M m all max parents g H (ap length e) st)

pub loop-at-preserved : goal.loop-at-preserved
loop-at-preserved c = (
  c.read_at-i.ensures.reading,
  λ M m all l max parents g H e st q. searching_next M m all l _ c.loop-at.at (c.loop-at.invariant.1 M m all l max parents g H e st q) c.loop-at-test.true _
      c.read_at-i.ensures.decode_is c.read_at-i.ensures.onward (sym c.if-refused.false ∙ c.refused.ensures M m all max parents g H (ap length e) st),
)

pub returns : goal.returns
returns c =
    λ M m all l max parents g H e st q. searching_end M m all l _ c.loop-at.at (c.loop-at.invariant.1 M m all l max parents g H e st q) _ c.loop-at-test.false
