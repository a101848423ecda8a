use mathlib.Core.Path.{sym, ◌∙◌}
use native.Mathlib.Omega.{arith}
use Rattle.begin_end.proofs.Admitting.{takes_more, takes_end, takes_done}
use Rattle.begin_end.proofs.admission.takes_all.Goals as goal

pub returns-then-not-takes : goal.returns-then-not-takes
returns-then-not-takes c = sym (takes_end _ _ _ c.loop-i-test.true (sym c.takes.ensures ∙ c.if-not-takes.true)) ∙ c.loop-i.invariant

pub loop-i-preserved : goal.loop-i-preserved
loop-i-preserved c = sym (takes_more _ _ _ c.loop-i-test.true (sym c.takes.ensures ∙ c.if-not-takes.false)) ∙ c.loop-i.invariant

pub returns : goal.returns
returns c = sym (takes_done _ _ _ _ c.loop-i-test.false) ∙ c.loop-i.invariant
