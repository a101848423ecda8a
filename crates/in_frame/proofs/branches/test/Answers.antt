use Rattle.std.proofs.Common.{sym, ◌∙◌, rules, eq-eqb, ne_eqb}
use Rattle.model.specs.Answer.{pick}
use Rattle.state.specs.Work.{goto}
use Rattle.in_frame.proofs.Branching.{test_none, test_real, test_goes}
use Rattle.in_frame.proofs.branches.test.Goals as goal

pub returns-then-sp-y : goal.returns-then-sp-y
returns-then-sp-y c = rw c.ends.ensures (record { own = search rules; meets = λ s. test_none _ _ _ _ c.if-sp-y.true })

pub returns-then-kinds-i-ge3 : goal.returns-then-kinds-i-ge3
returns-then-kinds-i-ge3 c = rw c.ends-then-kinds-i-ge3.ensures (record { own = search rules; meets = λ s. test_real _ _ _ _ c.if-sp-y.false c.if-kinds-i-ge3.true })

pub returns-then-shown-eq0 : goal.returns-then-shown-eq0
unfolding goto pick
returns-then-shown-eq0 c = record { own = search rules; meets = λ s. test_goes _ _ _ _ c.if-sp-y.false c.if-kinds-i-ge3.false (eq-eqb _ _ (sym c.shown.ensures ∙ c.if-shown-eq0.true)) }

pub returns : goal.returns
unfolding goto pick
returns c = record { own = search rules; meets = λ s. test_goes _ _ _ _ c.if-sp-y.false c.if-kinds-i-ge3.false (ne_eqb _ _ (λ z. c.if-shown-eq0.false (c.shown.ensures ∙ z))) }
