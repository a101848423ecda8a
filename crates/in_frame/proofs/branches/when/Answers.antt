use Rattle.std.proofs.Common.{true, false, rules}
use Rattle.model.specs.Answer.{pick}
use Rattle.state.specs.Work.{goto}
use Rattle.in_frame.proofs.Branching.{when_none, when_goes, when_wrong}
use Rattle.in_frame.proofs.branches.when.Goals as goal

pub returns-then-sp-y : goal.returns-then-sp-y
returns-then-sp-y c = rw c.ends.ensures (record { own = search rules; meets = λ s. when_none _ _ _ _ _ c.if-sp-y.true })

pub returns-in-Some-true : goal.returns-in-Some-true
unfolding goto pick
returns-in-Some-true c =
    let said = rw c.in-Some-true.field-0-test at c.in-Some-true.ensures _ _ (c.requires.few.most _) (c.requires.few.most _) c.both.ensures in
    record { own = search rules; meets = λ s. when_goes _ _ _ _ _ c.if-sp-y.false {t = true} said }

pub returns-in-Some-false : goal.returns-in-Some-false
unfolding goto pick
returns-in-Some-false c =
    let said = rw c.in-Some-false.field-0-test at c.in-Some-false.ensures _ _ (c.requires.few.most _) (c.requires.few.most _) c.both.ensures in
    record { own = search rules; meets = λ s. when_goes _ _ _ _ _ c.if-sp-y.false {t = false} said }

pub returns-in-None : goal.returns-in-None
returns-in-None c =
    rw c.ends-in-None.ensures
    (record { own = search rules; meets = λ s. when_wrong _ _ _ _ _ c.if-sp-y.false (c.in-None.ensures _ _ (c.requires.few.most _) (c.requires.few.most _) c.both.ensures) })
