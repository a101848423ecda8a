-- `descends` meets its contract.
use Rattle.std.proofs.Common.{refl, ◌∙◌}
use Rattle.ancestor.proofs.Climb.{top, found, steep, far, climb}
use Rattle.ancestor.proofs.+descends.Goals as goal

pub returns-then-c-eq0 : goal.returns-then-c-eq0
returns-then-c-eq0 t c = λ ps P. top ps c.args.c c.args.d c.if-c-eq0.true

pub returns-then-c-d : goal.returns-then-c-d
returns-then-c-d t c = λ ps P. found ps c.args.c c.args.d c.if-c-eq0.false c.if-c-d.true

pub returns-then-c-ge33 : goal.returns-then-c-ge33
returns-then-c-ge33 t c = λ ps P. far P c.args.c c.if-c-eq0.false c.args.d c.if-c-ge33.true c.if-c-d.false

pub returns-then-c-up : goal.returns-then-c-up
returns-then-c-up t c = λ ps P. steep P c.args.c c.if-c-eq0.false _ refl c.if-c-up.true

pub returns : goal.returns
returns t c = λ ps P. c.descends.ensures ps P ∙ climb P c.args.c c.if-c-eq0.false c.args.d _ refl c.if-c-d.false
