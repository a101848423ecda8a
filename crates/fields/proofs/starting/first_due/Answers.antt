use Rattle.fields.proofs.Started.{starts_marked, starts_none, starts_first}
use Rattle.fields.proofs.starting.first_due.Goals as goal

pub returns-then-marks-class-ne0 : goal.returns-then-marks-class-ne0
returns-then-marks-class-ne0 c = starts_marked _ _ _ c.if-marks-class-ne0.true

pub returns-then-initialisers-class-eq0 : goal.returns-then-initialisers-class-eq0
returns-then-initialisers-class-eq0 c = starts_none _ _ _ c.if-marks-class-ne0.false c.if-initialisers-class-eq0.true

pub returns : goal.returns
returns c = starts_first _ _ _ c.if-marks-class-ne0.false c.if-initialisers-class-eq0.false c.wide.ensures.0 c.requires.few
