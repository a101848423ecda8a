use mathlib.Core.Path.{refl}
use Rattle.across_frames.proofs.Moving.{start_marked, start_bare, start_waits}
use Rattle.across_frames.proofs.enter.first_due.Goals as goal

pub returns-then-marks-class-ne0-clause-as_model : goal.returns-then-marks-class-ne0-clause-as_model
returns-then-marks-class-ne0-clause-as_model c = λ w t m. start_marked _ w _ t m c.if-marks-class-ne0.true

pub returns-then-first-eq0-clause-as_model : goal.returns-then-first-eq0-clause-as_model
returns-then-first-eq0-clause-as_model c = λ w t m. start_bare _ w _ t m c.if-marks-class-ne0.false refl c.if-first-eq0.true

pub returns-clause-as_model : goal.returns-clause-as_model
returns-clause-as_model c = λ w t m. start_waits _ w _ t m c.if-marks-class-ne0.false refl c.if-first-eq0.false
