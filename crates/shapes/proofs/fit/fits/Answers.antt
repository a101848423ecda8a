use Rattle.shapes.proofs.Bytes.{fits_same, fits_number, fits_null, fits_low, fits_class_lem}
use mathlib.Core.Path.{sym, ◌∙◌}
use Rattle.shapes.proofs.fit.fits.Goals as goal

pub returns-then-t-u : goal.returns-then-t-u
returns-then-t-u c =
    λ ps A B p e q. fits_same ps A B (e ∙ (c.if-t-u.true ∙ sym q))

pub returns-then-u-lt-CLASS : goal.returns-then-u-lt-CLASS
returns-then-u-lt-CLASS c =
    λ ps A B p e q. fits_number ps A B (λ z. c.if-t-u.false (sym e ∙ (z ∙ q))) (rw q c.if-u-lt-CLASS.true)

pub returns-then-t-eq-NULL : goal.returns-then-t-eq-NULL
returns-then-t-eq-NULL c =
    λ ps A B p e q. fits_null ps A B (λ z. c.if-t-u.false (sym e ∙ (z ∙ q))) (rw q c.if-u-lt-CLASS.false) (e ∙ c.if-t-eq-NULL.true)

pub returns-then-t-lt-CLASS : goal.returns-then-t-lt-CLASS
returns-then-t-lt-CLASS c =
    let the-if1 = c.if-t-u in
    let the-if2 = c.if-u-lt-CLASS in
    let the-if3 = c.if-t-eq-NULL in
    λ ps A B p e q. fits_low ps A B (λ z. the-if1.false (sym e ∙ (z ∙ q))) (rw q the-if2.false) (λ z. the-if3.false (sym e ∙ z)) (rw e c.if-t-lt-CLASS.true)

pub returns : goal.returns
returns c =
    λ ps A B p e q. c.descends.ensures ps p ∙ (rw (← e, ← q)
    (fits_class_lem ps A B (λ z. c.if-t-u.false (sym e ∙ (z ∙ q))) (rw q c.if-u-lt-CLASS.false) (rw e c.if-t-lt-CLASS.false)))
