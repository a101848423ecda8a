-- The forms of the comparisons.
use Prim.Native.Nat.{ℕ}
use mathlib.Core.Path.{◌≡◌, refl}
use mathlib.Core.Option.{some}
use Rattle.model.specs.Answer.{pick}
use Rattle.model.specs.Code.{eq, lt, gt, lt_un, gt_un, Binary, compare, ◌is◌, op, after_fE, form_of}

-- FE with the byte b after it is the operator o
abbrev pub After : ℕ → Binary → Type 0
After b o = form_of after_fE b ≡ some (op o)

-- ceq, cgt, cgt.un, clt, clt.un
pub comparisons : After 1 (compare eq) × After 2 (compare gt) × After 3 (compare gt_un) × After 4 (compare lt) × After 5 (compare lt_un)
unfolding pick ◌is◌ op after_fE form_of
comparisons = (refl, refl, refl, refl, refl)
