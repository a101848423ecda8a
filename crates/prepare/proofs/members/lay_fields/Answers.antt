use Prim.Native.Nat.{◌-◌}
use mathlib.Core.Path.{◌≡◌}
use native.Mathlib.Omega.{arith}
use Rattle.prepare.proofs.Fields.{laid_first, lay_cell, lay_static}
use Rattle.prepare.proofs.members.lay_fields.Goals as goal
use Rattle.prepare.proofs.members.lay_fields.Goals.{then-fields-at-eq0, else-fields-at-eq0}

pub loop-row-init : goal.loop-row-init
loop-row-init c = (omega arith, λ ps fs T e. laid_first ps fs _ _ c.requires.cells_is c.requires.statics_is)

pub loop-row-preserved : goal.loop-row-preserved
loop-row-preserved c = (
  omega arith,
  λ ps fs T e.
      elim c.if-fields-at-eq0.branch [
        | then-fields-at-eq0 w ↦ rw (w.cells-is, w.statics-is)
            (lay_cell ps fs _ T (c.loop-row.row - 1) (omega (arith, T.few)) _ _ (c.loop-row.invariant.1 ps fs T e) (omega arith) (omega arith)
            w.if-fields-at-eq0.true (omega arith))
        | else-fields-at-eq0 w ↦ rw (w.cells-is, w.statics-is)
            (lay_static ps fs _ T (c.loop-row.row - 1) (omega (arith, T.few)) _ _ (c.loop-row.invariant.1 ps fs T e) (omega arith) (omega arith)
            w.if-fields-at-eq0.false (omega arith))
      ],
)

-- where there is no field
pub returns-clause-laid_to : goal.returns-clause-laid_to
returns-clause-laid_to c = λ ps fs T e. let z : c.loop-row.row - 1 ≡ c.args.count = omega (arith, T.few) in rw z at (c.loop-row.invariant.1 ps fs T e)

-- after the last field
pub returns-after-fields-at-eq0-clause-laid_to : goal.returns-after-fields-at-eq0-clause-laid_to
returns-after-fields-at-eq0-clause-laid_to c = λ ps fs T e.
    elim c.if-fields-at-eq0.branch [
      | then-fields-at-eq0 w ↦ rw (w.cells-is, w.statics-is)
          (lay_cell ps fs _ T (c.loop-row.row - 1) (omega (arith, T.few)) _ _ (c.loop-row.invariant.1 ps fs T e) (omega arith) (omega (arith, T.few))
          w.if-fields-at-eq0.true (omega arith))
      | else-fields-at-eq0 w ↦ rw (w.cells-is, w.statics-is)
          (lay_static ps fs _ T (c.loop-row.row - 1) (omega (arith, T.few)) _ _ (c.loop-row.invariant.1 ps fs T e) (omega arith) (omega (arith, T.few))
          w.if-fields-at-eq0.false (omega arith))
    ]
