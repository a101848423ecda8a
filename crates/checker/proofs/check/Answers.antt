-- `check` meets its contract: what is answered of the methods from a row on is answered of all.
use Rattle.checker.proofs.Whole.{checking_start, checking_next, checking_fault, checking_end, the_row, ready_next}
use native.Mathlib.Omega.{arith}
use mathlib.Core.Path.{refl}
use Prim.Native.Nat.{◌+◌}
use Rattle.checker.proofs.check.Goals as goal

pub loop-row-init : goal.loop-row-init
loop-row-init c = λ M i B H. (checking_start M, c.new-notes.ensures)

pub returns-in-Err : goal.returns-in-Err
returns-in-Err c =
    λ M i B H.
    let w = the_row M.methods c.loop-row.row (omega arith) (omega (arith, H.method_count)) in
    let t = c.in-Err.ensures M w.method i B H w.is (c.loop-row.invariant M i B H).1 in
    rw c.of_method.ensures (checking_fault M c.loop-row.row w (c.loop-row.invariant M i B H).0 _ t.0)

pub loop-row-preserved : goal.loop-row-preserved
loop-row-preserved c =
    λ M i B H.
    let w = the_row M.methods c.loop-row.row (omega arith) (omega (arith, H.method_count)) in
    let t = c.in_default.ensures M w.method i B H w.is (c.loop-row.invariant M i B H).1 in
    (checking_next M c.loop-row.row w (c.loop-row.invariant M i B H).0 (omega arith) t.0, ready_next (t.1 refl))

pub returns : goal.returns
returns c = λ M i B H. checking_end M c.loop-row.row _ (c.loop-row.invariant M i B H).0 (omega arith) (omega (arith, H.method_count, B.methods)) refl

pub returns-in_default : goal.returns-in_default
returns-in_default c =
    λ M i B H.
    let w = the_row M.methods c.loop-row.row (omega arith) (omega (arith, H.method_count)) in
    let t = c.in_default.ensures M w.method i B H w.is (c.loop-row.invariant M i B H).1 in
    checking_end M (c.loop-row.row + 1) _ (checking_next M c.loop-row.row w (c.loop-row.invariant M i B H).0 (omega arith) t.0) (omega arith)
    (omega (arith, H.method_count, B.methods)) refl
