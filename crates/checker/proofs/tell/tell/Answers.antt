-- `tell` meets its contract: the method's check leaves the shapes found.
use Rattle.checker.proofs.Deep.{found_low}
use Rattle.checker.proofs.Telling.{no_method_lem, method_found, method_passed, row_past, row_none, told_none}
use Rattle.checker.proofs.Whole.{the_row, held_size, failed}
use Rattle.checker.specs.Answers.{lent}
use Rattle.checker.specs.Told.{told}
use Rattle.model.specs.Check.{check_method}
use native.Mathlib.Omega.{arith}
use mathlib.Core.Path.{refl, sym, ap, ◌∙◌}
use Rattle.checker.proofs.tell.tell.Goals as goal
use Rattle.checker.proofs.tell.tell.Goals.{then-row-lt1-via-then-row-lt1, then-row-lt1-via-else-row-lt1+then-min-row}

pub returns-then-row-lt1 : goal.returns-then-row-lt1
returns-then-row-lt1 c =
    elim c.then-row-lt1.branch [
      | then-row-lt1-via-then-row-lt1 w ↦ λ M i F B H e. told_none _ (no_method_lem M F e _ (row_none M.methods _ w.if-row-lt1.true) _)
      | then-row-lt1-via-else-row-lt1+then-min-row w ↦
          λ M i F B H e. told_none _ (no_method_lem M F e _ (row_past M.methods _ (omega (arith, H.method_count, B.methods))) _)
    ]

pub returns-in-Err : goal.returns-in-Err
returns-in-Err c =
    λ M i F B H e.
    let w = the_row M.methods c.args.row (omega arith) (omega (arith, H.method_count)) in
    let t = c.in-Err.ensures M w.method i B H w.is c.new-notes.ensures in
    failed (check_method M w.method) _ _ t.0 (method_passed M F e c.args.row w.method w.is).1

pub returns-in-Ok : goal.returns-in-Ok
returns-in-Ok c =
    λ M i F B H e.
    let w = the_row M.methods c.args.row (omega arith) (omega (arith, H.method_count)) in
    let p = (c.in-Ok.ensures M w.method i B H w.is c.new-notes.ensures).1 refl in
    let q = held_size M c.args.code.now (lent c.args.loaded.now i) B H c.args.row w.method w.is in
    c.found_at.ensures p.shapes (omega (arith, q, B.size c.args.row w.method w.is)) p.fine (rw q p.kept)
    (λ S g. let a = found_low M w.method p.shapes p.is _ S g in let b = B.stack c.args.row w.method w.is in omega arith)
    ∙ ap told (sym (method_found M F e c.args.row w.method p.shapes w.is p.is c.args.offset))
