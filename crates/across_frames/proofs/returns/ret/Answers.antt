use mathlib.Core.Path.{refl, ◌∙◌}
use native.Mathlib.Omega.{arith}
use lib.ListN.{get_or}
use Prim.Native.Nat.{◌+◌}
use Rattle.std.proofs.lemmas.Result.{err_from_is_err_and}
use Rattle.across_frames.specs.Lent.{regs_in, on_leave}
use Rattle.across_frames.proofs.Handed.{below_at, below_depth, landed_back, return_over, return_back, back_none, back_one}
use Rattle.across_frames.proofs.Moving.{ends, finished, goes}
use Rattle.across_frames.proofs.Taken.{due_none, due_one}
use Rattle.across_frames.proofs.returns.ret.Goals as goal

pub returns-in_err-returnable-clause-leaves : goal.returns-in_err-returnable-clause-leaves
returns-in_err-returnable-clause-leaves c = λ w.
    let b = on_leave w (regs_in c.args.registers) c.args.cells.now c.args.kinds.now w.marks c.args.classes.now in
    let p = err_from_is_err_and c.from_residual.result c.from_residual.ensures.1 in
    rw (p.1, p.2) (ends _ (c.in_err-returnable.ensures b c.args.tables.now.methods.now refl refl))

pub returns-then-y-eq0-clause-leaves : goal.returns-then-y-eq0-clause-leaves
returns-then-y-eq0-clause-leaves c = λ w.
    let b = on_leave w (regs_in c.args.registers) c.args.cells.now c.args.kinds.now w.marks c.args.classes.now in
    finished (c.in_ok-returnable.ensures b c.args.tables.now.methods.now refl refl ∙ return_over _ _ _ c.if-y-eq0.true)

pub overflow_add-next-2 : goal.overflow_add-next-2
overflow_add-next-2 c = omega (arith, below_at c.requires.standing.frame c.requires.saved c.if-y-eq0.false, c.passed.ensures.1)

pub overflow_add-d-3 : goal.overflow_add-d-3
overflow_add-d-3 c = omega (arith, below_depth c.requires.standing.frame c.requires.saved c.if-y-eq0.false, c.requires.standing.stays.frame, c.if-y-eq0.false)

pub returns-then-byte-eq0 : goal.returns-then-byte-eq0
returns-then-byte-eq0 c = rw c.back.ensures (record {
  landed = landed_back c.requires.standing.frame c.requires.saved c.if-y-eq0.false (omega arith);
  leaves = λ w.
      let b = on_leave w (regs_in c.args.registers) c.args.cells.now c.args.kinds.now w.marks c.args.classes.now in
      goes refl (back_none _ _ (get_or c.args.tables.now.methods.now (c.args.registers.stay.mp + 24) 0) c.passed.ensures.0 (due_none c.if-byte-eq0.true))
      (c.in_ok-returnable.ensures b c.args.tables.now.methods.now refl refl ∙ return_back _ _ _ c.if-y-eq0.false);
})

pub bounds-kinds-d : goal.bounds-kinds-d
bounds-kinds-d c = omega (arith, below_depth c.requires.standing.frame c.requires.saved c.if-y-eq0.false, c.requires.standing.stays.frame, c.if-y-eq0.false)

pub offset_bounds-cells-d : goal.offset_bounds-cells-d
offset_bounds-cells-d c = omega (arith, below_depth c.requires.standing.frame c.requires.saved c.if-y-eq0.false, c.requires.standing.stays.frame, c.if-y-eq0.false)

pub bounds-cells-d : goal.bounds-cells-d
bounds-cells-d c = omega (arith, below_depth c.requires.standing.frame c.requires.saved c.if-y-eq0.false, c.requires.standing.stays.frame, c.if-y-eq0.false)

pub overflow_add-d-4 : goal.overflow_add-d-4
overflow_add-d-4 c = omega (arith, below_depth c.requires.standing.frame c.requires.saved c.if-y-eq0.false, c.requires.standing.stays.frame, c.if-y-eq0.false)

pub returns : goal.returns
returns c = rw c.back-2.ensures (record {
  landed = landed_back c.requires.standing.frame c.requires.saved c.if-y-eq0.false (omega arith);
  leaves = λ w.
      let b = on_leave w (regs_in c.args.registers) c.args.cells.now c.args.kinds.now w.marks c.args.classes.now in
      goes refl (back_one b _ (get_or c.args.tables.now.methods.now (c.args.registers.stay.mp + 24) 0) c.passed.ensures.0 (due_one c.if-byte-eq0.false) c.requires.standing.stays.floor_is)
      (c.in_ok-returnable.ensures b c.args.tables.now.methods.now refl refl ∙ return_back _ _ _ c.if-y-eq0.false);
})
