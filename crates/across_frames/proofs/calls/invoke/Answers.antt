use mathlib.Core.Path.{refl, ◌∙◌}
use Prim.Native.Nat.{◌+◌, ◌*◌}
use lib.ListN.{get_or, set}
use Rattle.state.specs.Work.{with_marks}
use Rattle.state.specs.declared.ending.Ending.TheVariants.{UsedFrames}
use Rattle.across_frames.specs.Lent.{regs_in, on_leave}
use Rattle.across_frames.proofs.Called.{invoke_starts, invoke_full, invoke_goes}
use Rattle.across_frames.proofs.Moving.{ends, first_comes, goes}
use Rattle.across_frames.proofs.calls.invoke.Goals as goal

pub returns-in-Some-clause-leaves : goal.returns-in-Some-clause-leaves
returns-in-Some-clause-leaves c = λ w v.
    let b = on_leave w (regs_in c.args.registers) c.args.cells.now w.kinds c.args.marks.now w.classes in
    first_comes (invoke_starts _ _ b _ _ refl (c.in-Some.ensures.as_model b _ refl))

pub returns-then-registers-ge-LAST_FRAME-clause-leaves : goal.returns-then-registers-ge-LAST_FRAME-clause-leaves
returns-then-registers-ge-LAST_FRAME-clause-leaves c = λ w v.
    let b = on_leave w (regs_in c.args.registers) c.args.cells.now w.kinds c.args.marks.now w.classes in
    ends UsedFrames (invoke_starts _ _ b _ _ refl (c.in_default.ensures.as_model b _ refl) ∙ invoke_full _ _ _ _ _ c.if-registers-ge-LAST_FRAME.true)

pub returns-clause-leaves : goal.returns-clause-leaves
returns-clause-leaves c = λ w v.
    let b = on_leave w (regs_in c.args.registers) c.args.cells.now w.kinds c.args.marks.now w.classes in
    goes refl (c.enter.ensures.as_model (with_marks w (set c.args.marks.now (get_or c.args.tables.now.methods.now (c.args.taken * 32 + 25) 0) 1)) c.args.registers.row c.args.registers.sp)
    (invoke_starts _ _ b _ _ refl (c.in_default.ensures.as_model b _ refl) ∙ invoke_goes _ _ _ _ _ c.if-registers-ge-LAST_FRAME.false c.copy.ensures)
