use mathlib.Core.Path.{refl, ◌∙◌}
use Prim.Native.Nat.{◌+◌, ◌*◌}
use lib.ListN.{get_or, set}
use Rattle.std.proofs.lemmas.Result.{err_from_is_err_and}
use Rattle.state.specs.Work.{with_marks}
use Rattle.state.specs.declared.ending.Ending.TheVariants.{UsedFrames, UsedObjects, BadOperand}
use Rattle.across_frames.specs.Lent.{regs_in, on_leave}
use Rattle.across_frames.proofs.Made.{new_none, new_takes, making_none, making_full, making_goes}
use Rattle.across_frames.proofs.Called.{refused, accepted}
use Rattle.across_frames.proofs.Moving.{ends, first_comes, goes}
use Rattle.across_frames.proofs.objects.newobj.Goals as goal

pub returns-then-tables-m-ne-CONSTRUCTOR-clause-leaves : goal.returns-then-tables-m-ne-CONSTRUCTOR-clause-leaves
returns-then-tables-m-ne-CONSTRUCTOR-clause-leaves c = λ w v. ends BadOperand (new_none _ _ _ c.args.registers.stay _ _ c.if-tables-m-ne-CONSTRUCTOR.true)

pub returns-in_err-take-clause-leaves : goal.returns-in_err-take-clause-leaves
returns-in_err-take-clause-leaves c = λ w v.
    let b = on_leave w (regs_in c.args.registers) c.args.cells.now c.args.kinds.now c.args.marks.now c.args.classes.now in
    let p = err_from_is_err_and c.from_residual.result c.from_residual.ensures.1 in
    rw (p.1, p.2) (ends _ (new_takes _ _ _ c.args.registers.stay b _ c.if-tables-m-ne-CONSTRUCTOR.false refl c.saturating_sub-n.ensures refl ∙ refused _ (c.in_err-take.ensures.as_model b refl)))

pub returns-in-Some-clause-leaves : goal.returns-in-Some-clause-leaves
returns-in-Some-clause-leaves c = λ w v.
    let b = on_leave w (regs_in c.args.registers) c.args.cells.now c.args.kinds.now c.args.marks.now c.args.classes.now in
    first_comes (new_takes _ _ _ c.args.registers.stay b _ c.if-tables-m-ne-CONSTRUCTOR.false refl c.saturating_sub-n.ensures refl ∙ accepted _ (c.in_ok-take.ensures.as_model b refl) ∙ c.in-Some.ensures.as_model b _ refl)

pub returns-then-registers-ge-OBJECTS-clause-leaves : goal.returns-then-registers-ge-OBJECTS-clause-leaves
returns-then-registers-ge-OBJECTS-clause-leaves c = λ w v.
    let b = on_leave w (regs_in c.args.registers) c.args.cells.now c.args.kinds.now c.args.marks.now c.args.classes.now in
    ends UsedObjects (new_takes _ _ _ c.args.registers.stay b _ c.if-tables-m-ne-CONSTRUCTOR.false refl c.saturating_sub-n.ensures refl ∙ accepted _ (c.in_ok-take.ensures.as_model b refl) ∙ c.in_default.ensures.as_model b _ refl ∙ making_none _ _ _ _ _ _ c.if-registers-ge-OBJECTS.true)

pub returns-then-registers-ge-LAST_FRAME-clause-leaves : goal.returns-then-registers-ge-LAST_FRAME-clause-leaves
returns-then-registers-ge-LAST_FRAME-clause-leaves c = λ w v.
    let b = on_leave w (regs_in c.args.registers) c.args.cells.now c.args.kinds.now c.args.marks.now c.args.classes.now in
    ends UsedFrames (new_takes _ _ _ c.args.registers.stay b _ c.if-tables-m-ne-CONSTRUCTOR.false refl c.saturating_sub-n.ensures refl ∙ accepted _ (c.in_ok-take.ensures.as_model b refl) ∙ c.in_default.ensures.as_model b _ refl ∙ making_full _ _ _ _ _ _ c.if-registers-ge-OBJECTS.false c.if-registers-ge-LAST_FRAME.true)

pub returns-clause-leaves : goal.returns-clause-leaves
returns-clause-leaves c = λ w v.
    let b = on_leave w (regs_in c.args.registers) c.args.cells.now c.args.kinds.now c.args.marks.now c.args.classes.now in
    goes refl (c.construct.ensures.as_model (with_marks w (set c.args.marks.now (get_or c.args.tables.now.methods.now (c.args.named * 32 + 25) 0) 1)) c.args.registers.row)
    (new_takes _ _ _ c.args.registers.stay b _ c.if-tables-m-ne-CONSTRUCTOR.false refl c.saturating_sub-n.ensures refl ∙ accepted _ (c.in_ok-take.ensures.as_model b refl) ∙ c.in_default.ensures.as_model b _ refl ∙ making_goes _ _ _ _ _ _ c.if-registers-ge-OBJECTS.false c.if-registers-ge-LAST_FRAME.false)
