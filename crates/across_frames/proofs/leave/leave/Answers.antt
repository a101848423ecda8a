use mathlib.Core.Path.{◌≡◌, sym, ap, ◌∙◌}
use mathlib.Core.Bool.{not}
use lib.ListN.{get_or}
use lib.Dec.{eqb}
use Prim.Native.Nat.{◌+◌}
use borrow.Author.Tests.{leb-true}
use Rattle.state.specs.Work.{due_of_byte, value_due}
use Rattle.state.specs.declared.ending.Ending.TheVariants.{Undecodable, BadOperand}
use Rattle.across_frames.specs.Lent.{regs_in, on_leave}
use Rattle.across_frames.proofs.Moving.{ends, instead}
use Rattle.across_frames.proofs.Acting.{way_of, way_virtual, way_plain, acts_ret, no_token, by_token, none_named, new_named, call_named}
use Rattle.across_frames.proofs.leave.leave.Goals as goal
use Rattle.across_frames.proofs.leave.leave.Goals.{then-next-eq-CALLVIRT, else-next-eq-CALLVIRT}

pub returns-then-next-eq-RET-clause-leaves : goal.returns-then-next-eq-RET-clause-leaves
returns-then-next-eq-RET-clause-leaves c = λ P w q.
    let b = on_leave w (regs_in c.args.registers) c.args.cells.now c.args.kinds.now c.args.marks.now c.args.classes.now in
    instead (acts_ret P _ c.args.registers.stay b c.requires.at_range.0 c.requires.at_range.1 c.if-next-eq-RET.true q) (c.ret.ensures.leaves b)

pub returns-then-not-whole-clause-leaves : goal.returns-then-not-whole-clause-leaves
returns-then-not-whole-clause-leaves c = λ P w q.
    let b = on_leave w (regs_in c.args.registers) c.args.cells.now c.args.kinds.now c.args.marks.now c.args.classes.now in
    ends Undecodable (no_token P _ c.args.registers.stay b c.requires.at_range.0 c.requires.at_range.1 c.if-next-eq-RET.false c.whole.ensures (ap not c.if-not-whole.true))

pub four_after-requires : goal.four_after-requires
four_after-requires c = leb-true _ _ (sym c.whole.ensures ∙ c.if-not-whole.false)

pub returns-then-tables-n-clause-leaves : goal.returns-then-tables-n-clause-leaves
returns-then-tables-n-clause-leaves c = λ P w q.
    let b = on_leave w (regs_in c.args.registers) c.args.cells.now c.args.kinds.now c.args.marks.now c.args.classes.now in
    ends BadOperand (by_token P _ c.args.registers.stay b c.requires.at_range.0 c.requires.at_range.1 c.if-next-eq-RET.false c.whole.ensures (ap not c.if-not-whole.false) c.four_after.ensures.0 ∙ none_named P _ c.args.registers.stay _ _ q c.row_named-n.ensures c.requires.in_range.count_few _ _ c.if-tables-n.true)

pub returns-then-next-eq-NEWOBJ-clause-leaves : goal.returns-then-next-eq-NEWOBJ-clause-leaves
returns-then-next-eq-NEWOBJ-clause-leaves c = λ P w q.
    let b = on_leave w (regs_in c.args.registers) c.args.cells.now c.args.kinds.now c.args.marks.now c.args.classes.now in
    instead (by_token P _ c.args.registers.stay b c.requires.at_range.0 c.requires.at_range.1 c.if-next-eq-RET.false c.whole.ensures (ap not c.if-not-whole.false) c.four_after.ensures.0 ∙ new_named P _ c.args.registers.stay _ _ q c.row_named-n.ensures c.requires.in_range.count_few c.if-tables-n.false _ c.if-next-eq-NEWOBJ.true)
    (c.newobj.ensures.leaves b (value_due b (due_of_byte (get_or c.args.tables.now.methods.now (c.args.registers.stay.mp + 26) 0))))

pub returns-clause-leaves : goal.returns-clause-leaves
returns-clause-leaves c = λ P w q.
    let b = on_leave w (regs_in c.args.registers) c.args.cells.now c.args.kinds.now c.args.marks.now c.args.classes.now in
    let way : c.if-next-eq-CALLVIRT.instruction ≡ way_of (eqb c.args.next 5) =
    elim c.if-next-eq-CALLVIRT.branch [ then-next-eq-CALLVIRT k ↦ way_virtual k.if-next-eq-CALLVIRT.true k.instruction-is | else-next-eq-CALLVIRT k ↦ way_plain k.if-next-eq-CALLVIRT.false k.instruction-is ]
    in
    instead (by_token P _ c.args.registers.stay b c.requires.at_range.0 c.requires.at_range.1 c.if-next-eq-RET.false c.whole.ensures (ap not c.if-not-whole.false) c.four_after.ensures.0 ∙ call_named P _ c.args.registers.stay _ _ q c.row_named-n.ensures c.requires.in_range.count_few c.if-tables-n.false _ c.if-next-eq-NEWOBJ.false way)
    (c.call.ensures.leaves b (value_due b (due_of_byte (get_or c.args.tables.now.methods.now (c.args.registers.stay.mp + 26) 0))))
