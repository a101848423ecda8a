use native.Mathlib.Omega.{arith}
use mathlib.Core.Path.{refl, ap}
use mathlib.Core.Option.{none}
use Rattle.std.proofs.lemmas.Result.{err_from_is_err_and}
use Rattle.across_frames.proofs.Moving.{high, waits_not}
use Rattle.state.specs.View.{Work}
use Rattle.state.specs.Work.{with_regs}
use Rattle.across_frames.specs.Lent.{regs_in, on_leave}
use Rattle.crossing.proofs.Crossed.{nothing, no_wait, says_wait, crossed, comes, comes_before}
use Rattle.crossing.proofs.step.Goals as goal

pub returns-then-next-eq-START : goal.returns-then-next-eq-START
returns-then-next-eq-START c = record {
  landed = c.start.ensures.landed;
  never_waits = no_wait _ _ _ (c.start.ensures.leaves nothing none);
  leaves = λ P w l. comes P _ _ _ _ _ l.same_methods c.if-next-eq-START.true (c.start.ensures.leaves (on_leave w w.regs c.args.cells.now c.args.kinds.now c.args.marks.now c.args.classes.now) _);
}

pub returns-in_err-change-clause-leaves : goal.returns-in_err-change-clause-leaves
returns-in_err-change-clause-leaves c = λ P w l.
    let p = err_from_is_err_and c.from_residual.result c.from_residual.ensures.1 in
    rw (p.1, p.2) (crossed (c.in_err-change.ensures.leaves P w l) P _ _ _ _ _ refl c.if-next-eq-START.false (λ z. omega (arith, high c.in_err-change.field-0.0)))

pub returns-in-Waits-clause-never_waits : goal.returns-in-Waits-clause-never_waits
returns-in-Waits-clause-never_waits c = no_wait _ _ _ (c.start-in-Waits.ensures.leaves nothing none)

pub returns-in-Waits-clause-leaves : goal.returns-in-Waits-clause-leaves
returns-in-Waits-clause-leaves c = λ P w l.
    let m = rw c.in-Waits.is at (c.in_ok-change.ensures.leaves P w l) in
    comes_before P _ _ _ _ _ l.same_methods c.if-next-eq-START.false (says_wait m refl) _ (ap (λ (x : Work). with_regs x (regs_in c.args.registers)) (m.kept (λ z. omega arith)))
    (c.start-in-Waits.ensures.leaves (on_leave w w.regs c.leave.new.cells c.leave.new.kinds c.leave.new.marks c.leave.new.classes) _)

pub returns-in_default : goal.returns-in_default
returns-in_default c =
    let h = waits_not c.args.registers c.in_ok-change.change c.in_default.not-Waits in
    record { landed = c.in_ok-change.ensures.landed; never_waits = h; leaves = λ P w l. crossed (c.in_ok-change.ensures.leaves P w l) P _ _ _ _ _ refl c.if-next-eq-START.false h }
