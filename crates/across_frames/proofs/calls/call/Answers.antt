use mathlib.Core.Path.{refl, ◌∙◌}
use Rattle.std.proofs.lemmas.Result.{err_from_is_err_and}
use Rattle.state.specs.declared.ending.Ending.TheVariants.{BadOperand}
use Rattle.across_frames.specs.Lent.{regs_in, on_leave}
use Rattle.across_frames.proofs.Called.{named_none, named_takes, refused, accepted}
use Rattle.across_frames.proofs.Moving.{ends, instead}
use Rattle.across_frames.proofs.calls.call.Goals as goal

pub returns-then-not-callable-clause-leaves : goal.returns-then-not-callable-clause-leaves
returns-then-not-callable-clause-leaves c = λ w v. ends BadOperand (named_none _ _ _ _ c.args.registers.stay _ _ c.args.way c.callable.ensures c.if-not-callable.true)

pub returns-in_err-from-clause-leaves : goal.returns-in_err-from-clause-leaves
returns-in_err-from-clause-leaves c = λ w v.
    let b = on_leave w (regs_in c.args.registers) c.args.cells.now c.args.kinds.now c.args.marks.now c.args.classes.now in
    let p = err_from_is_err_and c.from_residual.result c.from_residual.ensures.1 in
    rw (p.1, p.2) (ends _ (named_takes _ _ _ _ c.args.registers.stay b _ c.args.way c.callable.ensures c.if-not-callable.false refl c.due-more.ensures.0 refl ∙ refused _ (c.in_err-from.ensures.as_model b refl)))

pub returns-in_err-taken-clause-leaves : goal.returns-in_err-taken-clause-leaves
returns-in_err-taken-clause-leaves c = λ w v.
    let b = on_leave w (regs_in c.args.registers) c.args.cells.now c.args.kinds.now c.args.marks.now c.args.classes.now in
    let p = err_from_is_err_and c.from_residual-in_err-taken.result c.from_residual-in_err-taken.ensures.1 in
    rw (p.1, p.2) (ends _ (named_takes _ _ _ _ c.args.registers.stay b _ c.args.way c.callable.ensures c.if-not-callable.false refl c.due-more.ensures.0 c.in_ok-from.ensures.there.1 ∙ accepted _ (c.in_ok-from.ensures.as_model b refl) ∙ c.in_err-taken.ensures.as_model _))

pub returns-clause-leaves : goal.returns-clause-leaves
returns-clause-leaves c = λ w v.
    let b = on_leave w (regs_in c.args.registers) c.args.cells.now c.args.kinds.now c.args.marks.now c.args.classes.now in
    instead (named_takes _ _ _ _ c.args.registers.stay b _ c.args.way c.callable.ensures c.if-not-callable.false refl c.due-more.ensures.0 c.in_ok-from.ensures.there.1 ∙ accepted _ (c.in_ok-from.ensures.as_model b refl) ∙ c.in_ok-taken.ensures.as_model _) (c.invoke.ensures.leaves b v)
