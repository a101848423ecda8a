use Rattle.visits.proofs.Visiting.{marked, branch_visit}
use Rattle.check_operands.proofs.Operands.{renamed, ins_plain}
use Rattle.visits.proofs.Arrivals.{kept_later}
use Rattle.model.specs.Check.{shape_at, effect}
use Rattle.model.specs.Code.{operands}
use native.Mathlib.Omega.{arith}
use mathlib.Core.Path.{ap}
use Rattle.visits.proofs.instruction.visit.Goals as goal

pub returns-clause-visits : goal.returns-clause-visits
returns-clause-visits c =
    λ M m all F gt H z st f k.
    let P = c.args.notes.now.pool in
    let sh = c.shape_at-s.ensures.shows P c.args.body.size F f k c.requires.at_below c.requires.size_at_most in
    branch_visit M m all F c.args.at c.args.i c.args.body.size _ _ P _ (c.group-g.ensures gt) c.if-g-lt-BR.false z
    (c.visit_branch.ensures all (marked F c.args.at) (shape_at F c.args.at) st f sh.1 sh.0) f

pub returns-then-g-lt-CALL-clause-visits : goal.returns-then-g-lt-CALL-clause-visits
returns-then-g-lt-CALL-clause-visits c =
    λ M m all F gt H z st f k.
    let P = c.args.notes.now.pool in
    let sh = c.shape_at-s.ensures.shows P c.args.body.size F f k c.requires.at_below c.requires.size_at_most in
    let t = renamed P _ _ (λ a. effect M m a (shape_at F c.args.at)) _ _ (ap (operands M m) (ins_plain _ _ _ _ c.if-g-lt-CALL.true))
    (c.plain-after.ensures.operand M m H.by_class.parent H.own f (shape_at F c.args.at) sh.0) in
    c.arrived.ensures M m all F c.args.at z (c.group-g.ensures gt) (omega arith) t.1.fine
    (kept_later P _ _ _ _ f t.1 sh.1) t.0

pub returns-then-g-lt-BR-clause-visits : goal.returns-then-g-lt-BR-clause-visits
returns-then-g-lt-BR-clause-visits c =
    λ M m all F gt H z st f k.
    let P = c.args.notes.now.pool in
    let sh = c.shape_at-s.ensures.shows P c.args.body.size F f k c.requires.at_below c.requires.size_at_most in
    let t = c.step-after.ensures.operand M m c.args.i.op H.own.most H.by_class H.by_field H.by_method c.if-g-lt-BR.true f (shape_at F c.args.at) sh.0 in
    c.arrived-then-g-lt-BR.ensures M m all F c.args.at z (c.group-g.ensures gt) c.if-g-lt-BR.true t.1.fine
    (kept_later P _ _ _ _ f t.1 sh.1) t.0
