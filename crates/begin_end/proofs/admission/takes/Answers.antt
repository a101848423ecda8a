use mathlib.Core.Path.{◌≡◌}
use Rattle.std.proofs.Common.{rules}
use borrow.Author.Tests.{eq-eqb, ne_eqb}
use Rattle.model.specs.Answer.{pick}
use Rattle.begin_end.specs.Admission.{takes}
use Rattle.begin_end.proofs.admission.takes.Goals as goal

pub returns-in-1 : goal.returns-in-1
unfolding takes pick
returns-in-1 c = simp (eq-eqb _ _ c.in-1.is) c.admitted.ensures

pub returns-in-2 : goal.returns-in-2
unfolding takes pick
returns-in-2 c = rw c.in-2.is

pub returns-in_default : goal.returns-in_default
unfolding takes pick
returns-in_default c =
    let not32 : c.args.byte ≡ 1 → ⊥ = search rules in
    let not64 : c.args.byte ≡ 2 → ⊥ = search rules in
    simp (ne_eqb _ _ not32, ne_eqb _ _ not64)
