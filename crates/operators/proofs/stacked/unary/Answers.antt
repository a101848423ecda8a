use borrow.Author.Rules.{rules}
use native.Mathlib.Omega.{arith}
use mathlib.Core.Path.{refl, sym, ap, ◌∙◌}
use Rattle.state.specs.Work.{put, goto}
use Rattle.operators.specs.Gives.{given, unary_by}
use Rattle.operators.proofs.Operated.{unary_none, unary_cell, unary_ends}
use Rattle.operators.proofs.Faults.{numbered, unary_numbered}
use Rattle.operators.proofs.stacked.unary.Goals as goal

pub returns-then-sp-y : goal.returns-then-sp-y
returns-then-sp-y c = rw c.ends.ensures (record { own = search rules; meets = λ w. unary_none _ _ _ _ c.if-sp-y.true })

pub returns-in-Ok : goal.returns-in-Ok
unfolding put goto
returns-in-Ok c = record { own = record { stays = refl; ended = refl; topped = record { low = omega arith; high = omega arith } }; meets = λ w. unary_cell _ _ _ _ c.if-sp-y.false (sym (ap given c.in-Ok.is) ∙ c.converted.ensures (c.requires.few.most _)) }

pub returns-in-Err : goal.returns-in-Err
returns-in-Err c =
    let given_is = sym (ap given c.in-Err.is) ∙ c.converted.ensures (c.requires.few.most _) in
    rw c.from.ensures (record { own = record { stays = refl; ended = numbered given_is (unary_numbered (unary_by c.args.op) _ _); topped = c.requires.topped }; meets = λ w. unary_ends _ _ _ _ c.if-sp-y.false given_is })
