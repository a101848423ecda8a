-- `fill` meets its contract.
use mathlib.Core.Path.{◌≡◌, refl, ap, ◌∙◌}
use native.Mathlib.Omega.{arith}
use lib.ListN.{length-set}
use Rattle.model.specs.Loading.{little}
use Rattle.case_line.specs.Case.{words as words_of}
use Rattle.case_line.proofs.Cases.{next_word}
use Rattle.case_line.proofs.reading.fill.Goals as goal

pub loop-i-init : goal.loop-i-init
unfolding words_of
loop-i-init c = (c.requires.words_len, refl)

pub loop-i-preserved : goal.loop-i-preserved
loop-i-preserved c =
    let inv = c.loop-i.invariant in (
      simp length-set inv.0,
      next_word _ _ _ _ (omega (arith, inv.0)) (c.little8.ensures ∙ ap (little 8) c.after.ensures) inv.1,
    )

pub returns : goal.returns
returns c =
    let e : c.loop-i.i ≡ c.args.count = omega arith in
    record { words_len = c.loop-i.invariant.0; take_is = rw e at c.loop-i.invariant.1 }
