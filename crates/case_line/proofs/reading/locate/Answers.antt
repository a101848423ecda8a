-- `locate` meets its contract.
use mathlib.Core.Path.{ap, ◌∙◌}
use native.Mathlib.Omega.{arith}
use Rattle.model.specs.Loading.{little}
use Rattle.case_line.specs.Places.{places_by}
use Rattle.case_line.proofs.Cases.{located}
use Rattle.case_line.proofs.reading.locate.Goals as goal

pub returns : goal.returns
unfolding places_by
returns c =
    let y = c in
    let x = y in
    record {
      exact = located _ _ _ _ x.little2-tables.ensures.value (y.little2-size.ensures.value ∙ ap (little 2) y.after.ensures)
          (c.little1-count.ensures.value ∙ ap (little 1) c.after-2.ensures);
      few = omega (arith, c.little1-count.ensures.below);
    }
