-- `announced` meets its contract.
use mathlib.Core.Path.{ap}
use Rattle.case_line.specs.Places.{announced_by}
use Rattle.case_line.specs.declared.reading.Places.{Places}
use Rattle.case_line.proofs.announced.Goals as goal

pub returns : goal.returns
unfolding announced_by
returns c = ap (λ (p : Places). p.end) c.locate-places.ensures.exact
