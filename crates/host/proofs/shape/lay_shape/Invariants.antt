use Rattle.host.specs.Hosting.{shape_cell}
use Rattle.host.proofs.Laying.{Laid}
use Rattle.host.proofs.shape.lay_shape.Given as goal

abbrev pub invariant-loop-i : goal.invariant-loop-i
invariant-loop-i l = Laid (shape_cell l.found) 34 l.initial.out l.out l.i
