use Rattle.host.specs.Hosting.{state_cell}
use Rattle.host.proofs.Laying.{Laid}
use Rattle.host.proofs.states.lay_state.Given as goal

abbrev pub invariant-loop-i : goal.invariant-loop-i
invariant-loop-i l = Laid (state_cell l.state) 5314 l.initial.out l.out l.i
