use Rattle.machine.proofs.stay.Goals as goal

pub returns : goal.returns
returns c = rw c.wide.ensures.0
