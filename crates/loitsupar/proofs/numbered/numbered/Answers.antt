-- `numbered` meets its contract.
use Rattle.loitsupar.specs.Public.{numbered}
use Rattle.loitsupar.proofs.numbered.numbered.Goals as goal

pub returns-in-Ok : goal.returns-in-Ok
unfolding numbered
returns-in-Ok g c = rw c.in-Ok.is

pub returns-in-Err : goal.returns-in-Err
unfolding numbered
returns-in-Err g c = rw c.in-Err.is
