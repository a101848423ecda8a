-- `running::run` meets its contract.
use Rattle.runner.proofs.Answering.{the_same}
use Rattle.loitsupar.proofs.running.run.Goals as goal

pub returns : goal.returns
returns c = the_same _ c.with_state.ensures c.run-summary.ensures
