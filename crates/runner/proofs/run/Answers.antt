use Rattle.state.specs.Layout.{no_state}
use Rattle.runner.proofs.Answering.{the_same, all_zero}
use Rattle.runner.proofs.run.Goals as goal

pub run_lent-summary-requires : goal.run_lent-summary-requires
run_lent-summary-requires c = record { loads = c.requires; zeros = all_zero c.new-state.ensures }

pub returns : goal.returns
returns c = λ M fin hold. the_same _ c.with_state.ensures (c.run_lent-summary.ensures M fin hold)
