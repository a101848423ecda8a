-- `tables_of` meets its contract: what lies between the two bytes and the code.
use Rattle.line.proofs.Inputs.{tables_part}
use Rattle.line.proofs.input.tables_of.Goals as goal

pub returns : goal.returns
returns c = let both = tables_part c.args.input.now c.part.result.now c.args.start _ c.saturating_sub.ensures c.part.ensures in record { result_value = both.0; as_model = both.1 }
