-- `code_of` meets its contract: what follows where the code begins.
use Rattle.line.proofs.Inputs.{code_part}
use Rattle.line.proofs.input.code_of.Goals as goal

pub returns : goal.returns
returns c = let both = code_part c.args.input.now c.after.result.now c.args.start c.after.ensures in record { result_value = both.0; as_model = both.1 }
