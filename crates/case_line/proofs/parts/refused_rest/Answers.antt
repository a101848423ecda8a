-- `refused_rest` meets its contract.
use Rattle.model.specs.Turn.{dash}
use Rattle.line.proofs.Appending.{added_then, same}
use Rattle.case_line.specs.Case.{line_feed}
use Rattle.case_line.proofs.Lines.{refused_text}
use Rattle.case_line.proofs.parts.refused_rest.Goals as goal

pub returns : goal.returns
unfolding dash line_feed
returns c =
    same _ _ _ _ (added_then _ _ _ _ _ (added_then _ _ _ _ _ c.check_part.ensures c.run_part.ensures) c.word.ensures) (refused_text c.args.f)
