-- `check_part` meets its contract: the word, then three numbers.
use Rattle.model.specs.Replay.{word_check}
use Rattle.line.proofs.Appending.{added_then, same}
use Rattle.case_line.specs.Texts.{strike}
use Rattle.case_line.proofs.Lines.{check_text_lem}
use Rattle.case_line.proofs.parts.check_part.Goals as goal

pub returns : goal.returns
unfolding word_check strike
returns c =
    let method = added_then _ _ _ _ _ (added_then _ _ _ _ _ c.word.ensures c.number.ensures) c.number-2.ensures in
    same _ _ _ _ (added_then _ _ _ _ _ method c.number-3.ensures) (check_text_lem c.args.f)
