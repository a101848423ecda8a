-- `run_part` meets its contract: the word, four numbers, the value, and the bar.
use Rattle.model.specs.Replay.{word_run, bar}
use Rattle.line.specs.Values.{value_of}
use Rattle.line.proofs.Appending.{added_then, same}
use Rattle.case_line.specs.Texts.{strike}
use Rattle.case_line.proofs.Lines.{run_text_lem}
use Rattle.case_line.proofs.parts.run_part.Goals as goal

pub returns : goal.returns
unfolding word_run strike bar
returns c =
    let method = added_then _ _ _ _ _ (added_then _ _ _ _ _ c.word.ensures c.number.ensures) c.number-2.ensures in
    let steps = added_then _ _ _ _ _ (added_then _ _ _ _ _ method c.number-3.ensures) c.number-4.ensures in
    same _ _ _ _ (added_then _ _ _ _ _ (added_then _ _ _ _ _ steps c.value.ensures) c.word-2.ensures)
    (run_text_lem c.args.f c.args.steps (value_of c.args.value))
