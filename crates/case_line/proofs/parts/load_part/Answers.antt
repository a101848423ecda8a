-- `load_part` meets its contract: the word, then two numbers.
use Rattle.model.specs.Replay.{word_load}
use Rattle.line.proofs.Appending.{added_then, same}
use Rattle.case_line.proofs.Lines.{load_text_lem}
use Rattle.case_line.proofs.parts.load_part.Goals as goal

pub returns : goal.returns
unfolding word_load
returns c =
    same _ _ _ _ (added_then _ _ _ _ _ (added_then _ _ _ _ _ c.word.ensures c.number.ensures) c.number-2.ensures) (load_text_lem c.args.f)
