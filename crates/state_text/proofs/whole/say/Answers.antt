-- `say` meets its contract: the four parts in their order.
use mathlib.Core.List.{append_assoc}
use Rattle.model.specs.Replay.{word_frames, word_statics, word_marks, word_heap}
use Rattle.line.proofs.Appending.{added_then, same}
use Rattle.state_text.specs.Texts.{whole_text}
use Rattle.state_text.proofs.Telling.{says}
use Rattle.state_text.proofs.whole.say.Goals as goal

pub returns : goal.returns
unfolding whole_text word_frames word_statics word_marks word_heap
returns c =
    let s = c.args in
    let a = added_then _ _ _ _ _ (added_then _ _ _ _ _ c.word.ensures c.frames.ensures) c.word-2.ensures in
    let b = added_then _ _ _ _ _ (added_then _ _ _ _ _ a c.statics.ensures) c.word-3.ensures in
    let d = added_then _ _ _ _ _ (added_then _ _ _ _ _ (added_then _ _ _ _ _ b c.marks.ensures) c.word-4.ensures) c.objects.ensures in
    says s.methods.now s.fields.now s.types.now _ _ _ (same _ _ _ _ d (simp append_assoc))
