-- `line` meets its contract.
use Rattle.std.proofs.Common.{rules}
use mathlib.Core.Path.{sym, ap, ◌∙◌}
use native.Mathlib.Omega.{arith}
use lib.Seq.{length-take-le}
use Rattle.model.specs.Loading.{little}
use Rattle.line.proofs.Appending.{held}
use Rattle.case_line.specs.Case.{words}
use Rattle.case_line.proofs.Cases.{no_line, whole_line}
use Rattle.case_line.proofs.line.Goals as goal

pub returns-then-case-p : goal.returns-then-case-p
returns-then-case-p c = no_line _ _ c.locate-p.ensures c.if-case-p.true _

pub slice_bounds-answer-end : goal.slice_bounds-answer-end
slice_bounds-answer-end c = sym (length-take-le _ _ (omega (arith, c.fill.ensures.words_len, c.locate-p.ensures.few)))

pub returns : goal.returns
returns c =
    let given = c.up_to-text.ensures in
    let said =
    whole_line _ _ c.locate-p.ensures c.if-case-p.false _ _ _ _ c.part.ensures c.part-2.ensures
    (c.fill.ensures.take_is ∙ ap (words c.locate-p.result.count) c.after.ensures)
    (c.little4.ensures.value ∙ ap (little 4) c.after-2.ensures) _ _ c.answer.ensures.text in
    held _ _ _ _ _ _ _ given.bytes given.place said (search rules) c.end.ensures
