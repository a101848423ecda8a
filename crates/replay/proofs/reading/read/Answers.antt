-- What is there is as much as it announces only where it is a case.
use Rattle.std.proofs.Common.{ap, sym, ◌∙◌, rules, length-take-le}
use Rattle.model.specs.Tables.{part_of}
use Rattle.case_line.specs.Places.{announced_by}
use Rattle.case_line.proofs.Cases.{whole}
use Rattle.replay.proofs.reading.read.Goals as goal

pub loop-have-init : goal.loop-have-init
unfolding part_of
loop-have-init g c = (search rules, search rules, c.announced-all.ensures ∙ ap announced_by c.part.ensures)

pub loop-have-preserved : goal.loop-have-preserved
unfolding part_of
loop-have-preserved g c = (search rules, search rules, c.announced-all-in-loop-have.ensures ∙ ap announced_by c.part-in-loop-have.ensures)

pub returns-clause-whole : goal.returns-clause-whole
returns-clause-whole g c =
    let i = c.loop-have.invariant in
    whole _ (sym i.2 ∙ sym c.loop-have-test.false ∙ sym (length-take-le _ _ i.1))
