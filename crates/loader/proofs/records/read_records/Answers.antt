-- `loader::records::read_records` meets its contract.
use Rattle.std.proofs.Common.{refl}
use Rattle.loader.proofs.Climb.{fine, small_own}
use Rattle.loader.proofs.Reading.{start, reads_record, goes_on, reads_all}
use Rattle.loader.proofs.records.read_records.Goals as goal

pub loop-at-init : goal.loop-at-init
loop-at-init c = start c.args.tables.now c.args.code.now _ _ c.requires.nothing_yet c.requires.no_notes

pub read_record-requires-clause-fine : goal.read_record-requires-clause-fine
read_record-requires-clause-fine c = fine c.loop-at.invariant.stands

pub read_record-requires-clause-small : goal.read_record-requires-clause-small
read_record-requires-clause-small c = small_own c.loop-at.invariant.stands.fields

pub returns-in-Err : goal.returns-in-Err
returns-in-Err c = reads_record c.args.tables.now c.args.code.now c.loop-at.at _ _ c.loop-at.invariant c.loop-at-test.true _ _ _
    (c.in-Err.ensures.as_model c.args.code.now c.loop-at.invariant.loading refl c.loop-at.invariant.stands) _ c.at.ensures _

pub loop-at-preserved : goal.loop-at-preserved
loop-at-preserved c = goes_on c.args.tables.now c.args.code.now c.loop-at.at _ _ c.loop-at.invariant c.loop-at-test.true _ c.in-Ok.ensures.ahead _ _
    (c.in-Ok.ensures.as_model c.args.code.now c.loop-at.invariant.loading refl c.loop-at.invariant.stands)

pub returns : goal.returns
returns c = reads_all c.args.tables.now c.args.code.now c.loop-at.at _ _ c.loop-at.invariant c.loop-at-test.false _
