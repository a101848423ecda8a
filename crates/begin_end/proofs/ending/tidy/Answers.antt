use mathlib.Core.Path.{◌≡◌, ◌∙◌}
use native.Mathlib.Omega.{arith}
use Rattle.state.specs.Layout.{save, tidy, tidy_kinds, tidy_statics}
use Rattle.begin_end.specs.Ending.{saved_cells}
use Rattle.begin_end.proofs.Changing.{statics_all}
use Rattle.begin_end.proofs.Tidied.{saved_waits, waits_on, same_kinds}
use Rattle.begin_end.proofs.ending.tidy.Goals as goal

pub frames-requires-clause-waiting : goal.frames-requires-clause-waiting
frames-requires-clause-waiting c = saved_waits c.args.last.fp c.args.last.at c.args.last.sp c.args.live c.args.state.now.cells c.requires.framed (omega arith) (omega arith) c.requires.saved (omega arith)

pub all_kinds-requires-clause-waiting : goal.all_kinds-requires-clause-waiting
all_kinds-requires-clause-waiting c = rw c.frames.ensures (waits_on c.args.loaded.now.methods (saved_cells c.args.last.fp c.args.last.at c.args.last.sp c.args.state.now.cells) c.args.state.now.kinds c.args.live (omega arith) (saved_waits c.args.last.fp c.args.last.at c.args.last.sp c.args.live c.args.state.now.cells c.requires.framed (omega arith) (omega arith) c.requires.saved (omega arith)))

pub returns : goal.returns
unfolding tidy save
returns c =
    let S = c.args.state.now in
    let saved = saved_cells c.args.last.fp c.args.last.at c.args.last.sp c.args.state.now.cells in
    let kinds : c.all_kinds.new.kinds ≡ tidy_kinds saved c.args.state.now.kinds c.args.live = rw c.frames.ensures at c.all_kinds.ensures ∙ same_kinds c.args.loaded.now.methods saved c.args.state.now.kinds c.args.live (omega arith) in
    let statics : c.rewrite.new.cells ≡ tidy_statics c.args.static_types.now c.args.state.now.statics = statics_all c.args.static_types.now c.args.state.now.statics (omega arith) c.rewrite.ensures.long c.rewrite.ensures.each in
    rw (c.frames.ensures, kinds, statics, c.objects.ensures)
