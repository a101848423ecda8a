use mathlib.Core.Path.{◌≡◌}
use Rattle.state.specs.Work.{fit_all_w}
use Rattle.state.specs.View.{Work}
use Rattle.across_frames.specs.Lent.{on_leave}
use Rattle.across_frames.proofs.Taken.{rest_fits}
use Rattle.across_frames.proofs.arguments.fit_all.Given as goal

abbrev pub invariant-loop-i : goal.invariant-loop-i
invariant-loop-i l =
    (w : Work) → rest_fits l.tables.methods.now l.tables.ancestors.now (on_leave w w.regs l.cells l.kinds w.marks l.classes) l.row l.n l.first l.from l.i
    ≡ fit_all_w l.tables.methods.now l.tables.ancestors.now (on_leave w w.regs l.cells l.kinds w.marks l.classes) l.row l.n l.first l.from
