use mathlib.Core.Path.{refl}
use Rattle.runner.specs.Playing.{laid, Plays}
use Rattle.runner.proofs.Beginning.{entry_there, row_ranges, initialisers_few, begins_so, first_work, good_first, seen_first}
use Rattle.runner.proofs.Telling.{in_arrays, tidy_asks, tells}
use Rattle.runner.proofs.playing.played.Goals as goal

pub first-begun-requires : goal.first-begun-requires
first-begun-requires c =
    let l = c.requires.loads in
    record { entry_at_most = entry_there l; row_ranges = row_ranges l; few = initialisers_few l }

pub steps-r-requires : goal.steps-r-requires
unfolding laid
steps-r-requires c = begins_so c.requires.loads c.requires.begun c.first-begun.ensures.rest c.first-begun.ensures.as_model

pub told-summary-requires : goal.told-summary-requires
unfolding laid
told-summary-requires c =
    let q = begins_so c.requires.loads c.requires.begun c.first-begun.ensures.rest c.first-begun.ensures.as_model in
    record { last_range = in_arrays q.module_is q.fine q.holds q.good _ _ c.steps-r.ensures.ends; left_range = c.steps-r.ensures.result_range }

pub live-requires : goal.live-requires
unfolding laid
live-requires c =
    let q = begins_so c.requires.loads c.requires.begun c.first-begun.ensures.rest c.first-begun.ensures.as_model in
    (in_arrays q.module_is q.fine q.holds q.good _ _ c.steps-r.ensures.ends).1

pub tidy-requires : goal.tidy-requires
unfolding laid
tidy-requires c =
    let q = begins_so c.requires.loads c.requires.begun c.first-begun.ensures.rest c.first-begun.ensures.as_model in
    let all = tidy_asks q.module_is q.fine q.holds q.good _ _ c.steps-r.ensures.ends _ c.live.ensures in
    record { framed = all.0; last_range = all.1.0; saved = all.1.1.0; placed = all.1.1.1.0; blank = all.1.1.1.1 }

pub returns : goal.returns
unfolding laid Plays
returns c =
    λ M given vs fin hold words copied admitted.
    let begun = first_work _ c.requires.begun c.first-begun.ensures.rest c.first-begun.ensures.as_model given copied in
    tells M fin hold (good_first M fin hold given begun) _ _ c.steps-r.ensures.ends _ c.live.ensures _ c.told-summary.ensures
    (c.types.ensures M _ _ fin hold refl refl refl) c.tidy.ensures (seen_first M fin hold given begun vs words admitted)
