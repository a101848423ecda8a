use native.Mathlib.Omega.{arith}
use mathlib.Core.Path.{refl}
use Prim.Native.Nat.{◌+◌, ◌*◌}
use lib.ListN.{get_or, set}
use Rattle.state.specs.Work.{with_marks}
use Rattle.state.specs.declared.ending.Ending.TheVariants.{UsedFrames}
use Rattle.across_frames.proofs.Moving.{landed, landed_on, ends, goes, start_full, start_goes}
use Rattle.across_frames.proofs.enter.start.Goals as goal

pub returns-then-registers-ge-LAST_FRAME : goal.returns-then-registers-ge-LAST_FRAME
returns-then-registers-ge-LAST_FRAME c = record { landed = landed c.args.registers c.requires.standing c.requires.standing.row_few; leaves = λ w v. ends UsedFrames (start_full _ _ _ c.if-registers-ge-LAST_FRAME.true) }

pub bounds-marks-class : goal.bounds-marks-class
bounds-marks-class c = omega (arith, c.requires.row_ranges.owner_few c.args.first)

pub enter-requires : goal.enter-requires
enter-requires c = record { stays = c.requires.standing.stays; framed = c.requires.standing.frame; y_range = (c.requires.standing.topped.low, c.if-registers-ge-LAST_FRAME.false, c.requires.first_at_most); row_ranges = c.requires.row_ranges }

pub returns : goal.returns
returns c = record { landed = landed_on c.enter.ensures.landed; leaves = λ w v. goes refl (c.enter.ensures.as_model (with_marks w (set c.args.marks.now (get_or c.args.methods.now (c.args.first * 32 + 25) 0) 1)) c.args.registers.row c.args.registers.sp) (start_goes _ _ _ c.if-registers-ge-LAST_FRAME.false refl) }
