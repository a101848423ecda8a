use mathlib.Core.Path.{refl}
use native.Mathlib.Omega.{arith}
use Rattle.across_frames.proofs.Moving.{framed_above, frame_says}
use Rattle.across_frames.proofs.enter.enter.Goals as goal

pub clear-requires : goal.clear-requires
clear-requires c = (omega arith, omega (arith, c.requires.row_ranges.locals_few c.args.row))

pub returns : goal.returns
returns c = let s = c in
    record { landed = record { frame = framed_above s.requires.framed s.requires.y_range.1; row = s.requires.y_range.2; bottom = omega arith }; how_is = refl; as_model = λ w k t. frame_says _ w s.args.y k _ t _ _ s.args.sp _ s.requires.stays.floor_is refl c.clear.ensures }
