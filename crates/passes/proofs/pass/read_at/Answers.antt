use Rattle.std.proofs.Common.{refl}
use Rattle.passes.proofs.Loops.{reading_size, reading_some, reading_on, reading_next}
use Rattle.passes.proofs.pass.read_at.Goals as goal

pub known-requires : goal.known-requires
known-requires c = record {
  size_is = reading_size _ _ _ c.requires.reading c.requires.at_inside _ refl;
  size_positive = reading_some _ _ _ c.requires.reading c.requires.at_inside _ refl;
}

pub returns : goal.returns
returns c =
    let w = reading_on _ _ _ c.requires.reading c.requires.at_inside _ refl _ c.known.ensures.next_is in
    record {
      decode_is = c.known.ensures.decode_is;
      onward = w;
      reading = reading_next _ _ _ _ c.requires.reading c.requires.at_inside c.known.ensures.decode_is w;
    }
