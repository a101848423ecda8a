-- `seen` meets its contract, answer by answer.
use mathlib.Core.Path.{refl, sym, ap, ◌∙◌}
use lib.ListN.{length}
use Rattle.tell_line.specs.Shapes.{seen}
use Rattle.tell_line.proofs.seen.Goals as goal

pub returns-in-Some : goal.returns-in-Some
unfolding seen
returns-in-Some c = let t = c.types_of.ensures in rw (c.in-Ok.is, c.in-Some.is) (record { is = rw t.0; long = sym (ap length t.0) ∙ t.1 })

pub returns-in-None : goal.returns-in-None
unfolding seen
returns-in-None c = rw (c.in-Ok.is, c.in-None.is) (record { is = refl; long = refl })

pub returns-in-Err : goal.returns-in-Err
unfolding seen
returns-in-Err c = rw c.in-Err.is (record { is = refl; long = refl })
