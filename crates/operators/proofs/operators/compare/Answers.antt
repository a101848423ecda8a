use mathlib.Core.Path.{◌≡◌, refl}
use mathlib.Core.Bool.{Bool, true, false}
use mir.Val.{bool_byte}
use Rattle.model.specs.Operators.{flag}
use Rattle.operators.proofs.ByKind.{compare_says, compare_wrong}
use Rattle.operators.proofs.operators.compare.Goals as goal

byte_flag : (t : Bool) → bool_byte t ≡ flag t
unfolding flag
byte_flag true = refl
byte_flag false = refl

pub returns-in-Some : goal.returns-in-Some
returns-in-Some c =
    λ h l. rw (c.from.ensures, byte_flag c.in-Some.holds) (compare_says _ _ _ _ _ (c.in-Some.ensures _ _ h l c.both.ensures))

pub returns-in-None : goal.returns-in-None
returns-in-None c = λ h l. compare_wrong _ _ _ _ _ (c.in-None.ensures _ _ h l c.both.ensures)
