-- An int32 with its sign.
use Prim.Native.Nat.{ℕ, suc, ◌+◌, ◌-◌, ◌%◌, ◌<◌}
use mathlib.Core.Path.{◌≡◌, refl}
use mathlib.Core.Bool.{Bool, true, false}
use native.Mathlib.Omega.{arith}
use lib.Dec.{ltb}
use lib.IntN.{pos, negsuc}
use mir.Syntax.{w32, w64}
use mir.Val.{to_z, of_z, sel}
use Rattle.model.specs.Answer.{pick}
use Rattle.integers.specs.Cells.{low}
use Rattle.state.specs.Layout.{signed32}

pub signed_low : (b : ℕ) → of_z w64 (to_z w32 (low w32 b)) ≡ signed32 b
unfolding signed32 pick
signed_low b = let l : b % 4294967296 < 4294967296 = omega arith in go (b % 4294967296) (ltb (b % 4294967296) 2147483648) l
  where
    go : (x : ℕ) (t : Bool) → x < 4294967296 → of_z w64 (sel t (pos x) (negsuc (4294967296 - suc x))) ≡ pick t x (x + 18446744069414584320)
    go x true l = refl
    go x false l = omega arith
