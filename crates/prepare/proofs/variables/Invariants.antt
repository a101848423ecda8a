use Prim.Native.Nat.{ℕ, ◌+◌, ◌*◌, ◌<◌}
use mathlib.Core.Path.{◌≡◌}
use lib.ListN.{length, get_or}
use Rattle.loaded.specs.Holds.{method_cell}
use Rattle.state.specs.Order.{kind_or_none}
use Rattle.prepare.proofs.variables.Given as goal

abbrev pub invariant-loop-row : goal.invariant-loop-row
invariant-loop-row l = (length l.variables ≡ 4128) × ((s i : ℕ) → 0 < s → s < l.row → i < 24 → get_or l.variables (s * 32 + i) 0 ≡ kind_or_none (method_cell l.methods s i))
