use native.Mathlib.Omega.{arith}
use lib.Dec.{eqb}
use mathlib.Core.Bool.{Bool, true, false, not}
use mathlib.Core.Path.{◌≡◌}
use Prim.Native.Nat.{ℕ, ◌≤◌}
use mir.Val.{bool_byte}
use Rattle.model.specs.Answer.{pick}
use Rattle.state.specs.Work.{due_of_byte}
use Rattle.across_frames.proofs.arguments.due.Goals as goal

due_by : (b : Bool) {r : ℕ} → r ≡ bool_byte (not b) → (r ≡ pick b 0 1) × (r ≤ 1)
unfolding pick
due_by true e = (e, omega arith)
due_by false e = (e, omega arith)

pub returns : goal.returns
unfolding due_of_byte
returns c = due_by (eqb c.args.byte 0) c.from.ensures
