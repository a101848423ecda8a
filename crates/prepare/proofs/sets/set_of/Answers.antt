use Prim.Native.Nat.{◌+◌}
use mathlib.Core.Path.{◌≡◌}
use native.Mathlib.Omega.{arith}
use Rattle.prepare.proofs.Asking.{upto_first, upto_all}
use Rattle.prepare.proofs.sets.set_of.Goals as goal

pub loop-d-init : goal.loop-d-init
loop-d-init c = λ ps P u. upto_first ps _ _ u

pub returns : goal.returns
returns c = λ ps P u. upto_all ps P.falls _ _ (let e : c.loop-d.d ≡ c.args.c + 1 = omega arith in rw e at (c.loop-d.invariant ps P u))

-- after the class itself
pub returns-2 : goal.returns-2
returns-2 c = λ ps P u. upto_all ps P.falls _ _ (let e : c.loop-d.d ≡ c.args.c = omega arith in rw e at (c.asked-set.ensures ps P (c.loop-d.invariant ps P u)))
