use mathlib.Core.Path.{◌≡◌}
use native.Mathlib.Omega.{arith}
use lib.ListN.{length-set}
use Rattle.prepare.proofs.Turns.{zeros_long}
use Rattle.prepare.proofs.Methods.{own_none, own_turn}
use Rattle.prepare.proofs.members.own_methods.Goals as goal

pub loop-r-init : goal.loop-r-init
loop-r-init c = (zeros_long 4257 _ c.requires, λ ms T e. (omega (arith, T.few), own_none ms _ _ (omega (arith, T.few)) c.requires))

pub loop-r-preserved : goal.loop-r-preserved
loop-r-preserved c = (
  simp length-set c.loop-r.invariant.0,
  λ ms T e.
      let I = c.loop-r.invariant.1 ms T e in
      (omega (arith, I.0), own_turn ms _ T _ _ c.loop-r-test.true I.0 c.loop-r.invariant.0 I.1),
)

pub returns : goal.returns
returns c = record { chosen_len = c.loop-r.invariant.0; own_from = λ ms T e. let z : c.loop-r.r ≡ 0 = omega arith in rw z at (c.loop-r.invariant.1 ms T e).1 }
