use native.Mathlib.Omega.{arith}
use native.Mathlib.Numerals.{add-one}
use mathlib.Core.Path.{refl}
use Prim.Native.Nat.{◌<◌}
use Rattle.model.specs.Loading.{little}
use Rattle.code.proofs.Bytes.{after, moved, placed}
use Rattle.code.proofs.little.number.Goals as goal

pub loop-i-init : goal.loop-i-init
unfolding little
loop-i-init c = (refl, omega arith)

pub loop-i-preserved : goal.loop-i-preserved
loop-i-preserved c =
    let within : c.loop-i.i < 8 = omega (arith, c.requires.few, c.loop-i-test.true) in
    let byte : c.from.result < 256 = omega (arith, c.from.ensures, c.type_inv.part c.loop-i.i) in (
      rw (moved c.loop-i.i c.from.result within byte, add-one c.loop-i.i, after c.loop-i.i c.args.part.now, c.loop-i.invariant.0, c.from.ensures),
      placed c.loop-i.i c.from.result within byte c.loop-i.invariant.1,
    )
