-- `place` meets its contract: a frame is one of 32, and a cell of its part is below the width.
use mathlib.Core.Path.{refl}
use native.Mathlib.Nat.{mod-lt}
use native.Mathlib.Omega.{arith}
use Rattle.host.specs.Hosting.{place_of}
use Rattle.host.proofs.Places.{frame_few}
use Rattle.host.proofs.states.place.Goals as goal

pub overflow_mul-result : goal.overflow_mul-result
overflow_mul-result c =
    let q = frame_few _ _ c.requires.0 c.requires.2 in
    omega arith

pub overflow_add-result : goal.overflow_add-result
overflow_add-result c =
    let q = frame_few _ _ c.requires.0 c.requires.2 in
    omega arith

pub overflow_add-result-2 : goal.overflow_add-result-2
overflow_add-result-2 c =
    let q = frame_few _ _ c.requires.0 c.requires.2 in
    let m = mod-lt c.args.i c.requires.0 in
    omega arith

pub returns : goal.returns
unfolding place_of
returns c =
    let q = frame_few _ _ c.requires.0 c.requires.2 in
    let m = mod-lt c.args.i c.requires.0 in
    (refl, omega arith)
