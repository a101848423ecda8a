use Prim.Native.Nat.{◌+◌, ◌*◌, ◌%◌, ◌≤◌}
use mathlib.Core.Path.{◌≡◌, refl}
use native.Mathlib.Omega.{arith}
use lib.ListN.{get_or}
use Rattle.prepare.proofs.Turns.{row_ends, inherited_none, inherited_more}
use Rattle.prepare.proofs.rows.inherit.Goals as goal

pub loop-c-init : goal.loop-c-init
loop-c-init c = (omega arith, inherited_none _ _ _ _)

-- the parent's row and the class's own end within the table

pub overflow_mul-parent : goal.overflow_mul-parent
overflow_mul-parent c = omega (arith, (let it : get_or c.args.parents.now c.loop-c.c 0 % 33 * (c.args.width) + (c.args.width) ≤ 33 * (c.args.width) = row_ends _ 33 _ (omega arith) in it))

pub overflow_mul-c : goal.overflow_mul-c
overflow_mul-c c = omega (arith, (let it : c.loop-c.c * (c.args.width) + (c.args.width) ≤ 33 * (c.args.width) = row_ends _ 33 _ (omega arith) in it))

pub fill-requires : goal.fill-requires
fill-requires c = omega (arith, (let it : get_or c.args.parents.now c.loop-c.c 0 % 33 * (c.args.width) + (c.args.width) ≤ 33 * (c.args.width) = row_ends _ 33 _ (omega arith) in it), (let it : c.loop-c.c * (c.args.width) + (c.args.width) ≤ 33 * (c.args.width) = row_ends _ 33 _ (omega arith) in it), c.loop-c.auto.table)

pub loop-c-preserved : goal.loop-c-preserved
loop-c-preserved c = (omega arith, inherited_more _ _ _ _ _ c.requires.2 _ _ _ c.loop-c.invariant.1 refl c.fill.ensures c.loop-c.auto.c (omega arith))

pub returns : goal.returns
returns c = let e : c.loop-c.c ≡ c.args.classes % 33 + 1 = omega arith in rw e at c.loop-c.invariant.1

-- after the last class
pub returns-2 : goal.returns-2
returns-2 c =
    let e : c.loop-c.c ≡ c.args.classes % 33 = omega arith in
    rw (← e) (inherited_more _ _ _ _ _ c.requires.2 _ _ _ c.loop-c.invariant.1 refl c.fill.ensures c.loop-c.auto.c (omega arith))
