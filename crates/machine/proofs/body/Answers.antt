-- a part that begins inside ends inside, where one that has bytes does
use borrow.Author.Rules.{rules}
use Prim.Native.Nat.{ℕ, zero, suc, ◌+◌, ◌≤◌, ◌<◌}
use native.Mathlib.Omega.{arith}
use Rattle.code.proofs.Parts.{part_none, part_whole}
use Rattle.machine.proofs.body.Goals as goal

inside : (from size most : ℕ) → from < most → (0 < size → from + size ≤ most) → from + size ≤ most
inside from zero most h k = omega arith
inside from (suc size) most h k = k (omega arith)

pub returns-then-code-from : goal.returns-then-code-from
returns-then-code-from c = part_none _ _ _ c.if-code-from.true

pub overflow_add-end-2 : goal.overflow_add-end-2
overflow_add-end-2 c = let h = inside _ _ _ c.if-code-from.false c.requires.1 in search rules

pub slice_bounds-result-end-2 : goal.slice_bounds-result-end-2
slice_bounds-result-end-2 c = let h = inside _ _ _ c.if-code-from.false c.requires.1 in search rules

pub returns : goal.returns
returns c = part_whole _ _ _
