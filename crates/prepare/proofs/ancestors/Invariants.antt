use Prim.Native.Nat.{ℕ}
use mathlib.Core.Path.{◌≡◌}
use mathlib.Core.List.{List}
use lib.ListN.{length}
use Rattle.ancestor.specs.Parents.{Parents}
use Rattle.prepare.specs.Sets.{Sets}
use Rattle.prepare.proofs.ancestors.Given as goal

abbrev pub invariant-loop-c : goal.invariant-loop-c
invariant-loop-c l = (ps : List ℕ) → Parents ps l.parents → l.counts.classes ≡ length ps → Sets ps l.c l.sets
