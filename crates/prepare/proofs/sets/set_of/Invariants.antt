use Prim.Native.Nat.{ℕ}
use mathlib.Core.List.{List}
use Rattle.ancestor.specs.Parents.{Parents}
use Rattle.prepare.specs.Sets.{Unasked, Upto}
use Rattle.prepare.proofs.sets.set_of.Given as goal

abbrev pub invariant-loop-d : goal.invariant-loop-d
invariant-loop-d l = (ps : List ℕ) → Parents ps l.parents → Unasked ps l.c l.first → Upto ps l.c l.d l.set
