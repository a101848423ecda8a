use Prim.Native.Nat.{ℕ, ◌≤◌, ◌<◌}
use mathlib.Core.Path.{◌≡◌}
use lib.ListN.{length, get_or}
use Rattle.begin_end.proofs.ending.rewrite.Given as goal

abbrev pub invariant-loop-i : goal.invariant-loop-i
invariant-loop-i g l =
    record {
      long : length l.cells ≡ length l.initial.cells;
      done : (k : ℕ) → k < l.i → g.F.Fn.post l.by (get_or l.bytes k 0, (get_or l.initial.cells k 0, tt)) (get_or l.cells k 0);
      rest : (k : ℕ) → l.i ≤ k → get_or l.cells k 0 ≡ get_or l.initial.cells k 0;
    }
