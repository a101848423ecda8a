-- The tables together.
use Prim.Native.Nat.{ℕ, ◌≤◌}
use mathlib.Core.Path.{◌≡◌, subst}
use mathlib.Core.List.{List}
use native.Mathlib.Omega.{arith}
use lib.ListN.{length}
use Rattle.model.specs.Tables.{Module}
use Rattle.loaded.specs.Holds.{Holds}
use Rattle.loaded.specs.declared.Loaded.{Loaded}
use Rattle.ancestor.specs.Parents.{Falls, Parents}
use Rattle.state.specs.Order.{Fine, HoldsVariables, HoldsAncestors, HoldsChosen, HoldsMade}

-- from what the functions that make them say
pub makes : (M : Module) (code : List ℕ) (L : Loaded) (variables ancestors chosen : List ℕ) → Fine M → Holds M code L
    → (L.counts.methods ≤ 128 → HoldsVariables L.counts.methods L.methods variables)
    → ((ps : List ℕ) → Parents ps L.parents → L.counts.classes ≡ length ps → HoldsAncestors ps ancestors) → HoldsChosen M chosen
    → HoldsMade M L variables ancestors chosen
unfolding Falls
makes M code L variables ancestors chosen fin hold v a k =
    record {
      by_variable = subst (λ (n : ℕ). HoldsVariables n L.methods variables) hold.method_count (v (omega (arith, hold.method_count, fin.methods_few)));
      by_class = a M.parents (record { parent = hold.by_class.parent; falls = fin.falling; few = fin.classes_few }) hold.class_count;
      by_root = k;
    }
