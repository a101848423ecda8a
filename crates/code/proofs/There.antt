-- Whether an instruction is there whole.
use Prim.Native.Nat.{ℕ, ◌≤◌, ◌<◌}
use mathlib.Core.Path.{◌≡◌, sym, ◌∙◌}
use mathlib.Core.Bool.{Bool, true, false, not}
use lib.Dec.{leb}
use borrow.Author.Tests.{leb-true, leb-false, not-true, not-false}

-- w is whether it is
module _ {w : Bool} {n m : ℕ} (e : w ≡ leb n m) where
  pub there : not w ≡ false → n ≤ m
  there h = leb-true n m (sym e ∙ not-false w h)

  pub cut : not w ≡ true → m < n
  cut h = leb-false n m (sym e ∙ not-true w h)
