-- Going by which of two numbers is less.
use Rattle.std.proofs.Common.{◌≡◌, ℕ, ◌<◌, ◌≤◌, Bool, true, false, ltb, refl, ltb-false, ltb-true}

pub by_less {ℓ} : {P : Type ℓ} (a b : ℕ) → (a < b → P) → (b ≤ a → P) → P
by_less {P = P} a b f g = go (ltb a b) refl
  where
    go : (t : Bool) → ltb a b ≡ t → P
    go true e = f (ltb-true a b e)
    go false e = g (ltb-false a b e)
