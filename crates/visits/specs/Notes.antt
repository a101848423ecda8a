-- What the check notes of a method.
use Rattle.std.specs.Prelude.{ℕ, ◌≡◌, List, length}
use Rattle.shapes.specs.declared.shape.Pool.{Pool}
use Rattle.shapes.specs.Pool.{pool, Fine}

-- the notes are ready for a method
pub record Ready (found : List ℕ) (P : Pool) : Type 0 where
  pub found_size : length found ≡ 1024
  pub fine : Fine (pool P.tops P.belows P.heights 2)
