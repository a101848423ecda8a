-- Which arguments the parameters take, by the bytes of their types.
use Rattle.std.specs.Prelude.{ℕ, suc, Bool, true, ◌&&◌, List, [], ◌∷◌, get_or, eqb}
use Rattle.std.specs.Int.{w32, w64}
use Rattle.std.proofs.Common.{to_z, Fits}
use Rattle.model.specs.Answer.{pick}
use Rattle.model.specs.Operators.{holds}

-- an int32 takes what its range holds, an int64 everything, and no other type anything
unfoldable pub takes : ℕ → ℕ → Bool
takes t a = pick (eqb t 1) (holds w32 (to_z w64 a)) (eqb t 2)

-- whether parameters whose types stand from i on take arguments
unfoldable pub takes_all : List ℕ → List ℕ → ℕ → Bool
takes_all types [] i = true
takes_all types (a ∷ l) i = takes (get_or types i 0) a && takes_all types l (suc i)

-- every number of a list has 64 bits
pub record Words (l : List ℕ) : Type 0 where
  pub word : (j : ℕ) → Fits w64 (get_or l j 0)
