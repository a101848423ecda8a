-- The shape found before an instruction, as it is told.
use Rattle.std.specs.Prelude.{ℕ, ◌-◌, List, [], ◌∷◌, ◌++◌, length, replicate, Option, None, Some}
use Rattle.std.proofs.Math.Option.{Option as ModelOption, none, some}
use Rattle.model.specs.Tables.{byte_of}
use Rattle.model.specs.Check.{Shape}
use Rattle.checker.specs.declared.tell.Found.{Found}

-- the types of a shape as bytes, the bottom first
unfoldable pub bottom_up : Shape → List ℕ
bottom_up [] = []
bottom_up (t ∷ S) = bottom_up S ++ (byte_of t ∷ [])

-- every byte past the last type is 0
unfoldable pub told : ModelOption Shape → Option Found
told none = None
told (some S) = Some (record { depth = length S; types = bottom_up S ++ replicate (32 - length S) 0 })
