-- The line of `tell`: the shape that the check found before an instruction, in numbers.
use Rattle.std.specs.Prelude.{ℕ, Bool, true, false, List, [], ◌∷◌, ◌++◌, take, replicate, Option, None, Some, Result, Ok, Err}
use Rattle.model.specs.Operators.{flag}
use Rattle.model.specs.Turn.{decimal, space}
use Rattle.loaded.specs.declared.Fault.{Fault}
use Rattle.checker.specs.declared.tell.Found.{Found}
use Rattle.loitsupar.specs.Public.{numbered}

-- a space and a number, for each
unfoldable pub spaced : List ℕ → List ℕ
spaced [] = []
spaced (n ∷ l) = space ++ (decimal n ++ spaced l)

-- whether an instruction starts there, its depth and the types, the bottom first: nothing behind a fault
unfoldable pub seen : Result (Option Found) Fault → Bool × ℕ × List ℕ
seen (Ok (Some f)) = (true, f.depth, f.types)
seen (Ok None) = (false, 0, replicate 32 0)
seen (Err e) = (false, 0, replicate 32 0)

-- number, method and offset of the fault, 1 where an instruction starts there, the depth, and the types from the bottom; then a line feed
unfoldable pub line_of : Result (Option Found) Fault → List ℕ
line_of t =
    decimal (numbered t).number ++ (spaced ((numbered t).method ∷ (numbered t).offset ∷ flag (seen t).0 ∷ (seen t).1
    ∷ take (seen t).1 (seen t).2) ++ (10 ∷ []))
