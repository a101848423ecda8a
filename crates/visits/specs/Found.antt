-- Shapes found, by offset, and what a visit leaves of them.
use Rattle.std.specs.Prelude.{ℕ, ◌<◌, ◌≡◌, Bool, not, ◌&&◌, ◌||◌, List, [], ◌∷◌, length, get_or, ltb, Option as Found, None, Some, Result, Ok, Err, ⊤}
use Rattle.std.proofs.Math.Option.{Option, none, some}
use Rattle.model.specs.Answer.{Answer, bad, ok, ◌>>=◌, guard, keep_if, only_if}
use Rattle.model.specs.Code.{Jump, Ins, and_then}
use Rattle.model.specs.Check.{Shape, Shapes, Site, starts, jump_falls, jump_effect, arrive}
use Rattle.shapes.specs.declared.shape.Pool.{Pool}
use Rattle.shapes.specs.Pool.{Shows}
use Rattle.shapes.specs.declared.fault.FaultKind.{FaultKind}
use Rattle.shapes.specs.declared.fault.FaultKind.TheVariants.{Operand, OtherShape}
use Rattle.shapes.specs.Faults.{number}

-- 0 where no shape is found
unfoldable pub Stands : Pool → ℕ → Option Shape → Type 0
Stands P v none = v ≡ 0
Stands P v (some S) = Shows P S v

-- the array holds the shapes found at the first n offsets
pub record Kept (P : Pool) (n : ℕ) (F : Shapes) (l : List ℕ) : Type 0 where
  pub size : length F ≡ n
  pub array : length l ≡ 1024
  pub at : (o : ℕ) → o < n → Stands P (get_or l o 0) (get_or F o none)

-- the array is not 0 just where instructions start
abbrev pub Starts : List (Site Ins) → ℕ → List ℕ → Type 0
Starts all n l = (o : ℕ) → o < n → ltb 0 (get_or l o 0) ≡ starts all o

-- the shape that the code reads at an offset
unfoldable pub Read : Pool → Found ℕ → Option Shape → Type 0
Read P r none = r ≡ None
Read P r (some S) = (s : ℕ) × (r ≡ Some s) × Shows P S s

-- an arrival brings the shape found, or another
unfoldable pub Met : Pool → ℕ → Result ⊤ FaultKind → List ℕ → Answer ℕ Shapes → Type 0
Met P n r l (bad k) = (r ≡ Err OtherShape) × (k ≡ 16)
Met P n r l (ok F) = (r ≡ Ok tt) × Kept P n F l

-- a fault from 13 to 17, or the shapes found
unfoldable pub Went : Pool → ℕ → Result ⊤ FaultKind → List ℕ → Answer ℕ Shapes → Type 0
Went P n r l (bad k) = (e : FaultKind) × (r ≡ Err e) × (number e ≡ k) × (12 < k)
Went P n r l (ok F) = (r ≡ Ok tt) × Kept P n F l

-- a fault of the operand where there is none
unfoldable pub WentBy : {A : Type 0} → Pool → ℕ → Result ⊤ FaultKind → List ℕ → (A → Answer ℕ Shapes) → Option A → Type 0
WentBy P n r l f none = r ≡ Err Operand
WentBy P n r l f (some a) = Went P n r l (f a)

-- the target of a branch, if an instruction starts there
unfoldable pub landing : List (Site Ins) → ℕ → Option ℕ → Option ℕ
landing all n t = and_then t (λ o. only_if (ltb o n) (only_if (starts all o) (some o)))

-- that target, inside the code
unfoldable pub Lands : ℕ → Found ℕ → Option ℕ → Type 0
Lands n r none = r ≡ None
Lands n r (some o) = (r ≡ Some o) × (o < n)

-- what follows an effect: arrivals at the next instruction, if there is one, and at targets, and the end
unfoldable pub goes_on : ℕ → Shapes → Bool → ℕ → List ℕ → Shape → Answer ℕ Shapes
goes_on n F falls next ts S =
    arrive F S (keep_if (falls && ltb next n) next ts) >>= λ more.
    guard (not falls || ltb next n) 17 >>= λ _.
    ok more

unfoldable pub jumped : ℕ → Shapes → Jump → ℕ → Shape → ℕ → Answer ℕ Shapes
jumped n F j next S o = jump_effect j S >>= λ R. goes_on n F (jump_falls j) next (o ∷ []) R
