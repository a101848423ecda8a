-- Shapes by number: what the arrays of the check hold, and what an instruction's answer says.
use Rattle.std.specs.Prelude.{ℕ, suc, ◌+◌, ◌≤◌, ◌<◌, ◌≡◌, List, [], ◌∷◌, length, get_or, set, Result, Ok, Err, IfOk}
use Rattle.std.proofs.Math.Option.{Option, none, some}
use Rattle.model.specs.Answer.{Answer, bad, ok}
use Rattle.model.specs.Tables.{Ty, byte_of}
use Rattle.model.specs.Check.{Shape}
pub use Rattle.shapes.specs.declared.shape.Pool.{Pool}
use Rattle.shapes.specs.declared.fault.FaultKind.{FaultKind}
use Rattle.shapes.specs.Faults.{number}

abbrev pub pool : List ℕ → List ℕ → List ℕ → ℕ → Pool
pool t b h n = record { tops = t; belows = b; heights = h; made = n }

-- one more shape: a shape, the byte of a type on top of it, and its height
abbrev pub grown : Pool → ℕ → ℕ → ℕ → Pool
grown P s t h = pool (set P.tops P.made t) (set P.belows P.made s) (set P.heights P.made h) (P.made + 1)

-- a number that stands for a type on top of a shape of a length
pub record Top (P : Pool) (t : Ty) (n : ℕ) (size : ℕ) : Type 0 where
  pub after : 1 < n
  pub used : n < P.made
  pub type : get_or P.tops n 0 ≡ byte_of t
  pub height : get_or P.heights n 0 ≡ suc size

-- a number stands for a shape: 1 for the empty one
unfoldable pub Shows : Pool → Shape → ℕ → Type 0
Shows P [] n = (n ≡ 1) × (get_or P.heights n 0 ≡ 0)
Shows P (t ∷ S) n = Top P t n (length S) × Shows P S (get_or P.belows n 0)

-- the arrays have their lengths, and the empty shape is there
pub record Fine (P : Pool) : Type 0 where
  pub tops : length P.tops ≡ 2048
  pub belows : length P.belows ≡ 2048
  pub heights : length P.heights ≡ 2048
  pub some : 1 < P.made
  pub few : P.made ≤ 2048
  pub empty : get_or P.heights 1 0 ≡ 0

-- what was made before stands as it was
pub record Grown (P Q : Pool) : Type 0 where
  pub fine : Fine Q
  pub more : P.made ≤ Q.made
  pub tops : (n : ℕ) → n < P.made → get_or Q.tops n 0 ≡ get_or P.tops n 0
  pub belows : (n : ℕ) → n < P.made → get_or Q.belows n 0 ≡ get_or P.belows n 0
  pub heights : (n : ℕ) → n < P.made → get_or Q.heights n 0 ≡ get_or P.heights n 0

-- an answer is a fault from 13 to 17 or a shape
unfoldable pub Agrees : Pool → Result ℕ FaultKind → Answer ℕ Shape → Type 0
Agrees P (Err e) (bad k) = (number e ≡ k) × (12 < k)
Agrees P (Err e) (ok S) = ⊥
Agrees P (Ok s) (bad k) = ⊥
Agrees P (Ok s) (ok S) = Shows P S s

-- 12 where an operand is missing
unfoldable pub Takes : {A : Type 0} → Pool → Result ℕ FaultKind → (A → Answer ℕ Shape) → Option A → Type 0
Takes P r f none = r ≡ Err FaultKind.Operand
Takes P r f (some a) = Agrees P r (f a)

-- the ranges of an answer
pub record Small (P Q : Pool) (r : Result ℕ FaultKind) : Type 0 where
  pub shape : IfOk r (λ s. s < 2048)
  pub few : Q.made ≤ P.made + 1

-- what an instruction does to every shape that a number stands for
abbrev pub Effect : Pool → Pool → Result ℕ FaultKind → ℕ → (Shape → Answer ℕ Shape) → Type 0
Effect P Q r s f = Fine P → (S : Shape) → Shows P S s → Agrees Q r (f S) × Grown P Q

-- the same for one with an operand
abbrev pub Operand : {A : Type 0} → Pool → Pool → Result ℕ FaultKind → ℕ → (A → Shape → Answer ℕ Shape) → Option A → Type 0
Operand P Q r s f o = Fine P → (S : Shape) → Shows P S s → Takes Q r (λ a. f a S) o × Grown P Q
