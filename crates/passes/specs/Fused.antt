-- One pass for operands and shapes.
use Rattle.std.specs.Prelude.{ℕ, ◌+◌, ◌≤◌, ◌<◌, ◌≡◌, true, List, length, get_or, replicate, Result, Ok, Err, ⊤}
use Rattle.std.proofs.Math.Option.{none}
use Rattle.model.specs.Answer.{Answer, bad, ok, ◌>>=◌}
use Rattle.model.specs.Tables.{Method, Module}
use Rattle.model.specs.Loading.{Refusal, refusal}
use Rattle.model.specs.Code.{Ins}
use Rattle.model.specs.Check.{Shapes, Site, starts, find_operands, visits, decode_from}
use Rattle.code.specs.Insn.{size_at}
use Rattle.shapes.specs.declared.shape.Pool.{Pool}
use Rattle.shapes.specs.Pool.{Fine}
use Rattle.shapes.specs.declared.fault.FaultKind.TheVariants.{Operand}
use Rattle.shapes.specs.Faults.{number}
use Rattle.visits.specs.Found.{Starts, Kept}
use Rattle.passes.specs.declared.pass.FaultAt.{FaultAt}

-- operands from here on, then shapes from here on
unfoldable pub onward : Module → Method → List (Site Ins) → List (Site Ins) → Shapes → Answer Refusal Shapes
onward M m all l F = find_operands M m all l >>= λ k. visits M m F k

-- a fault as the model says it
abbrev pub refusal_of : FaultAt → Refusal
refusal_of x = refusal (number x.kind) x.offset

-- a method's first fault and its offset, or none
unfoldable pub Tells : Result ⊤ FaultAt → Answer Refusal Shapes → Type 0
Tells r (bad f) = (x : FaultAt) × (r ≡ Err x) × (refusal_of x ≡ f)
Tells r (ok F) = r ≡ Ok tt

-- an operand fault, or the fault that was there
unfoldable pub Late : {A : Type 0} → FaultAt → FaultAt → Answer Refusal A → Type 0
Late x was (bad f) = (refusal_of x ≡ f) × (x.kind ≡ Operand)
Late x was (ok a) = x ≡ was

-- the first n of a list are 0
pub record Cleared (n : ℕ) (l k : List ℕ) : Type 0 where
  pub size : length k ≡ length l
  pub zeros : (o : ℕ) → o < n → get_or k o 0 ≡ 0

-- the array has the length of each instruction where it starts
abbrev pub Sizes : List ℕ → List (Site Ins) → List ℕ → Type 0
Sizes code all l = (o : ℕ) → o < length code → starts all o ≡ true → (get_or l o 0 ≡ size_at code o) × (0 < get_or l o 0)

-- where decoding fails, or every start marked and every length kept
unfoldable pub Scanned : List ℕ → Result ⊤ FaultAt → List ℕ → Answer Refusal (List (Site Ins)) → Type 0
Scanned code r l (bad f) = (x : FaultAt) × (r ≡ Err x) × (refusal_of x ≡ f)
Scanned code r l (ok all) = (r ≡ Ok tt) × Starts all (length code) l × Sizes code all l

-- what is decoded from an offset on
pub record Rest (code : List ℕ) (at : ℕ) (left : List (Site Ins)) : Type 0 where
  pub fuel : ℕ
  pub enough : length code ≤ at + fuel
  pub is : decode_from fuel code at ≡ ok left

-- all is decoded from an offset on, and the array has the lengths
pub record Reading (code l : List ℕ) (at : ℕ) : Type 0 where
  pub left : List (Site Ins)
  pub rest : Rest code at left
  pub sizes : Sizes code left l

-- nothing is found yet
unfoldable pub nothing : ℕ → Shapes
nothing n = replicate n none

-- what a method that passes leaves: the shapes found
pub record Passing (A : Answer Refusal Shapes) (n : ℕ) (found : List ℕ) (P : Pool) : Type 0 where
  pub shapes : Shapes
  pub is : A ≡ ok shapes
  pub fine : Fine P
  pub kept : Kept P n shapes found
