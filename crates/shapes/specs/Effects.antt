-- The effects of the groups of instructions that the check treats alike.
use Rattle.std.specs.Prelude.{ℕ, ◌+◌, ◌<◌, ◌≡◌, Bool, true, false, Option as Found, None, Some, List, ◌∷◌, ◌++◌, length, get_or}
use Rattle.std.proofs.Math.Option.{Option, none, some}
use Rattle.model.specs.Answer.{Answer, ok, ◌>>=◌, guard, at}
use Rattle.model.specs.Tables.{Ty, int32, byte_of, Method, Module, as_list}
use Rattle.model.specs.Operators.{kind, fits}
use Rattle.model.specs.State.{wrong_type, pops, pop2, room, check_number}
use Rattle.model.specs.Check.{Shape}
use Rattle.shapes.specs.Pool.{Pool, Shows}
use Rattle.shapes.specs.Kinds.{pairs}
use Rattle.shapes.specs.declared.kind.Pair.{Pair}

-- an operator of two operands whose result has the first one's type
unfoldable pub binary_effect : Pair → Shape → Answer ℕ Shape
binary_effect w S = pop2 check_number S >>= λ p. guard (pairs w (kind p.0) (kind p.1)) (check_number wrong_type) >>= λ _. ok (p.0 ∷ p.2)

unfoldable pub compare_effect : Pair → Shape → Answer ℕ Shape
compare_effect w S = pop2 check_number S >>= λ p. guard (pairs w (kind p.0) (kind p.1)) (check_number wrong_type) >>= λ _. ok (int32 ∷ p.2)

unfoldable pub when_effect : Pair → Shape → Answer ℕ Shape
when_effect w S = pop2 check_number S >>= λ p. guard (pairs w (kind p.0) (kind p.1)) (check_number wrong_type) >>= λ _. ok p.2

-- values of these types are popped, and one of the type to come, if any, is pushed
unfoldable pub called_effect : Module → Method → List Ty → Option Ty → Shape → Answer ℕ Shape
called_effect M m ts o S =
    pops check_number (fits M.parents) ts S >>= λ p.
    room check_number m (length (as_list o)) p.rest >>= λ _.
    ok (as_list o ++ p.rest)

-- the byte of a type that may be missing; the type has another byte than 0
unfoldable pub Gives : Option Ty → ℕ → Type 0
Gives none b = b ≡ 0
Gives (some t) b = (byte_of t ≡ b) × (0 < b)

abbrev pub Due : Method → ℕ → Type 0
Due m b = Gives m.returns b

-- types stand in a list from a place on
abbrev pub Types : List ℕ → ℕ → List Ty → Type 0
Types l from ts = (i : ℕ) (t : Ty) → at ts i ≡ some t → get_or l (from + i) 0 ≡ byte_of t

-- what is left, where the values fit
unfoldable pub Pops : Pool → Found ℕ → Bool → Shape → Type 0
Pops P None b S = b ≡ false
Pops P (Some rest) b S = (b ≡ true) × Shows P S rest
