-- What an answer of the code says, by how it was made.
use Prim.Native.Nat.{ℕ, suc, ◌%◌, ◌≤◌, ◌<◌}
use mathlib.Core.Path.{◌≡◌, refl, sym, subst}
use mathlib.Core.List.{[], ◌∷◌}
use native.Mathlib.Omega.{arith}
use lib.ListN.{length, get_or}
use Rattle.model.specs.Answer.{Answer, bad, ok}
use Rattle.model.specs.Tables.{Ty, byte_of}
use Rattle.model.specs.Check.{Shape}
use Rattle.std.specs.Prelude.{Result, Ok, Err}
use Rattle.shapes.specs.declared.fault.FaultKind.{FaultKind}
use Rattle.shapes.specs.Faults.{number}
use Rattle.shapes.specs.Pool.{Pool, Shows, Fine, Grown, Agrees, grown}
use Rattle.shapes.proofs.Showing.{height, under, top_byte, same_grown, put_grown, put_shows}

-- a fault
pub refuses : (P : Pool) (e : FaultKind) (A : Answer ℕ Shape) → A ≡ bad (number e) → 12 < number e → Fine P → Agrees P (Err e) A × Grown P P
unfolding Agrees
refuses P e A q l f = rw q ((refl, l), same_grown P f)

-- a shape that stands already
pub leaves : (P : Pool) (n : ℕ) (S : Shape) (A : Answer ℕ Shape) → A ≡ ok S → Shows P S n → Fine P → Agrees P (Ok n) A × Grown P P
unfolding Agrees
leaves P n S A q w f = rw q (w, same_grown P f)

-- a new shape
pub brings : (P Q : Pool) (r : ℕ) (u : Ty) (S : Shape) (A : Answer ℕ Shape) (s t h : ℕ) → A ≡ ok (u ∷ S) → P.made < 2048 → r ≡ P.made → Q ≡ grown P s t h
    → byte_of u ≡ t → h ≡ suc (length S) → Shows P S s → Fine P → Agrees Q (Ok r) A × Grown P Q
unfolding Agrees
brings P Q r u S A s t h q l m g e y w f = rw (g, q, m) (put_shows P s t h l f u S e y w, put_grown P s t h l f)

-- a fault of a step before
pub passes_on : (P : Pool) (e : FaultKind) (r : Result ℕ FaultKind) (A B : Answer ℕ Shape) → r ≡ Err e → Agrees P (Err e) A × Grown P P
    → ((k : ℕ) → A ≡ bad k → B ≡ bad k) → Agrees P r B × Grown P P
unfolding Agrees
passes_on P e r (bad k) B q h f = rw (q, f k refl) h
passes_on P e r (ok S) B q h f = absurd h.0

-- the shape that a number stands for
pub record Taken (P : Pool) (n : ℕ) (A : Answer ℕ Shape) : Type 0 where
  pub shape : Shape
  pub is : A ≡ ok shape
  pub shows : Shows P shape n

pub taken : (P : Pool) (n : ℕ) (A : Answer ℕ Shape) → Agrees P (Ok n) A → Taken P n A
unfolding Agrees
taken P n (bad k) h = absurd h
taken P n (ok S) h = record { shape = S; is = refl; shows = h }

-- ---- By height

module _ (P : Pool) (C : Shape → Type 0) (s : ℕ) where
  -- nothing there
  pub none_there : get_or P.heights s 0 < 1 → C [] → (S : Shape) → Shows P S s → C S
  none_there l x [] w = x
  none_there l x (t ∷ S) w = let h : get_or P.heights s 0 ≡ suc (length S) = height P (t ∷ S) s w in absurd (omega arith)

  -- one at most
  pub one_at_most : get_or P.heights s 0 < 2 → C [] → ((t : Ty) → C (t ∷ [])) → (S : Shape) → Shows P S s → C S
  one_at_most l x y [] w = x
  one_at_most l x y (t ∷ []) w = y t
  one_at_most l x y (t ∷ u ∷ S) w = let h : get_or P.heights s 0 ≡ suc (suc (length S)) = height P (t ∷ u ∷ S) s w in absurd (omega arith)

  -- one at least: its byte, and what is below it as the code reads that
  pub one_there : Fine P → 1 ≤ get_or P.heights s 0
      → ((t : Ty) (S : Shape) → byte_of t ≡ get_or P.tops s 0 → get_or P.heights s 0 ≡ suc (length S)
      → ((b : ℕ) → b ≡ get_or P.belows s 0 % 2048 → Shows P S b) → C (t ∷ S))
      → (S : Shape) → Shows P S s → C S
  one_there f l y [] w = let h : get_or P.heights s 0 ≡ 0 = height P [] s w in absurd (omega arith)
  one_there f l y (t ∷ S) w = y t S (top_byte P t S s w) (height P (t ∷ S) s w) (λ b e. under P t S s b f w e)

  -- two at least
  pub two_there : Fine P → 2 ≤ get_or P.heights s 0
      → ((t u : Ty) (S : Shape) → byte_of t ≡ get_or P.tops s 0 → get_or P.heights s 0 ≡ suc (suc (length S))
      → ((b : ℕ) → b ≡ get_or P.belows s 0 % 2048 → Shows P (u ∷ S) b)
      → ((b : ℕ) → b ≡ get_or P.belows s 0 % 2048 → byte_of u ≡ get_or P.tops b 0)
      → ((b d : ℕ) → b ≡ get_or P.belows s 0 % 2048 → d ≡ get_or P.belows b 0 % 2048 → Shows P S d)
      → C (t ∷ u ∷ S))
      → (S : Shape) → Shows P S s → C S
  two_there f l y [] w = let h : get_or P.heights s 0 ≡ 0 = height P [] s w in absurd (omega arith)
  two_there f l y (t ∷ []) w = let h : get_or P.heights s 0 ≡ 1 = height P (t ∷ []) s w in absurd (omega arith)
  two_there f l y (t ∷ u ∷ S) w =
      y t u S (top_byte P t (u ∷ S) s w) (height P (t ∷ u ∷ S) s w)
      (λ b e. under P t (u ∷ S) s b f w e)
      (λ b e. top_byte P u S b (under P t (u ∷ S) s b f w e))
      (λ b d e g. under P u S b d f (under P t (u ∷ S) s b f w e) g)

-- ---- A shape taken apart

pub record One (P : Pool) (S : Shape) (s : ℕ) : Type 0 where
  pub top : Ty
  pub rest : Shape
  pub is : S ≡ top ∷ rest
  pub byte : byte_of top ≡ get_or P.tops s 0
  pub height : get_or P.heights s 0 ≡ suc (length rest)
  pub below : (b : ℕ) → b ≡ get_or P.belows s 0 % 2048 → Shows P rest b

pub one : (P : Pool) (S : Shape) (s : ℕ) → Fine P → 1 ≤ get_or P.heights s 0 → Shows P S s → One P S s
one P S s f l w = one_there P (λ R. One P R s) s f l (λ t R b h u. record { top = t; rest = R; is = refl; byte = b; height = h; below = u }) S w

pub record Two (P : Pool) (S : Shape) (s : ℕ) : Type 0 where
  pub top : Ty
  pub next : Ty
  pub rest : Shape
  pub is : S ≡ top ∷ next ∷ rest
  pub byte : byte_of top ≡ get_or P.tops s 0
  pub height : get_or P.heights s 0 ≡ suc (suc (length rest))
  pub below : (b : ℕ) → b ≡ get_or P.belows s 0 % 2048 → Shows P (next ∷ rest) b
  pub next_byte : (b : ℕ) → b ≡ get_or P.belows s 0 % 2048 → byte_of next ≡ get_or P.tops b 0
  pub deep : (b d : ℕ) → b ≡ get_or P.belows s 0 % 2048 → d ≡ get_or P.belows b 0 % 2048 → Shows P rest d

pub two : (P : Pool) (S : Shape) (s : ℕ) → Fine P → 2 ≤ get_or P.heights s 0 → Shows P S s → Two P S s
two P S s f l w =
    two_there P (λ R. Two P R s) s f l
    (λ t u R b h x y z. record { top = t; next = u; rest = R; is = refl; byte = b; height = h; below = x; next_byte = y; deep = z }) S w

-- too few
pub few_1 : (P : Pool) (f : Shape → Answer ℕ Shape) (s k : ℕ) → f [] ≡ bad k → get_or P.heights s 0 < 1 → (S : Shape) → Shows P S s → f S ≡ bad k
few_1 P f s k e l S w = none_there P (λ R. f R ≡ bad k) s l e S w

pub few_2 : (P : Pool) (f : Shape → Answer ℕ Shape) (s k : ℕ) → f [] ≡ bad k → ((t : Ty) → f (t ∷ []) ≡ bad k) → get_or P.heights s 0 < 2 → (S : Shape)
    → Shows P S s → f S ≡ bad k
few_2 P f s k e g l S w = one_at_most P (λ R. f R ≡ bad k) s l e g S w

-- an equal answer
pub told : (P Q : Pool) (r : Result ℕ FaultKind) (A B : Answer ℕ Shape) → A ≡ B → Agrees Q r B × Grown P Q → Agrees Q r A × Grown P Q
told P Q r A B e h = subst (λ (X : Answer ℕ Shape). Agrees Q r X × Grown P Q) (sym e) h
