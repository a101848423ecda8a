-- What the effects answer, by their tests.
use Prim.Native.Nat.{ℕ, zero, suc, ◌+◌, ◌-◌, ◌≤◌, ◌<◌}
use mathlib.Core.Path.{◌≡◌, refl, sym, ap, ◌∙◌}
use mathlib.Core.Bool.{Bool, true, false, ◌&&◌}
use mathlib.Core.Option.{Option, none, some}
use mathlib.Core.List.{List, [], ◌∷◌, ◌++◌, append_assoc}
use native.Mathlib.Omega.{arith}
use borrow.Author.Tests.{lt-leb, le-leb}
use lib.Dec.{leb}
use lib.ListN.{length, get_or, drop, take, length-append}
use Rattle.model.specs.Answer.{Answer, bad, ok, ◌>>=◌, guard, need, map_option, is_nil, at}
use Rattle.model.specs.Tables.{Ty, int32, class, byte_of, Field, Method, Module, as_list, due}
use Rattle.model.specs.Code.{pop, dup, ret, unary, Unary, Act}
use Rattle.model.specs.Operators.{fits, k_f, reference, kind, same, testable, Conversion, unary_of}
use Rattle.model.specs.State.{wrong_type, pops, pop1, pop2, room, fit_all, firsts, check_number}
use Rattle.model.specs.Check.{Shape, pops_one, pushes, plain_effect, test_effect, cast_effect, effect}
use Rattle.shapes.specs.Kinds.{pairs, given}
use Rattle.shapes.specs.Pool.{Pool, Shows, Agrees}
use Rattle.std.specs.Prelude.{Option as Found, None, Some, Ok}
use Rattle.shapes.specs.declared.kind.Pair.{Pair}
use Rattle.shapes.specs.Effects.{binary_effect, compare_effect, when_effect, called_effect, Gives, Pops}
use Rattle.shapes.proofs.Showing.{height}

-- ---- Loads

pub push_full : (m : Method) (u : Ty) (S : Shape) (max h : ℕ) → m.max_stack ≡ max → h ≡ length S → max ≤ h → pushes m u S ≡ bad 14
unfolding pushes room guard ◌>>=◌
push_full m u S max h e q l = rw (lt-leb (length S + 1) m.max_stack (omega arith))

pub push_room : (m : Method) (u : Ty) (S : Shape) (max h : ℕ) → m.max_stack ≡ max → h ≡ length S → h < max → pushes m u S ≡ ok (u ∷ S)
unfolding pushes room guard ◌>>=◌
push_room m u S max h e q l = rw (le-leb (length S + 1) m.max_stack (omega arith))

pub dup_is : (M : Module) (m : Method) (S R : Shape) (t : Ty) → S ≡ t ∷ R → plain_effect M m dup S ≡ pushes m t S
unfolding plain_effect pop1 ◌>>=◌
dup_is M m S R t e = rw e

pub dup_few : (M : Module) (m : Method) → plain_effect M m dup [] ≡ bad 13
unfolding plain_effect pop1 ◌>>=◌
dup_few M m = refl

pub pop_few : (M : Module) (m : Method) → plain_effect M m pop [] ≡ bad 13
unfolding plain_effect pop1 ◌>>=◌
pop_few M m = refl

pub pop_is : (M : Module) (m : Method) (S R : Shape) (t : Ty) → S ≡ t ∷ R → plain_effect M m pop S ≡ ok R
unfolding plain_effect pop1 ◌>>=◌
pop_is M m S R t e = rw e

-- ---- Stores

one_left : (n : ℕ) → leb 1 (suc n) ≡ true
one_left n = le-leb 1 (suc n) (omega arith)

pub store_few : (M : Module) (u : Ty) → pops_one M u [] ≡ bad 13
unfolding pops_one pops guard ◌>>=◌
store_few M u = refl

pub store_right : (M : Module) (u t : Ty) (S R : Shape) → S ≡ t ∷ R → true ≡ fits M.parents t u → pops_one M u S ≡ ok R
unfolding pops_one pops guard ◌>>=◌ fit_all firsts
store_right M u t S R e h = rw (e, one_left (length R), ← h)

pub store_wrong : (M : Module) (u t : Ty) (S R : Shape) → S ≡ t ∷ R → false ≡ fits M.parents t u → pops_one M u S ≡ bad 15
unfolding pops_one pops guard ◌>>=◌ fit_all firsts
store_wrong M u t S R e h = rw (e, one_left (length R), ← h)

pub one_less : (M : Module) (u : Ty) (S R : Shape) → pops_one M u S ≡ ok R → length S ≡ suc (length R)
one_less M u [] R e = let z = store_few M u in cc
one_less M u (t ∷ S) R e = by (fits M.parents t u) refl
  where
    by : (b : Bool) → fits M.parents t u ≡ b → suc (length S) ≡ suc (length R)
    by true q = let z = store_right M u t (t ∷ S) S refl (sym q) in let y : S ≡ R = cc in ap (λ (l : Shape). suc (length l)) y
    by false q = let z = store_wrong M u t (t ∷ S) S refl (sym q) in cc

pub ldfld_bad : (M : Module) (m : Method) (d : Field) (S : Shape) (k : ℕ) → pops_one M (class d.owner) S ≡ bad k → effect M m (Act.ldfld 0 d) S ≡ bad k
unfolding effect ◌>>=◌
ldfld_bad M m d S k e = rw e

pub ldfld_right : (M : Module) (m : Method) (d : Field) (S R : Shape) → pops_one M (class d.owner) S ≡ ok R → effect M m (Act.ldfld 0 d) S ≡ ok (d.type ∷ R)
unfolding effect ◌>>=◌
ldfld_right M m d S R e = rw e

pub stfld_few : (M : Module) (m : Method) (d : Field) → effect M m (Act.stfld 0 d) [] ≡ bad 13
unfolding effect ◌>>=◌ pops guard
stfld_few M m d = refl

pub stfld_few_1 : (M : Module) (m : Method) (d : Field) (t : Ty) → effect M m (Act.stfld 0 d) (t ∷ []) ≡ bad 13
unfolding effect ◌>>=◌ pops guard
stfld_few_1 M m d t = refl

two_left : (n : ℕ) → leb 2 (suc (suc n)) ≡ true
two_left n = le-leb 2 (suc (suc n)) (omega arith)

pub stfld_right : (M : Module) (m : Method) (d : Field) (t u : Ty) (S R : Shape) → S ≡ t ∷ u ∷ R
    → true ≡ fits M.parents u (class d.owner) → true ≡ fits M.parents t d.type → effect M m (Act.stfld 0 d) S ≡ ok R
unfolding effect ◌>>=◌ pops guard fit_all firsts
stfld_right M m d t u S R e a b = rw (e, two_left (length R), ← a, ← b)

pub stfld_wrong : (M : Module) (m : Method) (d : Field) (t u : Ty) (S R : Shape) → S ≡ t ∷ u ∷ R
    → false ≡ fits M.parents u (class d.owner) → effect M m (Act.stfld 0 d) S ≡ bad 15
unfolding effect ◌>>=◌ pops guard fit_all firsts
stfld_wrong M m d t u S R e a = rw (e, two_left (length R), ← a)

pub stfld_wrong_top : (M : Module) (m : Method) (d : Field) (t u : Ty) (S R : Shape) → S ≡ t ∷ u ∷ R
    → true ≡ fits M.parents u (class d.owner) → false ≡ fits M.parents t d.type → effect M m (Act.stfld 0 d) S ≡ bad 15
unfolding effect ◌>>=◌ pops guard fit_all firsts
stfld_wrong_top M m d t u S R e a b = rw (e, two_left (length R), ← a, ← b)

-- ---- Operators

pub cast_few : (c : ℕ) → cast_effect c [] ≡ bad 13
unfolding cast_effect pop1 ◌>>=◌
cast_few c = refl

pub cast_right : (c : ℕ) (t : Ty) (S R : Shape) → S ≡ t ∷ R → true ≡ same (kind t) reference → cast_effect c S ≡ ok (class c ∷ R)
unfolding cast_effect pop1 ◌>>=◌ guard
cast_right c t S R e h = rw (e, ← h) refl

pub cast_wrong : (c : ℕ) (t : Ty) (S R : Shape) → S ≡ t ∷ R → false ≡ same (kind t) reference → cast_effect c S ≡ bad 15
unfolding cast_effect pop1 ◌>>=◌ guard
cast_wrong c t S R e h = rw (e, ← h) refl

pub test_few : test_effect [] ≡ bad 13
unfolding test_effect pop1 ◌>>=◌
test_few = refl

pub test_right : (t : Ty) (S R : Shape) → S ≡ t ∷ R → false ≡ same (kind t) k_f → test_effect S ≡ ok R
unfolding test_effect pop1 ◌>>=◌ guard testable
test_right t S R e h = rw (e, ← h) refl

pub test_wrong : (t : Ty) (S R : Shape) → S ≡ t ∷ R → true ≡ same (kind t) k_f → test_effect S ≡ bad 15
unfolding test_effect pop1 ◌>>=◌ guard testable
test_wrong t S R e h = rw (e, ← h) refl

pub binary_few : (w : Pair) → binary_effect w [] ≡ bad 13
unfolding binary_effect pop2 ◌>>=◌
binary_few w = refl

pub binary_few_1 : (w : Pair) (t : Ty) → binary_effect w (t ∷ []) ≡ bad 13
unfolding binary_effect pop2 ◌>>=◌
binary_few_1 w t = refl

pub binary_right : (w : Pair) (t u : Ty) (S R : Shape) → S ≡ t ∷ u ∷ R → true ≡ pairs w (kind u) (kind t) → binary_effect w S ≡ ok (u ∷ R)
unfolding binary_effect pop2 ◌>>=◌ guard
binary_right w t u S R e h = rw (e, ← h)

pub binary_wrong : (w : Pair) (t u : Ty) (S R : Shape) → S ≡ t ∷ u ∷ R → false ≡ pairs w (kind u) (kind t) → binary_effect w S ≡ bad 15
unfolding binary_effect pop2 ◌>>=◌ guard
binary_wrong w t u S R e h = rw (e, ← h)

-- comparisons, from the operator on the same operands
pub compare_bad : (w : Pair) (S : Shape) (k : ℕ) → binary_effect w S ≡ bad k → compare_effect w S ≡ bad k
unfolding binary_effect compare_effect pop2 ◌>>=◌ guard
compare_bad w [] k e = cc
compare_bad w (t ∷ []) k e = cc
compare_bad w (t ∷ u ∷ R) k e = by (pairs w (kind u) (kind t)) e
  where
    by : (b : Bool) → (guard b (check_number wrong_type) >>= λ _. ok (u ∷ R)) ≡ bad k → (guard b (check_number wrong_type) >>= λ _. ok (int32 ∷ R)) ≡ bad k
    by true q = cc
    by false q = cc

pub when_bad : (w : Pair) (S : Shape) (k : ℕ) → binary_effect w S ≡ bad k → when_effect w S ≡ bad k
unfolding binary_effect when_effect pop2 ◌>>=◌ guard
when_bad w [] k e = cc
when_bad w (t ∷ []) k e = cc
when_bad w (t ∷ u ∷ R) k e = by (pairs w (kind u) (kind t)) e
  where
    by : (b : Bool) → (guard b (check_number wrong_type) >>= λ _. ok (u ∷ R)) ≡ bad k → (guard b (check_number wrong_type) >>= λ _. ok R) ≡ bad k
    by true q = cc
    by false q = cc

-- what an operator leaves: its first operand's type on top
pub record Paired (P : Pool) (w : Pair) (S : Shape) (n : ℕ) : Type 0 where
  pub top : Ty
  pub rest : Shape
  pub shows : Shows P (top ∷ rest) n
  pub compared : compare_effect w S ≡ ok (int32 ∷ rest)
  pub tested : when_effect w S ≡ ok rest

pub paired : (P : Pool) (w : Pair) (S : Shape) (n : ℕ) → Agrees P (Ok n) (binary_effect w S) → Paired P w S n
unfolding Agrees binary_effect compare_effect when_effect pop2 ◌>>=◌ guard
paired P w [] n h = absurd h
paired P w (t ∷ []) n h = absurd h
paired P w (t ∷ u ∷ R) n h = by (pairs w (kind u) (kind t)) refl h
  where
    by : (b : Bool) → pairs w (kind u) (kind t) ≡ b → Agrees P (Ok n) (guard b (check_number wrong_type) >>= λ _. ok (u ∷ R)) → Paired P w (t ∷ u ∷ R) n
    by true q a = record { top = u; rest = R; shows = a; compared = rw q refl; tested = rw q refl }
    by false q a = absurd a

-- ---- One operand

pub unary_few : (M : Module) (m : Method) (o : Unary) → plain_effect M m (unary o) [] ≡ bad 13
unfolding plain_effect pop1 ◌>>=◌
unary_few M m o = refl

unary_is : (M : Module) (m : Method) (o : Unary) (t : Ty) (S R : Shape) → S ≡ t ∷ R
    → plain_effect M m (unary o) S ≡ (need (unary_of o (kind t)) (check_number wrong_type) >>= λ g. ok (g.gives ∷ R))
unfolding plain_effect pop1 ◌>>=◌
unary_is M m o t S R e = rw e refl

pub unary_wrong : (M : Module) (m : Method) (o : Unary) (t : Ty) (S R : Shape) → S ≡ t ∷ R → none ≡ given (unary_of o (kind t))
    → plain_effect M m (unary o) S ≡ bad 15
unfolding given map_option need ◌>>=◌
unary_wrong M m o t S R e h = unary_is M m o t S R e ∙ by (unary_of o (kind t)) h
  where
    by : (c : Option Conversion) → none ≡ given c → (need c (check_number wrong_type) >>= λ g. ok (g.gives ∷ R)) ≡ bad 15
    by none q = refl
    by (some g) q = cc

-- an operator of one operand gives a type
pub record Given (M : Module) (m : Method) (o : Unary) (S R : Shape) (b : ℕ) : Type 0 where
  pub type : Ty
  pub is : plain_effect M m (unary o) S ≡ ok (type ∷ R)
  pub byte : byte_of type ≡ b

pub unary_right : (M : Module) (m : Method) (o : Unary) (t : Ty) (S R : Shape) (b : ℕ) → S ≡ t ∷ R → some b ≡ given (unary_of o (kind t))
    → Given M m o S R b
unfolding given map_option need ◌>>=◌
unary_right M m o t S R b e h = by (unary_of o (kind t)) refl h
  where
    by : (c : Option Conversion) → unary_of o (kind t) ≡ c → some b ≡ given c → Given M m o S R b
    by none r q = cc
    by (some g) r q = record { type = g.gives; is = unary_is M m o t S R e ∙ rw r refl; byte = (let z : b ≡ byte_of g.gives = cc in sym z) }

-- ---- What may be missing

pub gives_none : (o : Option Ty) (b : ℕ) → Gives o b → b ≡ 0 → o ≡ none
unfolding Gives
gives_none none b h e = refl
gives_none (some t) b h e = let l : 0 < b = h.1 in absurd (omega arith)

pub record Due (o : Option Ty) (b : ℕ) : Type 0 where
  pub type : Ty
  pub is : o ≡ some type
  pub byte : byte_of type ≡ b

pub gives_some : (o : Option Ty) (b : ℕ) → Gives o b → (b ≡ 0 → ⊥) → Due o b
unfolding Gives
gives_some none b h e = absurd (e h)
gives_some (some t) b h e = record { type = t; is = refl; byte = h.0 }

-- ---- ret

returned : Module → Option Ty → Shape → Answer ℕ Shape
returned M o S = pops check_number (fits M.parents) (as_list o) S >>= λ p. guard (is_nil p.rest) (check_number wrong_type) >>= λ _. ok []

returned_is : (M : Module) (m : Method) (o : Option Ty) (S : Shape) → m.returns ≡ o → plain_effect M m ret S ≡ returned M o S
unfolding plain_effect returned due
returned_is M m o S e = rw e

pub void_right : (M : Module) (m : Method) (S : Shape) → m.returns ≡ none → length S ≡ 0 → plain_effect M m ret S ≡ ok []
unfolding returned pops guard ◌>>=◌ fit_all firsts is_nil as_list
void_right M m [] e h = returned_is M m none [] e
void_right M m (t ∷ S) e h = absurd (omega arith)

pub void_wrong : (M : Module) (m : Method) (S : Shape) → m.returns ≡ none → (length S ≡ 0 → ⊥) → plain_effect M m ret S ≡ bad 15
unfolding returned pops guard ◌>>=◌ fit_all firsts is_nil as_list
void_wrong M m [] e h = absurd (h refl)
void_wrong M m (t ∷ S) e h = returned_is M m none (t ∷ S) e ∙ rw (le-leb 0 (suc (length S)) (omega arith))

pub ret_few : (M : Module) (m : Method) (u : Ty) (S : Shape) → m.returns ≡ some u → length S < 1 → plain_effect M m ret S ≡ bad 13
unfolding returned pops guard ◌>>=◌ fit_all firsts is_nil as_list
ret_few M m u [] e h = returned_is M m (some u) [] e
ret_few M m u (t ∷ S) e h = absurd (omega arith)

pub ret_wrong : (M : Module) (m : Method) (u t : Ty) (S R : Shape) → m.returns ≡ some u → S ≡ t ∷ R → false ≡ fits M.parents t u
    → plain_effect M m ret S ≡ bad 15
unfolding returned pops guard ◌>>=◌ fit_all firsts is_nil as_list
ret_wrong M m u t S R e q h = returned_is M m (some u) S e ∙ rw (q, one_left (length R), ← h)

pub ret_more : (M : Module) (m : Method) (u t : Ty) (S R : Shape) → m.returns ≡ some u → S ≡ t ∷ R → true ≡ fits M.parents t u → (length S ≡ 1 → ⊥)
    → plain_effect M m ret S ≡ bad 15
unfolding returned pops guard ◌>>=◌ fit_all firsts is_nil as_list
ret_more M m u t S [] e q h l = absurd (l (ap length q))
ret_more M m u t S (v ∷ R) e q h l = returned_is M m (some u) S e ∙ rw (q, one_left (suc (length R)), ← h)

pub ret_right : (M : Module) (m : Method) (u t : Ty) (S R : Shape) → m.returns ≡ some u → S ≡ t ∷ R → true ≡ fits M.parents t u → length S ≡ 1
    → plain_effect M m ret S ≡ ok []
unfolding returned pops guard ◌>>=◌ fit_all firsts is_nil as_list
ret_right M m u t S [] e q h l = returned_is M m (some u) S e ∙ rw (q, ← h)
ret_right M m u t S (v ∷ R) e q h l = let k : length S ≡ suc (suc (length R)) = ap length q in absurd (omega arith)

-- ---- Calls

pub call_few : (M : Module) (m : Method) (ts : List Ty) (o : Option Ty) (S : Shape) → length S < length ts → called_effect M m ts o S ≡ bad 13
unfolding called_effect pops guard ◌>>=◌
call_few M m ts o S l = rw (lt-leb (length ts) (length S) l)

pub call_wrong : (M : Module) (m : Method) (ts : List Ty) (o : Option Ty) (S : Shape) → length ts ≤ length S
    → fit_all (fits M.parents) ts (firsts (length ts) S []) ≡ false → called_effect M m ts o S ≡ bad 15
unfolding called_effect pops guard ◌>>=◌
call_wrong M m ts o S l e = rw (le-leb (length ts) (length S) l, e)

called_is : (M : Module) (m : Method) (ts : List Ty) (o : Option Ty) (S : Shape) → length ts ≤ length S
    → fit_all (fits M.parents) ts (firsts (length ts) S []) ≡ true
    → called_effect M m ts o S ≡ (room check_number m (length (as_list o)) (drop (length ts) S) >>= λ _. ok (as_list o ++ drop (length ts) S))
unfolding called_effect pops guard ◌>>=◌
called_is M m ts o S l e = rw (le-leb (length ts) (length S) l, e)

pub call_void_full : (M : Module) (m : Method) (ts : List Ty) (o : Option Ty) (S : Shape) → length ts ≤ length S
    → fit_all (fits M.parents) ts (firsts (length ts) S []) ≡ true
    → o ≡ none → m.max_stack < length (drop (length ts) S) → called_effect M m ts o S ≡ bad 14
unfolding room guard ◌>>=◌ as_list
call_void_full M m ts o S l e q h = called_is M m ts o S l e ∙ rw (q, lt-leb (length (drop (length ts) S) + 0) m.max_stack (omega arith))

pub call_void_room : (M : Module) (m : Method) (ts : List Ty) (o : Option Ty) (S : Shape) → length ts ≤ length S
    → fit_all (fits M.parents) ts (firsts (length ts) S []) ≡ true
    → o ≡ none → length (drop (length ts) S) ≤ m.max_stack → called_effect M m ts o S ≡ ok (drop (length ts) S)
unfolding room guard ◌>>=◌ as_list
call_void_room M m ts o S l e q h = called_is M m ts o S l e ∙ rw (q, le-leb (length (drop (length ts) S) + 0) m.max_stack (omega arith))

pub call_pushes : (M : Module) (m : Method) (ts : List Ty) (o : Option Ty) (u : Ty) (S : Shape) → length ts ≤ length S
    → fit_all (fits M.parents) ts (firsts (length ts) S []) ≡ true
    → o ≡ some u → called_effect M m ts o S ≡ pushes m u (drop (length ts) S)
unfolding pushes as_list
call_pushes M m ts o u S l e q = called_is M m ts o S l e ∙ rw q

-- ---- Arguments, from the top down

-- whether a value fits a type that may be missing
unfoldable pub fit_at : (Ty → Ty → Bool) → Ty → Option Ty → Bool
fit_at fit v none = false
fit_at fit v (some t) = fit v t

-- whether the first n types, the last on top, fit a stack
unfoldable pub fit_down : (Ty → Ty → Bool) → List Ty → ℕ → Shape → Bool
fit_down fit ts zero S = true
fit_down fit ts (suc n) [] = false
fit_down fit ts (suc n) (v ∷ S) = fit_at fit v (at ts n) && fit_down fit ts n S

firsts_more : (n : ℕ) (S l : Shape) → firsts n S l ≡ firsts n S [] ++ l
unfolding firsts
firsts_more zero S l = refl
firsts_more (suc n) [] l = refl
firsts_more (suc n) (v ∷ S) l =
    firsts_more n S (v ∷ l) ∙ (sym (append_assoc (firsts n S []) (v ∷ []) l) ∙ ap (λ (x : Shape). x ++ l) (sym (firsts_more n S (v ∷ []))))

firsts_length : (n : ℕ) (S : Shape) → n ≤ length S → length (firsts n S []) ≡ n
unfolding firsts
firsts_length zero S h = refl
firsts_length (suc n) [] h = absurd (omega arith)
firsts_length (suc n) (v ∷ S) h =
    ap length (firsts_more n S (v ∷ [])) ∙ (length-append (firsts n S []) (v ∷ []) ∙ let k : length (firsts n S []) ≡ n = firsts_length n S
    (omega arith) in omega arith)

and_swap : (a b : Bool) → (a && b) ≡ (b && a)
and_swap true true = refl
and_swap true false = refl
and_swap false true = refl
and_swap false false = refl

and_group : (a b c : Bool) → (a && (b && c)) ≡ ((a && b) && c)
and_group true b c = refl
and_group false b c = refl

fit_all_snoc : (fit : Ty → Ty → Bool) (n : ℕ) (ts vs : Shape) (v : Ty) → n < length ts → length vs ≡ n
    → fit_all fit (take (suc n) ts) (vs ++ (v ∷ [])) ≡ (fit_all fit (take n ts) vs && fit_at fit v (at ts n))
unfolding fit_all fit_at at
fit_all_snoc fit n [] vs v h e = absurd (omega arith)
fit_all_snoc fit zero (t ∷ ts) [] v h e = and_swap (fit v t) true
fit_all_snoc fit zero (t ∷ ts) (w ∷ vs) v h e = absurd (omega arith)
fit_all_snoc fit (suc n) (t ∷ ts) [] v h e = absurd (omega arith)
fit_all_snoc fit (suc n) (t ∷ ts) (w ∷ vs) v h e =
    rw (fit_all_snoc fit n ts vs v (omega arith) (omega arith)) (and_group (fit w t) (fit_all fit (take n ts) vs) (fit_at fit v (at ts n)))

pub down : (fit : Ty → Ty → Bool) (ts : List Ty) (n : ℕ) (S : Shape) → n ≤ length ts → n ≤ length S
    → fit_all fit (take n ts) (firsts n S []) ≡ fit_down fit ts n S
unfolding fit_down firsts fit_all
down fit ts zero S h k = refl
down fit ts (suc n) [] h k = absurd (omega arith)
down fit ts (suc n) (v ∷ S) h k =
    rw (
      firsts_more n S (v ∷ []),
      fit_all_snoc fit n ts (firsts n S []) v (omega arith) (firsts_length n S (omega arith)),
      down fit ts n S (omega arith)
          (omega arith),
    )
    (and_swap (fit_down fit ts n S) (fit_at fit v (at ts n)))

pub less_one : (h n : ℕ) → h ≡ suc (suc n) → h - 1 ≡ suc n
less_one h n e = omega arith

pub byte_1 : byte_of int32 ≡ 1
unfolding byte_of
byte_1 = refl

pub by_height : (h n k : ℕ) → h ≡ n → h < k → n < k
by_height h n k e l = omega arith

-- ---- Calls, as the code goes

-- the arguments fit, and what is left has a number
pub record Calling (P : Pool) (M : Module) (ts : List Ty) (S : Shape) (rest : ℕ) : Type 0 where
  pub enough : length ts ≤ length S
  pub fit : fit_all (fits M.parents) ts (firsts (length ts) S []) ≡ true
  pub shows : Shows P (drop (length ts) S) rest

pub calling : (P : Pool) (M : Module) (ts : List Ty) (S : Shape) (r : Found ℕ) (rest : ℕ) → length ts ≤ length S
    → Pops P r (fit_all (fits M.parents) ts (firsts (length ts) S [])) (drop (length ts) S) → r ≡ Some rest → Calling P M ts S rest
unfolding Pops
calling P M ts S None rest l p e = cc
calling P M ts S (Some x) rest l p e = let z : x ≡ rest = cc in record { enough = l; fit = p.0; shows = rw (← z) p.1 }

pub call_wrong_by : (P : Pool) (M : Module) (m : Method) (ts : List Ty) (o : Option Ty) (S : Shape) (r : Found ℕ) → length ts ≤ length S
    → Pops P r (fit_all (fits M.parents) ts (firsts (length ts) S [])) (drop (length ts) S) → r ≡ None → called_effect M m ts o S ≡ bad 15
unfolding Pops
call_wrong_by P M m ts o S None l p e = call_wrong M m ts o S l p
call_wrong_by P M m ts o S (Some x) l p e = cc

module _ (P : Pool) (M : Module) (m : Method) (ts : List Ty) (o : Option Ty) (S : Shape) (rest max : ℕ) (k : Calling P M ts S rest)
    (most : m.max_stack ≡ max) (void : o ≡ none) where
  pub call_void_full_by : max < get_or P.heights rest 0 → called_effect M m ts o S ≡ bad 14
  call_void_full_by l =
      call_void_full M m ts o S k.enough k.fit void
      (let z : get_or P.heights rest 0 ≡ length (drop (length ts) S) = height P (drop (length ts) S) rest k.shows in omega arith)

  pub call_void_room_by : get_or P.heights rest 0 ≤ max → called_effect M m ts o S ≡ ok (drop (length ts) S)
  call_void_room_by l =
      call_void_room M m ts o S k.enough k.fit void
      (let z : get_or P.heights rest 0 ≡ length (drop (length ts) S) = height P (drop (length ts) S) rest k.shows in omega arith)

pub call_pushes_by : (P : Pool) (M : Module) (m : Method) (ts : List Ty) (o : Option Ty) (u : Ty) (S : Shape) (rest : ℕ) → Calling P M ts S rest
    → o ≡ some u → called_effect M m ts o S ≡ pushes m u (drop (length ts) S)
call_pushes_by P M m ts o u S rest k q = call_pushes M m ts o u S k.enough k.fit q
