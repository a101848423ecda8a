-- A shape found has at most as many types as max stack says.
use Prim.Native.Nat.{ℕ, zero, suc, ◌+◌, ◌≤◌}
use mathlib.Core.Path.{◌≡◌, refl, ap, ◌∙◌, subst}
use mathlib.Core.Bool.{Bool}
use mathlib.Core.Option.{Option, none, some}
use mathlib.Core.List.{List, [], ◌∷◌}
use native.Mathlib.Omega.{arith}
use lib.Dec.{leb→le}
use lib.ListN.{length, get_or, set, replicate, length-append, length-drop}
use Rattle.model.specs.Answer.{Answer, ok, ◌>>=◌, or_else}
use Rattle.model.specs.Tables.{Ty, class, eq_tys, Method, Module, due}
use Rattle.model.specs.Code.{Plain, nop, pop, dup, ret, ldc, binary, unary, Jump, always, iftrue, iffalse, when, Act}
use Rattle.model.specs.Operators.{fits}
use Rattle.model.specs.State.{Popped, pops, pop1, pop2, room, check_number}
use Rattle.model.specs.Check.{Shape, Shapes, Site, pops_one, pushes, plain_effect, test_effect, jump_effect, call_effect, newobj_effect, cast_effect, effect}
use Rattle.model.specs.Check.{joined, meet, arrive, arrivals, shape_at, visit, visits, check_method}
use Rattle.model.proofs.Hoare.{Yields, yields_ok, yields_bind, yields_then, yields_need, yields_guard, yields_blame, yields_of, none_some, some_eq, only_inv}

-- ---- Effects

module _ (max : ℕ) where
  -- at most so many types
  abbrev Low : Shape → Type 0
  Low S = length S ≤ max

pops_left : (fit : Ty → Ty → Bool) (ts : List Ty) (S : Shape) → Yields (λ (p : Popped Ty). length p.rest + length ts ≤ length S) (pops check_number fit ts S)
unfolding pops
pops_left fit ts S =
    yields_guard _ _ _ _ λ few. yields_guard _ _ _ _ λ _.
    let a : length ts ≤ length S = leb→le (length ts) (length S) few in
    yields_ok _ _ _ (omega (arith, length-drop (length ts) S))

pushes_low : (m : Method) (t : Ty) (S : Shape) → Yields (Low m.max_stack) (pushes m t S)
unfolding pushes room
pushes_low m t S = yields_guard _ _ _ _ λ h. let a : length S + 1 ≤ m.max_stack = leb→le _ _ h in yields_ok _ _ _ (omega arith)

module _ (M : Module) (m : Method) where
  pops_low : (ts : List Ty) (S : Shape) → length S ≤ m.max_stack → Yields (Low m.max_stack) (pops check_number (fits M.parents) ts S >>= λ p. ok p.rest)
  pops_low ts S h = yields_bind _ _ _ _ (pops_left (fits M.parents) ts S) λ p l. yields_ok _ _ _ (omega arith)

  pop1_low : (P : Shape → Type 0) (S : Shape) (f : (t : Ty) × Shape → Answer ℕ Shape) → ((t : Ty) (R : Shape) → S ≡ t ∷ R → Yields P (f (t, R)))
      → Yields P (pop1 check_number S >>= f)
  unfolding pop1 ◌>>=◌ Yields
  pop1_low P [] f k = tt
  pop1_low P (t ∷ R) f k = k t R refl

  pop2_low : (P : Shape → Type 0) (S : Shape) (f : (a : Ty) × (b : Ty) × Shape → Answer ℕ Shape)
      → ((a b : Ty) (R : Shape) → S ≡ b ∷ a ∷ R → Yields P (f (a, b, R))) → Yields P (pop2 check_number S >>= f)
  unfolding pop2 ◌>>=◌ Yields
  pop2_low P [] f k = tt
  pop2_low P (b ∷ []) f k = tt
  pop2_low P (b ∷ a ∷ R) f k = k a b R refl

  plain_low : (p : Plain) (S : Shape) → length S ≤ m.max_stack → Yields (Low m.max_stack) (plain_effect M m p S)
  unfolding plain_effect
  plain_low nop S h = yields_ok _ _ _ h
  plain_low pop S h = pop1_low _ S _ λ t R e. let z : length S ≡ suc (length R) = ap length e in yields_ok _ _ _ (omega arith)
  plain_low dup S h = pop1_low _ S _ λ t R e. pushes_low m t S
  plain_low ret S h = yields_then _ _ _ λ p _. yields_guard _ _ _ _ λ _. yields_ok _ _ _ (omega arith)
  plain_low (ldc t n) S h = pushes_low m t S
  plain_low (binary o) S h =
      pop2_low _ S _ λ a b R e. yields_need _ _ _ _ λ g _. let z : length S ≡ suc (suc (length R)) = ap length e in yields_ok _ _ _ (omega arith)
  plain_low (unary o) S h =
      pop1_low _ S _ λ t R e. yields_need _ _ _ _ λ g _. let z : length S ≡ suc (length R) = ap length e in yields_ok _ _ _ (omega arith)

  test_low : (S : Shape) → length S ≤ m.max_stack → Yields (Low m.max_stack) (test_effect S)
  unfolding test_effect
  test_low S h = pop1_low _ S _ λ t R e. yields_guard _ _ _ _ λ _. let z : length S ≡ suc (length R) = ap length e in yields_ok _ _ _ (omega arith)

  jump_low : (j : Jump) (S : Shape) → length S ≤ m.max_stack → Yields (Low m.max_stack) (jump_effect j S)
  unfolding jump_effect
  jump_low always S h = yields_ok _ _ _ h
  jump_low iftrue S h = test_low S h
  jump_low iffalse S h = test_low S h
  jump_low (when r) S h =
      pop2_low _ S _ λ a b R e. yields_need _ _ _ _ λ _ _. let z : length S ≡ suc (suc (length R)) = ap length e in yields_ok _ _ _ (omega arith)

  -- what is pushed after a call has room
  call_low : (k : Method) (S : Shape) → Yields (Low m.max_stack) (call_effect M m k S)
  unfolding call_effect room
  call_low k S = yields_then _ _ _ λ p _. yields_guard _ _ _ _ λ h.
      let a : length p.rest + length (due k) ≤ m.max_stack = leb→le _ _ h in
      yields_ok _ _ _ (omega (arith, length-append (due k) p.rest))

  new_low : (k : Method) (S : Shape) → Yields (Low m.max_stack) (newobj_effect M m k S)
  unfolding newobj_effect room
  new_low k S = yields_then _ _ _ λ p _. yields_guard _ _ _ _ λ h. let a : length p.rest + 1 ≤ m.max_stack = leb→le _ _ h in yields_ok _ _ _ (omega arith)

  cast_low : (c : ℕ) (S : Shape) → length S ≤ m.max_stack → Yields (Low m.max_stack) (cast_effect c S)
  unfolding cast_effect
  cast_low c S h = pop1_low _ S _ λ t R e. yields_guard _ _ _ _ λ _. let z : length S ≡ suc (length R) = ap length e in yields_ok _ _ _ (omega arith)

  one_left : (t : Ty) (S : Shape) → Yields (λ R. length R + 1 ≤ length S) (pops_one M t S)
  unfolding pops_one
  one_left t S = yields_bind _ _ _ _ (pops_left (fits M.parents) (t ∷ []) S) λ p l. yields_ok _ _ _ l

  one_low : (t : Ty) (S : Shape) → length S ≤ m.max_stack → Yields (Low m.max_stack) (pops_one M t S)
  unfolding pops_one
  one_low t S h = pops_low (t ∷ []) S h

  effect_low : (a : Act) (S : Shape) → length S ≤ m.max_stack → Yields (Low m.max_stack) (effect M m a S)
  unfolding effect
  effect_low (Act.plain p) S h = plain_low p S h
  effect_low (Act.ldarg i t) S h = pushes_low m t S
  effect_low (Act.starg i t) S h = one_low t S h
  effect_low (Act.ldloc i t) S h = pushes_low m t S
  effect_low (Act.stloc i t) S h = one_low t S h
  effect_low (Act.jump j target) S h = jump_low j S h
  effect_low (Act.call r k) S h = call_low k S
  effect_low (Act.callvirt r k) S h = call_low k S
  effect_low (Act.newobj r k) S h = new_low k S
  effect_low (Act.castclass c) S h = cast_low c S h
  effect_low (Act.isinst c) S h = cast_low c S h
  effect_low (Act.ldfld r d) S h = yields_bind _ _ _ _ (one_left (class d.owner) S) λ R l. yields_ok _ _ _ (omega arith)
  effect_low (Act.stfld r d) S h = pops_low (class d.owner ∷ d.type ∷ []) S h
  effect_low (Act.ldsfld r d) S h = pushes_low m d.type S
  effect_low (Act.stsfld r d) S h = one_low d.type S h

-- ---- Shapes found

module _ (max : ℕ) where
  -- every shape found is low
  abbrev AllLow : Shapes → Type 0
  AllLow F = (o : ℕ) (S : Shape) → get_or F o none ≡ some S → length S ≤ max

  put_low : (F : Shapes) (o : ℕ) (R : Shape) → length R ≤ max → AllLow F → AllLow (set F o (some R))
  put_low [] o R h a p S e = a p S e
  put_low (x ∷ F) zero R h a zero S e = subst (λ (y : Shape). length y ≤ max) (some_eq e) h
  put_low (x ∷ F) zero R h a (suc p) S e = a (suc p) S e
  put_low (x ∷ F) (suc o) R h a zero S e = a zero S e
  put_low (x ∷ F) (suc o) R h a (suc p) S e = put_low F o R h (λ q T f. a (suc q) T f) p S e

  meet_low : (F : Shapes) (o : ℕ) (S : Shape) (R : Option Shape) → get_or F o none ≡ R → length S ≤ max → AllLow F → Yields AllLow (meet F o S R)
  unfolding meet joined
  meet_low F o S none e h a = yields_ok _ _ _ (put_low F o S h a)
  meet_low F o S (some R) e h a =
      yields_need _ _ _ _ λ J j.
      yields_ok _ _ _ (put_low F o J (a o J (e ∙ (only_inv (eq_tys S R) (some R) J j).1)) a)

  arrive_low : (F : Shapes) (S : Shape) (os : List ℕ) → length S ≤ max → AllLow F → Yields AllLow (arrive F S os)
  unfolding arrive
  arrive_low F S [] h a = yields_ok _ _ _ a
  arrive_low F S (o ∷ os) h a = yields_bind _ _ _ _ (meet_low F o S (get_or F o none) refl h a) λ G b. arrive_low G S os h b

  at_low : (F : Shapes) (o : ℕ) → AllLow F → length (shape_at F o) ≤ max
  unfolding shape_at or_else
  at_low F o a = go (get_or F o none) refl
    where
      go : (R : Option Shape) → get_or F o none ≡ R → length (or_else R []) ≤ max
      go none e = omega arith
      go (some S) e = a o S e

  none_low : (n : ℕ) → AllLow (replicate n none)
  none_low zero o S e = none_some e
  none_low (suc n) zero S e = none_some e
  none_low (suc n) (suc o) S e = none_low n o S e

module _ (M : Module) (m : Method) where
  visits_low : (F : Shapes) (l : List (Site Act)) → AllLow m.max_stack F → Yields (AllLow m.max_stack) (visits M m F l)
  unfolding visits visit
  visits_low F [] a = yields_ok _ _ _ a
  visits_low F (s ∷ l) a =
      yields_bind _ _ _ _
      (yields_blame _ _ _
      (yields_bind _ _ _ _ (effect_low M m s.what (shape_at F s.offset) (at_low m.max_stack F s.offset a)) λ S h.
      yields_bind _ _ _ _ (arrive_low m.max_stack (set F s.offset (some (shape_at F s.offset))) S (arrivals m s) h
      (put_low m.max_stack F s.offset (shape_at F s.offset) (at_low m.max_stack F s.offset a) a)) λ G b.
      yields_guard _ _ _ _ λ _. yields_ok _ _ _ b))
      λ G b. visits_low G l b

  pub found_low : (F : Shapes) → check_method M m ≡ ok F → (o : ℕ) (S : Shape) → get_or F o none ≡ some S → length S ≤ m.max_stack
  unfolding check_method
  found_low F e =
      yields_of _ _ _ e (yields_then _ _ _ λ l _. yields_then _ _ _ λ k _. visits_low (replicate (length m.code) none) k
      (none_low m.max_stack (length m.code)))
