-- Branches: their targets and effects, by group.
use Prim.Native.Nat.{ℕ, zero, suc, ◌-◌, ◌^◌, ◌≤◌, ◌<◌}
use mathlib.Core.Path.{◌≡◌, refl}
use mathlib.Core.Bool.{Bool, true, false, not, ◌&&◌}
use Rattle.std.specs.Prelude.{None}
use Rattle.std.specs.Bool.{then_some}
use mathlib.Core.Option.{Option, none, some}
use mathlib.Core.List.{List, [], ◌∷◌}
use native.Mathlib.Omega.{arith}
use borrow.Author.Tests.{lt-ltb, le-ltb, ne_eqb, ltb-true, ltb-false}
use lib.Dec.{ltb, eqb}
use lib.ListN.{get_or}
use Rattle.model.specs.Answer.{ok, ◌>>=◌, guard, need, pick, only_if, map_option}
use Rattle.model.specs.Code.{Ins, when, Relation, eq, lt, and_then, target}
use Rattle.model.specs.Operators.{Kind, k32, k64, k_f, reference, kind, kind_number, same, comparison, relation_of, relates_ref}
use Rattle.model.specs.State.{pop2, wrong_type, check_number}
use Rattle.model.specs.Check.{Shape, Site, jump_effect, test_effect}
use Rattle.code.specs.Operand.{held}
use Rattle.shapes.specs.declared.kind.Pair.{Pair}
use Rattle.shapes.specs.declared.kind.Pair.TheVariants.{Alike, Numbers}
use Rattle.shapes.specs.Kinds.{pairs}
use Rattle.shapes.specs.Effects.{when_effect}
use Rattle.check_operands.specs.Groups.{jump_by, target_by}
use Rattle.visits.specs.Found.{Starts, Lands, landing}

pub target_near : (op next d : ℕ) → op < 0x38 → map_option held (target 0x100 next d) ≡ map_option held (target_by op next d)
unfolding target_by pick
target_near op next d h = rw (lt-ltb op 0x38 h)

pub target_far : (op next d : ℕ) → 0x38 ≤ op → map_option held (target 0x100000000 next d) ≡ map_option held (target_by op next d)
unfolding target_by pick
target_far op next d h = rw (le-ltb op 0x38 h)

pub jump_always : (g : ℕ) (S : Shape) → g ≡ 33 → jump_effect (jump_by g) S ≡ ok S
unfolding jump_by pick jump_effect
jump_always g S e = rw e

pub jump_test : (g : ℕ) (S : Shape) → g ≡ 34 → jump_effect (jump_by g) S ≡ test_effect S
unfolding jump_by pick jump_effect
jump_test g S e = rw e

compared : (r : Relation) (w : Pair) → ((a b : Kind) (R : Shape)
    → (need (comparison r a b) (check_number wrong_type) >>= λ _. ok R) ≡ (guard (pairs w a b) (check_number wrong_type) >>= λ _. ok R)) → (S : Shape) → jump_effect
    (when r) S ≡ when_effect w S
unfolding jump_effect when_effect pop2 ◌>>=◌
compared r w h [] = refl
compared r w h (b ∷ []) = refl
compared r w h (b ∷ a ∷ S) = h (kind a) (kind b) S

same_kinds : (a b : Kind) (R : Shape) → (need (comparison eq a b) (check_number wrong_type) >>= λ _. ok R) ≡ (guard (pairs Alike a b) (check_number wrong_type) >>= λ _. ok R)
unfolding comparison pairs pick relation_of relates_ref only_if need guard ◌>>=◌
same_kinds a b R = by a (same a b)
  where
    by : (a : Kind) (t : Bool) → (need (only_if t (relation_of eq a)) (check_number wrong_type) >>= λ _. ok R) ≡ (guard t (check_number wrong_type) >>= λ _. ok R)
    by k32 true = refl
    by k64 true = refl
    by k_f true = refl
    by reference true = refl
    by a false = refl

order_kinds : (a b : Kind) (R : Shape) → (need (comparison lt a b) (check_number wrong_type) >>= λ _. ok R) ≡ (guard (pairs Numbers a b) (check_number wrong_type) >>= λ _. ok R)
unfolding comparison pairs pick relation_of relates_ref only_if need guard ◌>>=◌ same kind_number
order_kinds a b R = by a (same a b)
  where
    by : (a : Kind) (t : Bool) → (need (only_if t (relation_of lt a)) (check_number wrong_type) >>= λ _. ok R)
        ≡ (guard (t && not (same a reference)) (check_number wrong_type) >>= λ _. ok R)
    by k32 true = refl
    by k64 true = refl
    by k_f true = refl
    by reference true = refl
    by a false = refl

pub jump_same : (g : ℕ) (S : Shape) → g ≡ 35 → jump_effect (jump_by g) S ≡ when_effect Alike S
unfolding jump_by pick
jump_same g S e = rw e (compared eq Alike same_kinds S)

pub jump_order : (g : ℕ) (S : Shape) → (g ≡ 33 → ⊥) → (g ≡ 34 → ⊥) → (g ≡ 35 → ⊥) → jump_effect (jump_by g) S ≡ when_effect Numbers S
unfolding jump_by pick
jump_order g S a b c = rw (ne_eqb g 33 a, ne_eqb g 34 b, ne_eqb g 35 c) (compared lt Numbers order_kinds S)

-- ---- Where a branch lands

held_cases : (C : ℕ → Type 0) (t : ℕ) → (t < 2 ^ 64 → C t) → (2 ^ 64 ≤ t → C (2 ^ 64 - 1)) → C (held t)
unfolding held pick
held_cases C t a b = by (ltb t (2 ^ 64)) refl
  where
    by : (u : Bool) → ltb t (2 ^ 64) ≡ u → C (pick u t (2 ^ 64 - 1))
    by true e = a (ltb-true t (2 ^ 64) e)
    by false e = b (ltb-false t (2 ^ 64) e)

-- an offset inside the code is as it stands
held_inside : (n o t : ℕ) → n ≤ 1024 → held o ≡ t → t < n → o ≡ t
held_inside n o t b e h =
    held_cases (λ (k : ℕ). k ≡ t → o ≡ t) o (λ l q. q) (λ l q. let z : 2 ^ 64 - 1 < 1024 = omega arith in absurd (omega (arith, z))) e

held_past : (n o t : ℕ) → n ≤ 1024 → held o ≡ t → n ≤ t → n ≤ o
held_past n o t b e h =
    held_cases (λ (k : ℕ). k ≡ t → n ≤ o) o (λ l q. omega arith) (λ l q. let z : n ≤ 2 ^ 64 = omega arith in omega arith) e

pub land_none : (all : List (Site Ins)) (n : ℕ) (t : Option ℕ) → none ≡ map_option held t → Lands n None (landing all n t)
unfolding Lands landing and_then map_option
land_none all n none e = refl
land_none all n (some o) e = cc

pub nonzero : (x : ℕ) → (x ≡ 0 → ⊥) → 0 < x
nonzero zero h = absurd (h refl)
nonzero (suc x) h = omega arith

pub land_past : (all : List (Site Ins)) (n : ℕ) (t : Option ℕ) (v : ℕ) → some v ≡ map_option held t → n ≤ v → n ≤ 1024 → Lands n None (landing all n t)
unfolding Lands landing and_then map_option only_if
land_past all n none v e h b = refl
land_past all n (some o) v e h b = rw (le-ltb o n (held_past n o v b (let z : held o ≡ v = cc in z) h)) refl

pub land_inside : (all : List (Site Ins)) (l : List ℕ) (n : ℕ) (t : Option ℕ) (v : ℕ) → some v ≡ map_option held t → v < n → n ≤ 1024 → Starts all n l
    → Lands n (then_some (not (eqb (get_or l v 0) 0)) v) (landing all n t)
unfolding Lands landing and_then map_option only_if
land_inside all l n none v e h b m = let z : ◌≡◌ {A = ℕ} 0 1 = cc in absurd (omega arith)
land_inside all l n (some o) v e h b m =
    let y : held o ≡ v = cc in
    let z : o ≡ v = held_inside n o v b y h in
    rw (z, lt-ltb v n h, ← m v h) (by (get_or l v 0))
  where
    by : (x : ℕ) → Lands n (then_some (not (eqb x 0)) v) (only_if (ltb 0 x) (some v))
    by zero = refl
    by (suc x) = rw (lt-ltb 0 (suc x) (omega arith), ne_eqb (suc x) 0 (λ e. omega arith)) (refl, h)
