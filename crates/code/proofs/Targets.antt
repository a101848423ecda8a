-- Targets by the tests that find them, over the width of the distance: twice h values.
use mathlib.Core.Path.{◌≡◌, refl, sym, ap, ◌∙◌}
use mathlib.Core.Option.{Option, none, some}
use mathlib.Core.Bool.{Bool, true, false}
use Prim.Native.Nat.{ℕ, ◌+◌, ◌-◌, ◌^◌, ◌≤◌, ◌<◌}
use native.Mathlib.Omega.{arith}
use lib.Dec.{ltb, leb}
use borrow.Author.Tests.{ltb-true, ltb-false, lt-ltb, le-ltb, le-leb, lt-leb}
use Rattle.model.specs.Answer.{pick, only_if, map_option}
use Rattle.model.specs.Code.{target, and_then}
use Rattle.std.specs.Prelude.{Option as Found, Some, None, SomeIff}
use Rattle.std.specs.Option.{unwrap_or}
use Rattle.std.specs.Bool.{then_some}
use Rattle.code.specs.Operand.{held, maybe}

pub holds : (t : ℕ) → t < 2 ^ 64 → held t ≡ t
unfolding held pick
holds t h = simp (lt-ltb t (2 ^ 64) h)

pub too_far : (t : ℕ) → 2 ^ 64 ≤ t → held t ≡ 2 ^ 64 - 1
unfolding held pick
too_far t h = simp (le-ltb t (2 ^ 64) h)

-- a distance in the lower half counts forward
on : (h next d : ℕ) → d < h → target (h + h) next d ≡ some (next + d)
unfolding target pick
on h next d l = simp (lt-ltb (d + d) (h + h) (omega arith))

-- one in the upper half counts back
back : (h next d : ℕ) → h ≤ d → h + h ≤ next + d → target (h + h) next d ≡ some ((next + d) - (h + h))
unfolding target pick only_if
back h next d l k = simp (le-ltb (d + d) (h + h) (omega arith), le-leb (h + h) (next + d) k)

off : (h next d : ℕ) → h ≤ d → next + d < h + h → target (h + h) next d ≡ none
unfolding target pick only_if
off h next d l k = simp (le-ltb (d + d) (h + h) (omega arith), lt-leb (h + h) (next + d) k)

pub forward : (h next d t : ℕ) → d < h → t ≡ held (next + d) → maybe (Some t) ≡ map_option held (target (h + h) next d)
unfolding map_option
forward h next d t l e = rw (on h next d l, e)

pub beyond : (h next d t : ℕ) → h + h ≤ d → t ≡ held (next + (d - (h + h))) → maybe (Some t) ≡ map_option held (target (h + h) next d)
unfolding map_option
beyond h next d t l e =
    let k : next + (d - (h + h)) ≡ (next + d) - (h + h) = omega arith in
    rw (back h next d (omega arith) (omega arith), e, k)

pub before : (h next d : ℕ) → h ≤ d → d < h + h → next < (h + h) - d → maybe {A = ℕ} None ≡ map_option held (target (h + h) next d)
unfolding map_option
before h next d l k m = rw (off h next d l (omega arith))

pub backward : (h next d : ℕ) → h ≤ d → d < h + h → (h + h) - d ≤ next → next < 2 ^ 64 → maybe (Some (next - ((h + h) - d))) ≡ map_option held (target (h + h) next d)
unfolding map_option
backward h next d l k m f =
    let z : (next + d) - (h + h) ≡ next - ((h + h) - d) = omega arith in
    rw (back h next d l (omega arith), z, holds (next - ((h + h) - d)) (omega arith))

-- a distance that counts back, as far as the code reaches
pub behind : (h next d : ℕ) (r : Found ℕ) → h ≤ d → d < h + h → next < 2 ^ 64 → SomeIff r ((h + h) - d ≤ next) (next - ((h + h) - d))
    → maybe r ≡ map_option held (target (h + h) next d)
behind h next d None l k m e = before h next d l k (le-lt e)
  where
    le-lt : ((h + h) - d ≤ next → ⊥) → next < (h + h) - d
    le-lt e = omega arith
behind h next d (Some t) l k m e = rw e.1 (backward h next d l k e.0 m)

-- the sum, or the largest number
pub bounded : (r : Found ℕ) (t : ℕ) → SomeIff r (t < 2 ^ 64) t → unwrap_or r (2 ^ 64 - 1) ≡ held t
bounded None t e = sym (too_far t (omega (arith, e)))
bounded (Some s) t e = e.1 ∙ sym (holds t e.0)

pub kept : (b : Bool) (r : ℕ) → maybe (then_some b r) ≡ only_if b (some r)
unfolding only_if
kept true r = refl
kept false r = refl

outside : {A : Type 0} (f : ℕ → Option A) (len o : ℕ) → 2 ^ 64 ≤ o → len < 2 ^ 64
    → only_if (ltb (held o) len) (f (held o)) ≡ only_if (ltb o len) (f o)
unfolding only_if
outside f len o l h = rw (too_far o l, le-ltb o len (omega arith), le-ltb (2 ^ 64 - 1) len (omega arith)) refl

-- a target is exact where its offset has 64 bits
pub exact : (full next d : ℕ) → next + d < 2 ^ 64 → map_option held (target full next d) ≡ target full next d
unfolding map_option target pick only_if
exact full next d h = cases (ltb (d + d) full) (leb full (next + d))
  where
    cases : (f b : Bool)
        → map_option held (pick f (some (next + d)) (only_if b (some ((next + d) - full)))) ≡ pick f (some (next + d)) (only_if b (some ((next + d) - full)))
    cases true b = ap some (holds (next + d) h)
    cases false true = ap some (holds ((next + d) - full) (omega arith))
    cases false false = refl

-- and where only targets inside a code of that many bytes count
pub inside : {A : Type 0} (f : ℕ → Option A) (len : ℕ) (t : Option ℕ) → len < 2 ^ 64
    → and_then (map_option held t) (λ o. only_if (ltb o len) (f o)) ≡ and_then t (λ o. only_if (ltb o len) (f o))
unfolding and_then map_option
inside f len none h = refl
inside {A} f len (some o) h = go (ltb o (2 ^ 64)) refl
  where
    go : (b : Bool) → ltb o (2 ^ 64) ≡ b → only_if (ltb (held o) len) (f (held o)) ≡ only_if (ltb o len) (f o)
    go true e = ap (λ (k : ℕ). only_if (ltb k len) (f k)) (holds o (ltb-true _ _ e))
    go false e = outside f len o (ltb-false _ _ e) h
