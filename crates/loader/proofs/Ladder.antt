-- The tests of a record one after the other, beside the number of the first that fails; and what a test says.
use mathlib.Core.Path.{◌≡◌, refl, sym, ap, ◌∙◌, subst}
use Prim.Native.Nat.{ℕ, zero, suc, ◌+◌, ◌-◌, ◌≤◌, ◌<◌}
use mathlib.Core.Bool.{Bool, true, false, not, ◌&&◌}
use mathlib.Core.Option.{Option, none, some}
use native.Mathlib.Omega.{arith}
use lib.Dec.{leb, ltb, eqb}
use borrow.Author.Tests.{leb-true, leb-false, ltb-true, eqb-true, ne_eqb, lt-leb}
use Rattle.model.specs.Answer.{Answer, bad, ok, ◌>>=◌, guard, need, pick, only_if, is_none, map_option}
use Rattle.model.specs.Tables.{Ty, int32, int64, F, class, byte_of, type_at, Sort, sort_at, sort_byte, static, instance, virtual, constructor, initialiser}
use Rattle.model.specs.Loading.{within, parent_fits, return_at}
use Rattle.loaded.specs.Holds.{byte_at}
use Rattle.std.specs.Prelude.{Result, Ok, Err, ⊤}
use Rattle.loader.specs.declared.refusal.Refusal.{Refusal}
use Rattle.loader.specs.Refusals.{number_of}
use Rattle.loader.specs.Goes.{Goes}

-- ---- Rules

pub goes_guard : {A : Type 0} (b : Bool) (n : ℕ) (f : Unit {0} → Answer ℕ A) (k : Result ⊤ Refusal) (P : A → Type 0) (e : Refusal) → number_of e ≡ n → 2 ≤ n → n ≤ 6 → (b ≡ true → Goes (f tt) k P) → Goes (guard b n >>= f) (pick b k (Err e)) P
unfolding Goes guard ◌>>=◌ pick
goes_guard true n f k P e q lo hi h = h refl
goes_guard false n f k P e q lo hi h = (q, lo, hi)

pub goes_need : {A B : Type 0} (o : Option B) (n : ℕ) (f : B → Answer ℕ A) (k : Result ⊤ Refusal) (P : A → Type 0) (e : Refusal) → number_of e ≡ n → 2 ≤ n → n ≤ 6 → ((x : B) → o ≡ some x → Goes (f x) k P) → Goes (need o n >>= f) (pick (not (is_none o)) k (Err e)) P
unfolding Goes need ◌>>=◌ pick is_none
goes_need none n f k P e q lo hi h = (q, lo, hi)
goes_need (some x) n f k P e q lo hi h = h x refl

-- the same beside a test or a byte's rule that says it in other words
pub goes_test : {A : Type 0} (b c : Bool) (n : ℕ) (f : Unit {0} → Answer ℕ A) (k : Result ⊤ Refusal) (P : A → Type 0) (e : Refusal) → number_of e ≡ n → 2 ≤ n → n ≤ 6 → c ≡ b → (b ≡ true → Goes (f tt) k P) → Goes (guard b n >>= f) (pick c k (Err e)) P
goes_test b c n f k P e q lo hi w h = subst (λ (d : Bool). Goes (guard b n >>= f) (pick d k (Err e)) P) (sym w) (goes_guard b n f k P e q lo hi h)

pub goes_want : {A B : Type 0} (o : Option B) (c : Bool) (n : ℕ) (f : B → Answer ℕ A) (k : Result ⊤ Refusal) (P : A → Type 0) (e : Refusal) → number_of e ≡ n → 2 ≤ n → n ≤ 6 → c ≡ not (is_none o) → ((x : B) → o ≡ some x → Goes (f x) k P) → Goes (need o n >>= f) (pick c k (Err e)) P
goes_want o c n f k P e q lo hi w h = subst (λ (d : Bool). Goes (need o n >>= f) (pick d k (Err e)) P) (sym w) (goes_need o n f k P e q lo hi h)

pub goes_ok : {A : Type 0} (a : A) (P : A → Type 0) → P a → Goes (ok a) (Ok tt) P
unfolding Goes
goes_ok a P p = p

-- a refusal, whatever is asked of what is taken
pub goes_bad : {A : Type 0} (m : Answer ℕ A) (e : Refusal) (P Q : A → Type 0) → Goes m (Err e) P → Goes m (Err e) Q
unfolding Goes
goes_bad (bad n) e P Q h = h
goes_bad (ok a) e P Q h = absurd h

-- ---- Tests

pub both_true : (a b : Bool) → a && b ≡ true → (a ≡ true) × (b ≡ true)
both_true true b e = (refl, e)
both_true false b e = let z : ◌≡◌ {A = ℕ} 0 1 = cc in absurd (omega arith)

pub within_true : (low high n : ℕ) → within low high n ≡ true → (low ≤ n) × (n ≤ high)
unfolding within
within_true low high n e = let h = both_true (leb low n) (leb n high) e in (leb-true low n h.0, leb-true n high h.1)

pub parent_less : (n p : ℕ) → parent_fits n p ≡ true → p < n + 1
unfolding parent_fits pick
parent_less n p e = go (eqb n 0) e
  where
    go : (b : Bool) → pick b (eqb p 0) (within 1 n p) ≡ true → p < n + 1
    go true e = let z : p ≡ 0 = eqb-true p 0 e in omega arith
    go false e = let z = within_true 1 n p e in omega (arith, z.1)

-- ---- Bytes

-- a type's byte is the byte that declares it
pub type_byte : (n b : ℕ) (u : Ty) → type_at n b ≡ some u → byte_of u ≡ b
unfolding type_at byte_of pick only_if
type_byte n b u e = one (eqb b 1) refl (λ e. two (eqb b 2) refl (λ e. three (eqb b 3) refl (λ e. last (ltb 32 b && leb b (32 + n)) refl e) e) e) e
  where
    last : (c : Bool) → ltb 32 b && leb b (32 + n) ≡ c → only_if c (some (class (b - 32))) ≡ some u → byte_of u ≡ b
    last true t e =
        let h : 32 < b = ltb-true 32 b (both_true (ltb 32 b) (leb b (32 + n)) t).0 in
        let q : class (b - 32) ≡ u = cc in
        sym (ap byte_of q) ∙ omega arith
    last false t e = let z : ◌≡◌ {A = ℕ} 0 1 = cc in absurd (omega arith)

    three : (c : Bool) → eqb b 3 ≡ c → (only_if (ltb 32 b && leb b (32 + n)) (some (class (b - 32))) ≡ some u → byte_of u ≡ b) → pick c (some F) (only_if (ltb 32 b && leb b (32 + n)) (some (class (b - 32)))) ≡ some u → byte_of u ≡ b
    three true t h e = let q : F ≡ u = cc in sym (ap byte_of q) ∙ sym (eqb-true b 3 t)
    three false t h e = h e

    two : (c : Bool) → eqb b 2 ≡ c → (pick (eqb b 3) (some F) (only_if (ltb 32 b && leb b (32 + n)) (some (class (b - 32)))) ≡ some u → byte_of u ≡ b) → pick c (some int64) (pick (eqb b 3) (some F) (only_if (ltb 32 b && leb b (32 + n)) (some (class (b - 32))))) ≡ some u → byte_of u ≡ b
    two true t h e = let q : int64 ≡ u = cc in sym (ap byte_of q) ∙ sym (eqb-true b 2 t)
    two false t h e = h e

    one : (c : Bool) → eqb b 1 ≡ c → (pick (eqb b 2) (some int64) (pick (eqb b 3) (some F) (only_if (ltb 32 b && leb b (32 + n)) (some (class (b - 32))))) ≡ some u → byte_of u ≡ b) → pick c (some int32) (pick (eqb b 2) (some int64) (pick (eqb b 3) (some F) (only_if (ltb 32 b && leb b (32 + n)) (some (class (b - 32)))))) ≡ some u → byte_of u ≡ b
    one true t h e = let q : int32 ≡ u = cc in sym (ap byte_of q) ∙ sym (eqb-true b 1 t)
    one false t h e = h e

pub return_byte : (n b : ℕ) (u : Option Ty) → return_at n b ≡ some u → byte_at u ≡ b
unfolding return_at byte_at map_option pick
return_byte n b u e = go (eqb b 0) refl e
  where
    some_of : (o : Option Ty) → ((t : Ty) → o ≡ some t → byte_of t ≡ b) → map_option some o ≡ some u → byte_at u ≡ b
    some_of none h e = let z : ◌≡◌ {A = ℕ} 0 1 = cc in absurd (omega arith)
    some_of (some t) h e = let q : some t ≡ u = cc in sym (ap byte_at q) ∙ h t refl

    go : (c : Bool) → eqb b 0 ≡ c → pick c (some none) (map_option some (type_at n b)) ≡ some u → byte_at u ≡ b
    go true t e = let q : none ≡ u = cc in sym (ap byte_at q) ∙ sym (eqb-true b 0 t)
    go false t e = some_of (type_at n b) (λ t q. type_byte n b t q) e

-- no return type is declared by 0 alone
pub return_void : (n b : ℕ) (u : Option Ty) → return_at n b ≡ some u → is_none u ≡ eqb b 0
unfolding return_at is_none map_option pick
return_void n b u e = go (eqb b 0) (type_at n b) e
  where
    go : (c : Bool) (o : Option Ty) → pick c (some none) (map_option some o) ≡ some u → is_none u ≡ c
    go true o e = let q : none ≡ u = cc in sym (ap is_none q)
    go false none e = let z : ◌≡◌ {A = ℕ} 0 1 = cc in absurd (omega arith)
    go false (some t) e = let q : some t ≡ u = cc in sym (ap is_none q)

-- ---- Sorts

sort_none : (s : ℕ) → 4 < s → sort_at s ≡ none
unfolding sort_at pick only_if
sort_none s h =
    simp (ne_eqb s 0 (λ e. omega arith), ne_eqb s 1 (λ e. omega arith), ne_eqb s 2 (λ e. omega arith), ne_eqb s 3 (λ e. omega arith), ne_eqb s 4 (λ e. omega arith))

-- the five sorts, and no other
sort_cases : (P : ℕ → Option Sort → Type 0) → P 0 (some static) → P 1 (some instance) → P 2 (some virtual) → P 3 (some constructor) → P 4 (some initialiser) → ((s : ℕ) → 4 < s → P s none) → (s : ℕ) → P s (sort_at s)
unfolding sort_at pick only_if
sort_cases P a b c d e f zero = a
sort_cases P a b c d e f (suc zero) = b
sort_cases P a b c d e f (suc (suc zero)) = c
sort_cases P a b c d e f (suc (suc (suc zero))) = d
sort_cases P a b c d e f (suc (suc (suc (suc zero)))) = e
sort_cases P a b c d e f (suc (suc (suc (suc (suc s))))) =
    subst (P (suc (suc (suc (suc (suc s)))))) (sym (sort_none (suc (suc (suc (suc (suc s))))) (omega arith))) (f (suc (suc (suc (suc (suc s))))) (omega arith))

-- a sort's byte is the byte that declares it
pub sort_byte_lem : (s : ℕ) (k : Sort) → sort_at s ≡ some k → sort_byte k ≡ s
unfolding sort_byte
sort_byte_lem s k =
    sort_cases (λ n o. o ≡ some k → sort_byte k ≡ n)
    (λ e. let q : static ≡ k = cc in sym (ap sort_byte q))
    (λ e. let q : instance ≡ k = cc in sym (ap sort_byte q))
    (λ e. let q : virtual ≡ k = cc in sym (ap sort_byte q))
    (λ e. let q : constructor ≡ k = cc in sym (ap sort_byte q))
    (λ e. let q : initialiser ≡ k = cc in sym (ap sort_byte q))
    (λ n h e. let z : ◌≡◌ {A = ℕ} 0 1 = cc in absurd (omega arith))
    s

pub sort_test : (s : ℕ) → not (is_none (sort_at s)) ≡ leb s 4
unfolding is_none
sort_test = sort_cases (λ n o. not (is_none o) ≡ leb n 4) refl refl refl refl refl (λ n h. sym (lt-leb n 4 h))

-- ---- The same test in other words

pub leb_same : (a b c d : ℕ) → (a ≤ b → c ≤ d) → (c ≤ d → a ≤ b) → leb a b ≡ leb c d
leb_same a b c d f g = go (leb a b) refl (leb c d) refl
  where
    go : (x : Bool) → leb a b ≡ x → (y : Bool) → leb c d ≡ y → leb a b ≡ leb c d
    go true e true q = e ∙ sym q
    go true e false q = let h = f (leb-true a b e) in let k = leb-false c d q in absurd (omega arith)
    go false e true q = let h = g (leb-true c d q) in let k = leb-false a b e in absurd (omega arith)
    go false e false q = e ∙ sym q

pub none_map : {A B : Type 0} (f : A → B) (o : Option A) → is_none (map_option f o) ≡ is_none o
unfolding is_none map_option
none_map f none = refl
none_map f (some a) = refl

-- a byte above 32 is a class's type where there is that row
pub class_type : (n b : ℕ) → 32 < b → leb (b - 32) n ≡ not (is_none (only_if (leb b (32 + n)) (some (class (b - 32)))))
unfolding is_none only_if
class_type n b h = leb_same (b - 32) n b (32 + n) (λ q. omega arith) (λ q. omega arith) ∙ go (leb b (32 + n))
  where
    go : (x : Bool) → x ≡ not (is_none (only_if x (some (class (b - 32)))))
    go true = refl
    go false = refl
