-- Rules for answers: `Holds` for the run, `Stops` for its endings, `Yields` and the inversions for load and check.
use mathlib.Core.Path.{◌≡◌, refl, ap}
use Prim.Native.Nat.{ℕ, ◌≤◌}
use native.Mathlib.Omega.{arith}
use mathlib.Core.Bool.{Bool, true, false, not, ◌&&◌, ◌||◌}
use mathlib.Core.Option.{Option, none, some}
use mathlib.Core.List.{List, [], ◌∷◌, ◌++◌}
use lib.Dec.{T}
use Rattle.model.specs.Answer.{Answer, bad, ok, ◌>>=◌, guard, need, blame, pick, only_if, map_option, is_none}
use Rattle.model.specs.Code.{and_then}

-- an ending that is none of 41 to 46
unfoldable pub NotStuck : ℕ → Type 0
NotStuck n = n ≤ 40

-- a value with P, or an ending that is not stuck
unfoldable pub Holds : {A : Type 0} → (A → Type 0) → Answer ℕ A → Type 0
Holds P (bad n) = NotStuck n
Holds P (ok a) = P a

-- a value, if any, has P
unfoldable pub Yields : {E A : Type 0} → (A → Type 0) → Answer E A → Type 0
Yields P (bad n) = Unit {0}
Yields P (ok a) = P a

-- ---- Clashes

pub bad_ok : {X : Type 0} {E A : Type 0} {n : E} {a : A} → bad n ≡ ok a → X
bad_ok e = let z : ◌≡◌ {A = ℕ} 0 1 = cc in absurd (omega arith)

pub none_some : {X : Type 0} {A : Type 0} {a : A} → none ≡ some a → X
none_some e = let z : ◌≡◌ {A = ℕ} 0 1 = cc in absurd (omega arith)

pub ok_eq : {E A : Type 0} {a b : A} → ◌≡◌ {A = Answer E A} (ok a) (ok b) → a ≡ b
ok_eq e = cc

pub some_eq : {A : Type 0} {a b : A} → some a ≡ some b → a ≡ b
some_eq e = cc

-- ---- Tests

pub and_l : (a b : Bool) → T (a && b) → T a
and_l true b t = tt
and_l false b t = t

pub and_r : (a b : Bool) → T (a && b) → T b
and_r true b t = t
and_r false b t = absurd t

pub and_i : (a b : Bool) → T a → T b → T (a && b)
and_i true b s t = t
and_i false b s t = s

pub or_l : (a b : Bool) → T a → T (a || b)
or_l true b t = tt
or_l false b t = absurd t

pub or_r : (a b : Bool) → T b → T (a || b)
or_r true b t = tt
or_r false b t = t

pub or_e : {X : Type 0} (a b : Bool) → T (a || b) → (T a → X) → (T b → X) → X
or_e true b t f g = f tt
or_e false b t f g = g t

pub by_test : {X : Type 0} (b : Bool) → (T b → X) → (T (not b) → X) → X
by_test true f g = f tt
by_test false f g = g tt

pub implies : (a b : Bool) → T (not a || b) → T a → T b
implies true b u t = u
implies false b u t = absurd t

-- ---- The run

pub holds_bind : {A B : Type 0} (Q : A → Type 0) (P : B → Type 0) (m : Answer ℕ A) (f : A → Answer ℕ B)
    → Holds Q m → ((a : A) → Q a → Holds P (f a)) → Holds P (m >>= f)
unfolding Holds ◌>>=◌
holds_bind Q P (bad n) f h k = h
holds_bind Q P (ok a) f h k = k a h

pub holds_ok : {A : Type 0} (P : A → Type 0) (a : A) → P a → Holds P (ok a)
unfolding Holds
holds_ok P a h = h

pub holds_bad : {A : Type 0} (P : A → Type 0) (n : ℕ) → n ≤ 40 → Holds P (bad n)
unfolding Holds NotStuck
holds_bad P n h = h

pub holds_need : {A B : Type 0} (P : B → Type 0) (o : Option A) (n : ℕ) (f : A → Answer ℕ B) (a : A) → o ≡ some a → Holds P (f a) → Holds P (need o n >>= f)
unfolding ◌>>=◌ need
holds_need P o n f a e h = rw e h

-- what may be missing, with an ending that is not stuck
pub holds_seek : {A B : Type 0} (P : B → Type 0) (o : Option A) (n : ℕ) (f : A → Answer ℕ B) → n ≤ 40 → ((a : A) → o ≡ some a → Holds P (f a))
    → Holds P (need o n >>= f)
unfolding ◌>>=◌ need Holds NotStuck
holds_seek P none n f t h = t
holds_seek P (some a) n f t h = h a refl

pub holds_guard : {B : Type 0} (P : B → Type 0) (b : Bool) (n : ℕ) (f : Unit {0} → Answer ℕ B) → T b → Holds P (f tt) → Holds P (guard b n >>= f)
unfolding ◌>>=◌ guard
holds_guard P true n f t h = h
holds_guard P false n f t h = absurd t

-- a test with an ending that is not stuck
pub holds_test : {B : Type 0} (P : B → Type 0) (b : Bool) (n : ℕ) (f : Unit {0} → Answer ℕ B) → n ≤ 40 → (T b → Holds P (f tt)) → Holds P (guard b n >>= f)
unfolding ◌>>=◌ guard Holds NotStuck
holds_test P true n f t h = h tt
holds_test P false n f t h = t

-- ---- Endings

-- a number, if any, passes a test
unfoldable pub Stops : {A : Type 0} → (ℕ → Bool) → Answer ℕ A → Type 0
Stops p (bad n) = T (p n)
Stops p (ok a) = Unit {0}

pub stops_ok : {A : Type 0} (p : ℕ → Bool) (a : A) → Stops p (ok a)
unfolding Stops
stops_ok p a = tt

pub stops_bad : (A : Type 0) (p : ℕ → Bool) (n : ℕ) → T (p n) → Stops {A = A} p (bad n)
unfolding Stops
stops_bad A p n t = t

pub stops_bind : {A B : Type 0} (p : ℕ → Bool) (m : Answer ℕ A) (f : A → Answer ℕ B) → Stops p m → ((a : A) → Stops p (f a)) → Stops p (m >>= f)
unfolding Stops ◌>>=◌
stops_bind p (bad n) f h k = h
stops_bind p (ok a) f h k = k a

pub stops_guard : {B : Type 0} (p : ℕ → Bool) (b : Bool) (n : ℕ) (f : Unit {0} → Answer ℕ B) → T (p n) → Stops p (f tt) → Stops p (guard b n >>= f)
unfolding Stops ◌>>=◌ guard
stops_guard p true n f t h = h
stops_guard p false n f t h = t

pub stops_need : {A B : Type 0} (p : ℕ → Bool) (o : Option A) (n : ℕ) (f : A → Answer ℕ B) → T (p n) → ((a : A) → o ≡ some a → Stops p (f a))
    → Stops p (need o n >>= f)
unfolding Stops ◌>>=◌ need
stops_need p none n f t h = t
stops_need p (some a) n f t h = h a refl

pub stops_pick : {A : Type 0} (p : ℕ → Bool) (b : Bool) (m k : Answer ℕ A) → Stops p m → Stops p k → Stops p (pick b m k)
unfolding pick
stops_pick p true m k h g = h
stops_pick p false m k h g = g

pub stops_widen : {A : Type 0} (p q : ℕ → Bool) → ((n : ℕ) → T (p n) → T (q n)) → (m : Answer ℕ A) → Stops p m → Stops q m
unfolding Stops
stops_widen p q f (bad n) h = f n h
stops_widen p q f (ok a) h = tt

-- ---- Load and check

pub yields_ok : {A : Type 0} (E : Type 0) (P : A → Type 0) (a : A) → P a → Yields {E = E} P (ok a)
unfolding Yields
yields_ok E P a h = h

pub yields_bind : {E A B : Type 0} (Q : A → Type 0) (P : B → Type 0) (m : Answer E A) (f : A → Answer E B)
    → Yields Q m → ((a : A) → Q a → Yields P (f a)) → Yields P (m >>= f)
unfolding Yields ◌>>=◌
yields_bind Q P (bad n) f h k = tt
yields_bind Q P (ok a) f h k = k a h

pub yields_then : {E A B : Type 0} (P : B → Type 0) (m : Answer E A) (f : A → Answer E B) → ((a : A) → m ≡ ok a → Yields P (f a)) → Yields P (m >>= f)
unfolding Yields ◌>>=◌
yields_then P (bad n) f k = tt
yields_then P (ok a) f k = k a refl

pub yields_from : {E A : Type 0} (P : A → Type 0) (m : Answer E A) → ((a : A) → m ≡ ok a → P a) → Yields P m
unfolding Yields
yields_from P (bad n) k = tt
yields_from P (ok a) k = k a refl

pub yields_need : {E A B : Type 0} (P : B → Type 0) (o : Option A) (n : E) (f : A → Answer E B) → ((a : A) → o ≡ some a → Yields P (f a))
    → Yields P (need o n >>= f)
unfolding Yields ◌>>=◌ need
yields_need P none n f k = tt
yields_need P (some a) n f k = k a refl

pub yields_guard : {E B : Type 0} (P : B → Type 0) (b : Bool) (n : E) (f : Unit {0} → Answer E B) → (T b → Yields P (f tt)) → Yields P (guard b n >>= f)
unfolding Yields ◌>>=◌ guard
yields_guard P true n f k = k tt
yields_guard P false n f k = tt

pub yields_map : {E A : Type 0} (Q P : A → Type 0) (m : Answer E A) → Yields Q m → ((a : A) → Q a → P a) → Yields P m
unfolding Yields
yields_map Q P (bad n) h k = tt
yields_map Q P (ok a) h k = k a h

pub yields_blame : {E D A : Type 0} (P : A → Type 0) (f : E → D) (m : Answer E A) → Yields P m → Yields P (blame f m)
unfolding Yields blame
yields_blame P f (bad n) h = tt
yields_blame P f (ok a) h = h

pub yields_pick : {E A : Type 0} (P : A → Type 0) (b : Bool) (m k : Answer E A) → (T b → Yields P m) → (T (not b) → Yields P k) → Yields P (pick b m k)
unfolding pick
yields_pick P true m k f g = f tt
yields_pick P false m k f g = g tt

pub yields_of : {E A : Type 0} (P : A → Type 0) (m : Answer E A) (a : A) → m ≡ ok a → Yields P m → P a
unfolding Yields
yields_of P m a e y = rw e at y

pub bind_inv : {E A B : Type 0} (m : Answer E A) (f : A → Answer E B) (b : B) → (m >>= f) ≡ ok b → (a : A) × (m ≡ ok a) × (f a ≡ ok b)
unfolding ◌>>=◌
bind_inv (bad n) f b e = bad_ok e
bind_inv (ok a) f b e = (a, refl, e)

pub need_inv : {E A B : Type 0} (o : Option A) (n : E) (f : A → Answer E B) (b : B) → (need o n >>= f) ≡ ok b → (a : A) × (o ≡ some a) × (f a ≡ ok b)
unfolding ◌>>=◌ need
need_inv none n f b e = bad_ok e
need_inv (some a) n f b e = (a, refl, e)

pub guard_inv : {E B : Type 0} (t : Bool) (n : E) (f : Unit {0} → Answer E B) (b : B) → (guard t n >>= f) ≡ ok b → T t × (f tt ≡ ok b)
unfolding ◌>>=◌ guard
guard_inv false n f b e = bad_ok e
guard_inv true n f b e = (tt, e)

pub blame_inv : {E D A : Type 0} (f : E → D) (m : Answer E A) (a : A) → blame f m ≡ ok a → m ≡ ok a
unfolding blame
blame_inv f (bad n) a e = bad_ok e
blame_inv f (ok x) a e = let q : x ≡ a = cc in ap ok q

-- ---- What may be missing

pub only_inv : {A : Type 0} (b : Bool) (o : Option A) (a : A) → only_if b o ≡ some a → T b × (o ≡ some a)
unfolding only_if
only_inv true o a e = (tt, e)
only_inv false o a e = none_some e

pub then_inv : {A B : Type 0} (o : Option A) (f : A → Option B) (b : B) → and_then o f ≡ some b → (a : A) × (o ≡ some a) × (f a ≡ some b)
unfolding and_then
then_inv none f b e = none_some e
then_inv (some a) f b e = (a, refl, e)

pub map_inv : {A B : Type 0} (f : A → B) (o : Option A) (b : B) → map_option f o ≡ some b → (a : A) × (o ≡ some a) × (f a ≡ b)
unfolding map_option
map_inv f none b e = none_some e
map_inv f (some a) b e = (a, refl, some_eq e)

pub pick_inv : {X : Type 0} {A : Type 0} (b : Bool) (x y : Option A) (a : A) → pick b x y ≡ some a → (T b → x ≡ some a → X) → (T (not b) → y ≡ some a → X) → X
unfolding pick
pick_inv true x y a e f g = f tt e
pick_inv false x y a e f g = g tt e

pub pick_either : {A : Type 0} (P : A → Type 0) (b : Bool) (x y : A) → (T b → P x) → (T (not b) → P y) → P (pick b x y)
unfolding pick
pick_either P true x y f g = f tt
pick_either P false x y f g = g tt

pub pick_no : {A : Type 0} (b : Bool) (x y : A) → T (not b) → pick b x y ≡ y
unfolding pick
pick_no true x y t = absurd t
pick_no false x y t = refl

pub pick_yes : {A : Type 0} (b : Bool) (x y : A) → T b → pick b x y ≡ x
unfolding pick
pick_yes true x y t = refl
pick_yes false x y t = absurd t

pub is_none_lem : {A : Type 0} (o : Option A) → T (is_none o) → o ≡ none
unfolding is_none
is_none_lem none t = refl
is_none_lem (some a) t = absurd t

-- ---- Every element of a list

pub data All {A : Type 0} (P : A → Type 0) : List A → Type 0 where
  anil : All P []
  acons : {a : A} {l : List A} → P a → All P l → All P (a ∷ l)

pub all_map : {A : Type 0} (P Q : A → Type 0) → ((a : A) → P a → Q a) → {l : List A} → All P l → All Q l
all_map P Q f anil = anil
all_map P Q f (acons p ps) = acons (f _ p) (all_map P Q f ps)

pub all_snoc : {A : Type 0} (P : A → Type 0) {l : List A} → All P l → (a : A) → P a → All P (l ++ (a ∷ []))
all_snoc P anil a q = acons q anil
all_snoc P (acons p ps) a q = acons p (all_snoc P ps a q)
