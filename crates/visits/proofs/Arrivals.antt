-- Shapes found, by offset.
use Prim.Native.Nat.{ℕ, ◌%◌, ◌≤◌, ◌<◌}
use mathlib.Core.Path.{◌≡◌, refl, sym, ap, ◌∙◌, subst}
use mathlib.Core.Bool.{Bool, true, false, not}
use Rattle.std.specs.Prelude.{Option as Found, None, Some, Result, Ok, Err, ⊤}
use Rattle.std.specs.Bool.{then_some}
use mathlib.Core.Option.{Option, none, some}
use mathlib.Core.List.{List, [], ◌∷◌}
use native.Mathlib.Omega.{arith}
use borrow.Author.Tests.{lt-ltb, le-ltb, ne_eqb, eqb-true, eqb-false}
use lib.Dec.{eqb}
use lib.ListN.{length, get_or, set, length-set}
use lib.Seq.{get_or-set_same, get_or-set_other}
use Rattle.model.specs.Answer.{Answer, bad, ok, ◌>>=◌, guard, need, pick, keep_if, only_if, or_else}
use Rattle.model.specs.Code.{Jump, iftrue, when, eq, lt}
use Rattle.shapes.specs.declared.fault.FaultKind.{FaultKind}
use Rattle.shapes.specs.declared.fault.FaultKind.TheVariants.{Operand, OtherShape, FallsPast}
use Rattle.check_operands.specs.Groups.{jump_by}
use Rattle.model.specs.Tables.{eq_tys}
use Rattle.model.specs.Check.{Shape, Shapes, joined, meet, arrive, shape_at, jump_falls, jump_effect}
use Rattle.shapes.specs.declared.shape.Pool.{Pool}
use Rattle.shapes.specs.Pool.{Shows, Fine, Grown, Agrees}
use Rattle.visits.specs.Found.{Stands, Kept, Read, Met, Went, WentBy, goes_on, jumped, Lands}
use Rattle.shapes.proofs.Showing.{used, not_none, later, empty_shows}

-- by offset: the one that is set, or another
by_offset : (C : ℕ → Type 0) (o k : ℕ) → (k ≡ o → C k) → ((k ≡ o → ⊥) → C k) → C k
by_offset C o k a b = go (eqb k o) refl
  where
    go : (t : Bool) → eqb k o ≡ t → C k
    go true e = a (eqb-true k o e)
    go false e = b (eqb-false k o e)

stands_set : (P : Pool) (n : ℕ) (F : Shapes) (l : List ℕ) (o v : ℕ) (S : Shape) → Kept P n F l → o < n → n ≤ 1024 → Shows P S v
    → Kept P n (set F o (some S)) (set l o v)
unfolding Stands
stands_set P n F l o v S k h b w =
    let f : o < length F = rw k.size h in
    let g : o < length l = rw k.array (omega arith) in
    record {
      size = length-set F o (some S) ∙ k.size;
      array = length-set l o v ∙ k.array;
      at = λ i i<n. by_offset (λ (j : ℕ). Stands P (get_or (set l o v) j 0) (get_or (set F o (some S)) j none)) o i
          (λ e. rw (e, get_or-set_same l o v 0 g, get_or-set_same F o (some S) none f) w)
          (λ e. rw (get_or-set_other l o i v 0 e, get_or-set_other F o i (some S) none e) (k.at i i<n));
    }

-- the same shape set again
stands_again : (P : Pool) (n : ℕ) (F : Shapes) (l : List ℕ) (o : ℕ) (S : Shape) → Kept P n F l → o < n → get_or F o none ≡ some S
    → Kept P n (set F o (some S)) l
unfolding Stands
stands_again P n F l o S k h e =
    let f : o < length F = rw k.size h in
    record {
      size = length-set F o (some S) ∙ k.size;
      array = k.array;
      at = λ i i<n. by_offset (λ (j : ℕ). Stands P (get_or l j 0) (get_or (set F o (some S)) j none)) o i
          (λ q. rw (q, get_or-set_same F o (some S) none f) (subst (λ (x : Option Shape). Stands P (get_or l o 0) x) e (k.at o h)))
          (λ q. rw (get_or-set_other F o i (some S) none q) (k.at i i<n));
    }

-- the shapes stand when more are made
pub kept_later : (P Q : Pool) (n : ℕ) (F : Shapes) (l : List ℕ) → Fine P → Grown P Q → Kept P n F l → Kept Q n F l
unfolding Stands
kept_later P Q n F l f g k = record { size = k.size; array = k.array; at = λ o h. by (get_or l o 0) (get_or F o none) (k.at o h) }
  where
    by : (v : ℕ) (o : Option Shape) → Stands P v o → Stands Q v o
    by v none s = s
    by v (some S) s = later P Q S v f g s

-- ---- What stands at an offset, as the code reads it

stands_none : (P : Pool) (v : ℕ) (o : Option Shape) → Fine P → Stands P v o → v % 2048 ≡ 0 → o ≡ none
unfolding Stands
stands_none P v none f s e = refl
stands_none P v (some S) f s e =
    let a : 0 < v = not_none P S v s in
    let b : v < P.made = used P S v f s in
    let c : P.made ≤ 2048 = f.few in
    absurd (omega arith)

pub record Stood (P : Pool) (v : ℕ) (o : Option Shape) : Type 0 where
  pub shape : Shape
  pub is : o ≡ some shape
  pub shows : Shows P shape v

stands_some : (P : Pool) (v : ℕ) (o : Option Shape) → Fine P → Stands P v o → (v % 2048 ≡ 0 → ⊥) → Stood P (v % 2048) o
unfolding Stands
stands_some P v none f s e = absurd (e (rw s))
stands_some P v (some S) f s e =
    let b : v < P.made = used P S v f s in
    let c : P.made ≤ 2048 = f.few in
    let d : v ≡ v % 2048 = omega arith in
    record { shape = S; is = refl; shows = subst (λ (k : ℕ). Shows P S k) d s }

pub read_none : (P : Pool) (o : Option Shape) → Read P None o → o ≡ none
unfolding Read
read_none P none r = refl
read_none P (some S) r = let z : ◌≡◌ {A = Found ℕ} None (Some r.0) = r.1 in absurd (cc)

pub read_some : (P : Pool) (v : ℕ) (o : Option Shape) → Read P (Some v) o → Stood P v o
unfolding Read
read_some P v none r = let z : ◌≡◌ {A = Found ℕ} (Some v) None = r in absurd (cc)
read_some P v (some S) r =
    let z : ◌≡◌ {A = Found ℕ} (Some v) (Some r.0) = r.1 in
    let y : v ≡ r.0 = cc in
    record { shape = S; is = refl; shows = rw y r.2 }

module _ (P : Pool) (n : ℕ) (F : Shapes) (l : List ℕ) (o : ℕ) (f : Fine P) (k : Kept P n F l) (h : o < n) (b : n ≤ 1024) where
  pub read_at : (v : ℕ) → v ≡ get_or l o 0 % 2048 → Read P (then_some (not (eqb v 0)) v) (get_or F o none)
  unfolding Read
  read_at v e = by (eqb v 0) refl
    where
      by : (t : Bool) → eqb v 0 ≡ t → Read P (then_some (not t) v) (get_or F o none)
      by true q = rw (stands_none P (get_or l o 0) (get_or F o none) f (k.at o h) (sym e ∙ eqb-true v 0 q)) refl
      by false q =
          let s = stands_some P (get_or l o 0) (get_or F o none) f (k.at o h) (λ z. eqb-false v 0 q (e ∙ z)) in
          subst (λ (x : Option Shape). Read P (Some v) x) (sym s.is) (v, refl, subst (λ (k : ℕ). Shows P s.shape k) (sym e) s.shows)

  pub first_arrival : (S : Shape) (v : ℕ) → Read P None (get_or F o none) → Shows P S v → Met P n (Ok tt) (set l o v) (meet F o S (get_or F o none))
  unfolding Met meet
  first_arrival S v r w = rw (read_none P (get_or F o none) r) (refl, stands_set P n F l o v S k h b w)

  module _ (S : Shape) (v : ℕ) (s : Stood P v (get_or F o none)) where
    pub later_same : true ≡ eq_tys S s.shape → Met P n (Ok tt) l (meet F o S (get_or F o none))
    unfolding Met ◌>>=◌ need only_if meet joined
    later_same q = rw (s.is, ← q) (refl, stands_again P n F l o s.shape k h s.is)

    pub later_other : false ≡ eq_tys S s.shape → Met P n (Err OtherShape) l (meet F o S (get_or F o none))
    unfolding Met ◌>>=◌ need only_if meet joined
    later_other q = rw (s.is, ← q) (refl, refl)

  pub shape_none : Read P None (get_or F o none) → Shows P (shape_at F o) 1 × Kept P n (set F o (some (shape_at F o))) (set l o 1)
  unfolding shape_at or_else
  shape_none r = rw (read_none P (get_or F o none) r) (empty_shows P f, stands_set P n F l o 1 [] k h b (empty_shows P f))

  pub shape_some : (v : ℕ) → Read P (Some v) (get_or F o none) → Shows P (shape_at F o) v × Kept P n (set F o (some (shape_at F o))) l
  unfolding shape_at or_else
  shape_some v r =
      let s = read_some P v (get_or F o none) r in
      rw s.is (s.shows, stands_again P n F l o s.shape k h s.is)

-- ---- What follows an effect

pub past_end : (P : Pool) (n : ℕ) (F : Shapes) (l : List ℕ) (next : ℕ) (S : Shape) → n ≤ next → Went P n (Err FallsPast) l (goes_on n F true next [] S)
unfolding Went goes_on arrive keep_if guard ◌>>=◌
past_end P n F l next S h = rw (le-ltb next n h) (FallsPast, refl, refl, omega arith)

once : (F : Shapes) (S : Shape) (o : ℕ) → arrive F S (o ∷ []) ≡ meet F o S (get_or F o none)
unfolding arrive ◌>>=◌
once F S o = by (meet F o S (get_or F o none))
  where
    by : (A : Answer ℕ Shapes) → (A >>= λ more. ok more) ≡ A
    by (bad k) = refl
    by (ok G) = refl

module _ (P : Pool) (n : ℕ) (l : List ℕ) where
  -- an arrival, then the end is not there
  met_went : (r : Result ⊤ FaultKind) (A : Answer ℕ Shapes) → Met P n r l A → Went P n r l (A >>= λ more. guard true 17 >>= λ _. ok more)
  unfolding Met Went guard ◌>>=◌
  met_went r (bad k) m = let z : k ≡ 16 = m.1 in (OtherShape, m.0, sym z, omega arith)
  met_went r (ok F) m = m

  -- an arrival, then the end
  met_ended : (A : Answer ℕ Shapes) → Met P n (Ok tt) l A → Went P n (Err FallsPast) l (A >>= λ more. guard false 17 >>= λ _. ok more)
  unfolding Met Went guard ◌>>=◌
  met_ended (bad k) m = let z : ◌≡◌ {A = Result ⊤ FaultKind} (Ok tt) (Err OtherShape) = m.0 in absurd (cc)
  met_ended (ok F) m = (FallsPast, refl, refl, omega arith)

  -- another shape was found
  met_failed : (e : FaultKind) (A : Answer ℕ Shapes) (f : Shapes → Answer ℕ Shapes) → Met P n (Err e) l A → Went P n (Err e) l (A >>= f)
  unfolding Met Went ◌>>=◌
  met_failed e (bad k) f m = let z : k ≡ 16 = m.1 in (OtherShape, m.0, sym z, omega arith)
  met_failed e (ok F) f m = let z : ◌≡◌ {A = Result ⊤ FaultKind} (Err e) (Ok tt) = m.0 in absurd (cc)

pub next_met : (P : Pool) (n : ℕ) (F : Shapes) (l : List ℕ) (next : ℕ) (S : Shape) (r : Result ⊤ FaultKind) → next < n
    → Met P n r l (meet F next S (get_or F next none)) → Went P n r l (goes_on n F true next [] S)
unfolding goes_on keep_if
next_met P n F l next S r h m = rw (lt-ltb next n h, once F S next) (met_went P n l r (meet F next S (get_or F next none)) m)

-- ---- Branches

twice : (F G : Shapes) (R : Shape) (x o : ℕ) → meet F x R (get_or F x none) ≡ ok G → arrive F R (x ∷ o ∷ []) ≡ meet G o R (get_or G o none)
unfolding arrive ◌>>=◌
twice F G R x o e = rw e (once G R o)

pub by_none : {A : Type 0} (P : Pool) (n : ℕ) (l : List ℕ) (f : A → Answer ℕ Shapes) (o : Option A) → o ≡ none → WentBy P n (Err Operand) l f o
unfolding WentBy
by_none P n l f o e = rw e refl

pub by_some : {A : Type 0} (P : Pool) (n : ℕ) (r : Result ⊤ FaultKind) (l : List ℕ) (f : A → Answer ℕ Shapes) (o : Option A) (a : A) → o ≡ some a
    → Went P n r l (f a) → WentBy P n r l f o
unfolding WentBy
by_some P n r l f o a e h = rw e h

pub lost : (n : ℕ) (r : Found ℕ) (o : Option ℕ) → Lands n r o → r ≡ None → o ≡ none
unfolding Lands
lost n r none h k = refl
lost n r (some t) h k = let x : r ≡ Some t = h.0 in cc

pub landed : (n : ℕ) (r : Found ℕ) (o : Option ℕ) (t : ℕ) → Lands n r o → r ≡ Some t → (o ≡ some t) × (t < n)
unfolding Lands
landed n r none t h k = let x : r ≡ None = h in cc
landed n r (some o) t h k = let x : r ≡ Some o = h.0 in let y : o ≡ t = cc in (ap some y, rw (← y) h.1)

pub record Passed (P : Pool) (s : ℕ) (A : Answer ℕ Shape) : Type 0 where
  pub shape : Shape
  pub is : A ≡ ok shape
  pub shows : Shows P shape s

pub passed : (P : Pool) (s : ℕ) (A : Answer ℕ Shape) → Agrees P (Ok s) A → Passed P s A
unfolding Agrees
passed P s (bad k) h = absurd h
passed P s (ok S) h = record { shape = S; is = refl; shows = h }

pub agrees_shape : (P : Pool) (s : ℕ) (A : Answer ℕ Shape) (S : Shape) → A ≡ ok S → Shows P S s → Agrees P (Ok s) A
unfolding Agrees
agrees_shape P s A S e w = rw e w

pub failed : (P : Pool) (e : FaultKind) (A : Answer ℕ Shape) (n : ℕ) (l : List ℕ) (f : Shape → Answer ℕ Shapes) → Agrees P (Err e) A
    → Went P n (Err e) l (A >>= f)
unfolding Agrees Went ◌>>=◌
failed P e (bad k) n l f h = (e, refl, h.0, h.1)
failed P e (ok S) n l f h = absurd h

jumped_is : (n : ℕ) (F : Shapes) (j : Jump) (next : ℕ) (S R : Shape) (o : ℕ) → jump_effect j S ≡ ok R
    → jumped n F j next S o ≡ goes_on n F (jump_falls j) next (o ∷ []) R
unfolding jumped ◌>>=◌
jumped_is n F j next S R o e = rw e refl

module _ (P : Pool) (n : ℕ) (F : Shapes) (j : Jump) (next : ℕ) (S : Shape) (o : ℕ) (l : List ℕ) where
  pub branch_failed : (e : FaultKind) → Agrees P (Err e) (jump_effect j S) → Went P n (Err e) l (jumped n F j next S o)
  unfolding jumped
  branch_failed e h = failed P e (jump_effect j S) n l (λ R. goes_on n F (jump_falls j) next (o ∷ []) R) h

  module _ (R : Shape) (e : jump_effect j S ≡ ok R) where
    pub branch_only : (r : Result ⊤ FaultKind) → jump_falls j ≡ false → Met P n r l (meet F o R (get_or F o none)) → Went P n r l (jumped n F j next S o)
    unfolding goes_on keep_if
    branch_only r q m = rw (jumped_is n F j next S R o e, q, once F R o) (met_went P n l r (meet F o R (get_or F o none)) m)

    module _ (q : jump_falls j ≡ true) where
      pub branch_last : n ≤ next → Met P n (Ok tt) l (meet F o R (get_or F o none)) → Went P n (Err FallsPast) l (jumped n F j next S o)
      unfolding goes_on keep_if
      branch_last b m = rw (jumped_is n F j next S R o e, q, le-ltb next n b, once F R o) (met_ended P n l (meet F o R (get_or F o none)) m)

      pub branch_last_failed : (k : FaultKind) → n ≤ next → Met P n (Err k) l (meet F o R (get_or F o none)) → Went P n (Err k) l (jumped n F j next S o)
      unfolding goes_on keep_if
      branch_last_failed k b m = rw (jumped_is n F j next S R o e, q, le-ltb next n b, once F R o) (met_failed P n l k (meet F o R (get_or F o none)) (λ more. guard false 17 >>= λ _. ok more) m)

      pub branch_next_failed : (k : FaultKind) → next < n → Met P n (Err k) l (meet F next R (get_or F next none))
          → Went P n (Err k) l (jumped n F j next S o)
      unfolding goes_on keep_if arrive ◌>>=◌
      branch_next_failed k b m = rw (jumped_is n F j next S R o e, q, lt-ltb next n b) (by (meet F next R (get_or F next none)) m)
        where
          by : (A : Answer ℕ Shapes) → Met P n (Err k) l A
              → Went P n (Err k) l ((A >>= λ more. arrive more R (o ∷ [])) >>= λ more. guard true 17 >>= λ _. ok more)
          by (bad i) m = met_failed P n l k (bad i) (λ more. ok more) m
          by (ok G) m = met_failed P n l k (ok G) (λ more. arrive more R (o ∷ []) >>= λ more. guard true 17 >>= λ _. ok more) m

      pub branch_both : (r : Result ⊤ FaultKind) (G : Shapes) → next < n → meet F next R (get_or F next none) ≡ ok G
          → Met P n r l (meet G o R (get_or G o none)) → Went P n r l (jumped n F j next S o)
      unfolding goes_on keep_if
      branch_both r G b m h =
          rw (jumped_is n F j next S R o e, q, lt-ltb next n b, twice F G R next o m) (met_went P n l r (meet G o R (get_or G o none)) h)

pub record Arrived (P : Pool) (n : ℕ) (l : List ℕ) (A : Answer ℕ Shapes) : Type 0 where
  pub found : Shapes
  pub is : A ≡ ok found
  pub kept : Kept P n found l

pub arrived : (P : Pool) (n : ℕ) (l : List ℕ) (A : Answer ℕ Shapes) → Met P n (Ok tt) l A → Arrived P n l A
unfolding Met
arrived P n l (bad k) h = let z : ◌≡◌ {A = Result ⊤ FaultKind} (Ok tt) (Err OtherShape) = h.0 in absurd (cc)
arrived P n l (ok F) h = record { found = F; is = refl; kept = h.1 }

pub falls_not : (g : ℕ) → g ≡ 33 → jump_falls (jump_by g) ≡ false
unfolding jump_by pick jump_falls
falls_not g e = rw e refl

pub falls_on : (g : ℕ) → (g ≡ 33 → ⊥) → jump_falls (jump_by g) ≡ true
unfolding jump_by pick jump_falls
falls_on g e = rw (ne_eqb g 33 e) (by (eqb g 34) (eqb g 35))
  where
    by : (a b : Bool) → jump_falls (pick a iftrue (pick b (when eq) (when lt))) ≡ true
    by true b = refl
    by false true = refl
    by false false = refl
