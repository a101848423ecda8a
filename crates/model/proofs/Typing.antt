-- Values, lists of values and heaps against types.
use mathlib.Core.Logic.{◌≢◌}
use mathlib.Core.Path.{◌≡◌, refl, sym, ap, ◌∙◌, subst}
use Prim.Native.Nat.{ℕ, zero, suc, ◌+◌, ◌≤◌, ◌<◌}
use native.Mathlib.Nat.{le_of_suc-le-suc}
use native.Mathlib.Omega.{arith}
use mathlib.Core.Option.{Option, none, some}
use mathlib.Core.List.{List, [], ◌∷◌, ◌++◌, map}
use lib.ListN.{length, get_or, set, drop, replicate}
use lib.Dec.{T, eqb, leb→le, T_not, eqb_refl, eqb→eq}
use lib.Seq.{get_or-set_same, get_or-set_other}
use Rattle.model.specs.Answer.{ok, or_else, at}
use Rattle.model.specs.Tables.{Ty, int32, int64, F, null, class, Module, layout, field_types}
use Rattle.model.specs.Operators.{fits, k32, k64, k_f, reference, kind}
use Rattle.model.specs.State.{Value, vint32, vint64, v_f, vnull, vobject, value, zero_of, bits_in, Object, Heap, places, get, store, free_from, free}
use Rattle.model.specs.State.{object_at, new_object, type_of, fits_value, kind_of, Popped, firsts, fit_all, check_number, stuck_number, pops, pop1, pop2}
use Rattle.model.specs.State.{Machine}
use Rattle.model.specs.Step.{Placed, Allocator, place_at, lowest_free, not_null}
use Rattle.model.specs.Run.{admit_one, admit}
use Rattle.model.specs.Check.{Shape}
use Rattle.model.proofs.Hoare.{Holds, holds_ok, holds_guard, holds_test, guard_inv, only_inv, then_inv, map_inv, bad_ok, ok_eq, none_some, some_eq}
use Rattle.model.proofs.Hoare.{and_l, and_r, and_i, by_test}
use Rattle.model.proofs.Ancestors.{Falls, Above, here, Under, itself, nothing, derived, under_trans, fits_under, under_fits, under_kind, Below, bnil}
use Rattle.model.proofs.Ancestors.{bcons}

-- a value that fits a type, and whose object, if it is a reference, is there
pub record Has (M : Module) (h : Heap) (v : Value) (t : Ty) : Type 0 where
  pub fit : T (fits_value M h v t)
  pub there : (n : ℕ) → v ≡ vobject n → (o : Object) × (get h n ≡ some o)

pub has_under : {M : Module} {h : Heap} {v : Value} {t : Ty} → Has M h v t → Under M.parents (type_of h v) t
unfolding fits_value
has_under {M} {h} {v} {t} p = fits_under M.parents (type_of h v) t p.fit

pub has_sub : {M : Module} → Falls M.parents → {h : Heap} {v : Value} {t u : Ty} → Has M h v t → Under M.parents t u → Has M h v u
unfolding fits_value
has_sub {M} w {h} {v} {t} {u} p q = record { fit = under_fits M.parents w (type_of h v) u (under_trans (has_under p) q); there = p.there }

pub has_kind : {M : Module} {h : Heap} {v : Value} {t : Ty} → Has M h v t → kind_of h v ≡ kind t
unfolding kind_of
has_kind p = under_kind (has_under p)

-- a value whose type fits, its object being there
has_of : {M : Module} → Falls M.parents → {h : Heap} {v : Value} {t : Ty} → Under M.parents (type_of h v) t
    → ((n : ℕ) → v ≡ vobject n → (o : Object) × (get h n ≡ some o)) → Has M h v t
unfolding fits_value
has_of {M} w {h} {v} {t} p q = record { fit = under_fits M.parents w (type_of h v) t p; there = q }

apart : {X : Type 0} → ◌≡◌ {A = ℕ} 0 1 → X
apart z = absurd (omega arith)

number_eq : {a b : ℕ} → vobject a ≡ vobject b → a ≡ b
number_eq r = cc

pub has_value : (M : Module) → Falls M.parents → (h : Heap) (t : Ty) (n : ℕ) → Has M h (value t n) t
unfolding value type_of
has_value M w h int32 n = has_of w itself (λ k e. apart cc)
has_value M w h int64 n = has_of w itself (λ k e. apart cc)
has_value M w h F n = has_of w itself (λ k e. apart cc)
has_value M w h null n = has_of w itself (λ k e. apart cc)
has_value M w h (class c) n = has_of w nothing (λ k e. apart cc)

pub has_null : (M : Module) → Falls M.parents → (h : Heap) (c : ℕ) → Has M h vnull (class c)
unfolding value
has_null M w h c = has_value M w h (class c) 0

-- ---- Heaps that grow

-- objects stay, and keep their class
pub record Ext (h k : Heap) : Type 0 where
  pub keeps : (n : ℕ) (o : Object) → get h n ≡ some o → (p : Object) × (get k n ≡ some p) × (p.class ≡ o.class)

pub ext_refl : (h : Heap) → Ext h h
ext_refl h = record { keeps = λ n o e. (o, e, refl) }

pub object_is : (h : Heap) (n : ℕ) (o : Object) → get h n ≡ some o → object_at h n ≡ o
unfolding object_at or_else
object_is h n o e = rw e

pub has_grow : {M : Module} {h k : Heap} → Ext h k → {v : Value} {t : Ty} → Has M h v t → Has M k v t
unfolding fits_value type_of
has_grow g {v = vint32 n} p = record { fit = p.fit; there = λ i e. apart cc }
has_grow g {v = vint64 n} p = record { fit = p.fit; there = λ i e. apart cc }
has_grow g {v = v_f n} p = record { fit = p.fit; there = λ i e. apart cc }
has_grow g {v = vnull} p = record { fit = p.fit; there = λ i e. apart cc }
has_grow {M} {h} {k} g {v = vobject n} {t} p =
    let (o, e) = p.there n refl in
    let (q, f, z) = g.keeps n o e in
    let y : (object_at h n).class ≡ (object_at k n).class = ap (λ (x : Object). x.class) (object_is h n o e)
    ∙ sym z ∙ sym (ap (λ (x : Object). x.class) (object_is k n q f)) in
    record { fit = subst (λ (c : ℕ). T (fits M.parents (class c) t)) y p.fit; there = λ i r. (q, subst (λ (x : ℕ). get k x ≡ some q) (number_eq r) f) }

-- ---- Lists of values

pub data Fit (M : Module) (h : Heap) : List Value → List Ty → Type 0 where
  fnil : Fit M h [] []
  fcons : {v : Value} {t : Ty} {vs : List Value} {ts : List Ty} → Has M h v t → Fit M h vs ts → Fit M h (v ∷ vs) (t ∷ ts)

pub fit_grow : {M : Module} {h k : Heap} → Ext h k → {vs : List Value} {ts : List Ty} → Fit M h vs ts → Fit M k vs ts
fit_grow g fnil = fnil
fit_grow g (fcons p ps) = fcons (has_grow g p) (fit_grow g ps)

pub fit_length : {M : Module} {h : Heap} {vs : List Value} {ts : List Ty} → Fit M h vs ts → length vs ≡ length ts
fit_length fnil = refl
fit_length (fcons p ps) = ap suc (fit_length ps)

pub fit_append : {M : Module} {h : Heap} {vs : List Value} {ts : List Ty} → Fit M h vs ts → {ws : List Value} {us : List Ty} → Fit M h ws us
    → Fit M h (vs ++ ws) (ts ++ us)
fit_append fnil q = q
fit_append (fcons p ps) q = fcons p (fit_append ps q)

pub fit_below : {M : Module} → Falls M.parents → {h : Heap} {vs : List Value} {S R : Shape} → Fit M h vs S → Below M.parents S R → Fit M h vs R
fit_below w fnil bnil = fnil
fit_below w (fcons p ps) (bcons q qs) = fcons (has_sub w p q) (fit_below w ps qs)

pub fit_get_d : {M : Module} {h : Heap} {vs : List Value} {ts : List Ty} → Fit M h vs ts → (i : ℕ) (t : Ty) (d : Value) → at ts i ≡ some t
    → Has M h (get_or vs i d) t
unfolding at
fit_get_d fnil i t d e = none_some e
fit_get_d {M} {h} (fcons {v = v} p ps) zero t d e = subst (λ (x : Ty). Has M h v x) (some_eq e) p
fit_get_d (fcons p ps) (suc i) t d e = fit_get_d ps i t d e

pub fit_set : {M : Module} {h : Heap} {vs : List Value} {ts : List Ty} → Fit M h vs ts → (i : ℕ) (t : Ty) (v : Value) → at ts i ≡ some t → Has M h v t
    → Fit M h (set vs i v) ts
unfolding at
fit_set fnil i t v e q = fnil
fit_set {M} {h} (fcons p ps) zero t v e q = fcons (subst (λ (x : Ty). Has M h v x) (sym (some_eq e)) q) ps
fit_set (fcons p ps) (suc i) t v e q = fcons p (fit_set ps i t v e q)

pub fit_zero : (M : Module) → Falls M.parents → (h : Heap) (ts : List Ty) → Fit M h (map zero_of ts) ts
unfolding zero_of
fit_zero M w h [] = fnil
fit_zero M w h (t ∷ ts) = fcons (has_value M w h t 0) (fit_zero M w h ts)

-- the first of some values, and the values with it at another type
pub record First (M : Module) (h : Heap) (vs : List Value) (t : Ty) (ts : List Ty) : Type 0 where
  pub this : Has M h (get_or vs 0 vnull) t
  pub again : (u : Ty) → Has M h (get_or vs 0 vnull) u → Fit M h vs (u ∷ ts)

pub fit_first : {M : Module} {h : Heap} {vs : List Value} {t : Ty} {ts : List Ty} → Fit M h vs (t ∷ ts) → First M h vs t ts
fit_first (fcons p ps) = record { this = p; again = λ u q. fcons q ps }

-- admitted arguments fit
one_admitted : (M : Module) → Falls M.parents → (h : Heap) (t : Ty) (a : ℕ) (v : Value) → admit_one t a ≡ some v → Has M h v t
unfolding admit_one
one_admitted M w h int32 a v e = let (_, q) = only_inv _ _ _ e in subst (λ (x : Value). Has M h x int32) (some_eq q) (unfold value in has_value M w h int32 _)
one_admitted M w h int64 a v e = subst (λ (x : Value). Has M h x int64) (some_eq e) (unfold value in has_value M w h int64 _)
one_admitted M w h F a v e = none_some e
one_admitted M w h null a v e = none_some e
one_admitted M w h (class c) a v e = none_some e

pub admitted : (M : Module) → Falls M.parents → (h : Heap) (ts : List Ty) (l : List ℕ) (vs : List Value) → admit ts l ≡ some vs → Fit M h vs ts
unfolding admit
admitted M w h [] [] vs e = subst (λ (x : List Value). Fit M h x []) (some_eq e) fnil
admitted M w h [] (a ∷ l) vs e = none_some e
admitted M w h (t ∷ ts) [] vs e = none_some e
admitted M w h (t ∷ ts) (a ∷ l) vs e =
    let (v, e1, e2) = then_inv _ _ _ e in
    let (us, e3, e4) = map_inv _ _ _ e2 in
    subst (λ (x : List Value). Fit M h x (t ∷ ts)) e4 (fcons (one_admitted M w h t a v e1) (admitted M w h ts l us e3))

-- ---- The stack

fit_firsts : {M : Module} {h : Heap} (n : ℕ) {vs : List Value} {S : Shape} → Fit M h vs S → {ws : List Value} {R : Shape} → Fit M h ws R
    → Fit M h (firsts n vs ws) (firsts n S R)
unfolding firsts
fit_firsts zero p q = q
fit_firsts (suc n) fnil q = q
fit_firsts (suc n) (fcons p ps) q = fit_firsts n ps (fcons p q)

fit_drop : {M : Module} {h : Heap} (n : ℕ) {vs : List Value} {S : Shape} → Fit M h vs S → Fit M h (drop n vs) (drop n S)
fit_drop zero p = p
fit_drop (suc n) fnil = fnil
fit_drop (suc n) (fcons p ps) = fit_drop n ps

length_firsts : {A : Type 0} (n : ℕ) (s l : List A) → n ≤ length s → length (firsts n s l) ≡ n + length l
unfolding firsts
length_firsts zero s l h = omega arith
length_firsts (suc n) [] l h = absurd (omega arith)
length_firsts (suc n) (v ∷ s) l h = length_firsts n s (v ∷ l) (le_of_suc-le-suc h) ∙ omega arith

fit_all_lem : {M : Module} {h : Heap} {vs : List Value} {ts : List Ty} → Fit M h vs ts → T (fit_all (fits_value M h) ts vs)
unfolding fit_all
fit_all_lem fnil = tt
fit_all_lem {M} {h} (fcons {v = v} {t = t} {vs = vs} {ts = ts} p ps) = and_i (fits_value M h v t) (fit_all (fits_value M h) ts vs) p.fit (fit_all_lem ps)

all_fit : {M : Module} → Falls M.parents → {h : Heap} {vs : List Value} {S : Shape} → Fit M h vs S → (ts : List Ty) → length ts ≡ length S
    → T (fit_all (fits M.parents) ts S) → Fit M h vs ts
unfolding fit_all
all_fit w fnil [] e t = fnil
all_fit w fnil (u ∷ ts) e t = absurd t
all_fit w (fcons p ps) [] e t = absurd (omega arith)
all_fit {M} w (fcons {t = s} {ts = S} p ps) (u ∷ ts) e t =
    fcons (has_sub w p (fits_under M.parents s u (and_l (fits M.parents s u) (fit_all (fits M.parents) ts S) t)))
    (all_fit w ps ts (omega arith) (and_r (fits M.parents s u) (fit_all (fits M.parents) ts S) t))

-- values popped from a stack, the check having popped their types
pub pops_fit : {M : Module} → Falls M.parents → {h : Heap} (ts : List Ty) {vs : List Value} {S : Shape} → Fit M h vs S → (P : Popped Ty)
    → pops check_number (fits M.parents) ts S ≡ ok P
    → Holds (λ p. Fit M h p.got ts × Fit M h p.rest P.rest) (pops stuck_number (fits_value M h) ts vs)
unfolding pops
pops_fit {M} w {h} ts {vs} {S} f P e =
    let (t, e1) = guard_inv _ _ _ _ e in
    let (u, e2) = guard_inv _ _ _ _ e1 in
    let le : length ts ≤ length S = leb→le (length ts) (length S) t in
    let z : length vs ≡ length S = fit_length f in
    let k : Fit M h (firsts (length ts) vs []) ts = all_fit w (fit_firsts (length ts) f fnil) ts (sym (length_firsts (length ts) S [] le ∙ omega arith)) u in
    holds_guard _ _ _ _ (rw z t) (
    holds_guard _ _ _ _ (fit_all_lem k) (
    holds_ok _ _ (k, subst (λ (x : Popped Ty). Fit M h (drop (length ts) vs) x.rest) (ok_eq e2) (fit_drop (length ts) f))))

pub pop1_fit : {M : Module} {h : Heap} {vs : List Value} {S : Shape} → Fit M h vs S → (p : (t : Ty) × Shape) → pop1 check_number S ≡ ok p
    → Holds (λ q. Has M h q.0 p.0 × Fit M h q.1 p.1) (pop1 stuck_number vs)
unfolding pop1
pop1_fit fnil p e = bad_ok e
pop1_fit {M} {h} (fcons {v = v} {t = t} {vs = vs} {ts = ts} q qs) p e =
    let i : (t, ts) ≡ p = cc in
    holds_ok _ _ (subst (λ (x : (t : Ty) × Shape). Has M h v x.0 × Fit M h vs x.1) i (q, qs))

pub pop2_fit : {M : Module} {h : Heap} {vs : List Value} {S : Shape} → Fit M h vs S → (p : (a : Ty) × (b : Ty) × Shape) → pop2 check_number S ≡ ok p
    → Holds (λ q. Has M h q.0 p.0 × Has M h q.1 p.1 × Fit M h q.2 p.2) (pop2 stuck_number vs)
unfolding pop2
pop2_fit fnil p e = bad_ok e
pop2_fit (fcons q fnil) p e = bad_ok e
pop2_fit {M} {h} (fcons {v = v} {t = t} q (fcons {v = u} {t = s} {vs = vs} {ts = ts} r rs)) p e =
    let i : (s, t, ts) ≡ p = cc in
    holds_ok _ _ (subst (λ (x : (a : Ty) × (b : Ty) × Shape). Has M h u x.0 × Has M h v x.1 × Fit M h vs x.2) i (r, q, rs))

-- ---- Objects

-- each object is of a class of the module, and its cells fit that class's fields
pub record HeapFits (M : Module) (h : Heap) : Type 0 where
  pub class : (n : ℕ) (o : Object) → get h n ≡ some o → (1 ≤ o.class) × (o.class ≤ length M.parents)
  pub cells : (n : ℕ) (o : Object) → get h n ≡ some o → Fit M h o.cells (field_types (layout M.parents M.fields o.class))

-- a new object stands at a free number, and the others stay
pub record Places (h : Heap) (o : Object) (p : Placed) : Type 0 where
  pub free : get h p.number ≡ none
  pub here : get p.heap p.number ≡ some o
  pub others : (n : ℕ) → n ≢ p.number → get p.heap n ≡ get h n

-- an allocator that does so
abbrev pub Grows : Allocator → Type 0
Grows new = (s : Machine) (o : Object) (p : Placed) → new s o ≡ some p → Places s.heap o p

by_number : {X : Type 0} (n k : ℕ) → (n ≡ k → X) → (n ≢ k → X) → X
by_number n k f g = by_test (eqb n k) (λ t. f (eqb→eq n k t)) (λ t. g (λ e. T_not (eqb n k) t (subst (λ (x : ℕ). T (eqb n x)) e (eqb_refl n))))

pub placed_ext : {h : Heap} {o : Object} {p : Placed} → Places h o p → Ext h p.heap
placed_ext {h} {o} {p} q = record {
  keeps = λ n x e. by_number n p.number
      (λ z. none_some (sym q.free ∙ subst (λ (k : ℕ). get h k ≡ some x) z e))
      (λ z. (x, q.others n z ∙ e, refl));
}

module _ (M : Module) (w : Falls M.parents) where
  -- an object of a class, its cells at zero
  pub placed_fits : {h : Heap} (c : ℕ) {p : Placed} → 1 ≤ c → c ≤ length M.parents → Places h (new_object M c) p → HeapFits M h → HeapFits M p.heap
  unfolding new_object
  placed_fits {h} c {p} low high q k = record {
    class = λ n x e. by_number n p.number
        (λ z. subst (λ (y : Object). (1 ≤ y.class) × (y.class ≤ length M.parents))
        (some_eq (sym q.here ∙ subst (λ (i : ℕ). get p.heap i ≡ some x) z e)) (low, high))
        (λ z. k.class n x (sym (q.others n z) ∙ e));
    cells = λ n x e. by_number n p.number
        (λ z. subst (λ (y : Object). Fit M p.heap y.cells (field_types (layout M.parents M.fields y.class)))
        (some_eq (sym q.here ∙ subst (λ (i : ℕ). get p.heap i ≡ some x) z e)) (fit_zero M w p.heap _))
        (λ z. fit_grow (placed_ext q) (k.cells n x (sym (q.others n z) ∙ e)));
  }

  -- a reference to an object of a class
  pub has_object : (h : Heap) (n : ℕ) (o : Object) (d : ℕ) → get h n ≡ some o → Above M.parents d o.class → Has M h (vobject n) (class d)
  unfolding type_of
  has_object h n o d e a =
      has_of w (subst (λ (x : Object). Under M.parents (class x.class) (class d)) (sym (object_is h n o e)) (derived a))
      (λ k r. (o, subst (λ (x : ℕ). get h x ≡ some o) (number_eq r) e))

  pub placed_has : {h : Heap} {c : ℕ} {p : Placed} → 0 < c → Places h (new_object M c) p → Has M p.heap (vobject p.number) (class c)
  unfolding new_object
  placed_has {c = c} {p = p} h q = has_object p.heap p.number _ c q.here (here h)

-- ---- Lowest free places

free_at : (n : ℕ) (h : Heap) (k : ℕ) → free_from n h ≡ some k → (i : ℕ) × (k ≡ n + i) × (get_or h i none ≡ none) × (i < length h)
unfolding free_from
free_at n [] k e = none_some e
free_at n (none ∷ h) k e = (0, sym (some_eq e) ∙ omega arith, refl, omega arith)
free_at n (some o ∷ h) k e = let (i, a, b, c) = free_at (suc n) h k e in (suc i, a ∙ omega arith, b, omega arith)

stored : (h : Heap) (i : ℕ) (o : Object) → get_or h i none ≡ none → i < length h → Places h o (record { heap = store h (suc i) o; number = suc i })
unfolding store get
stored h i o e l = record { free = e; here = get_or-set_same h i (some o) none l; others = λ n. other n }
  where
    other : (n : ℕ) → n ≢ suc i → get (set h i (some o)) n ≡ get h n
    other zero z = unfold get in refl
    other (suc n) z = unfold get in get_or-set_other h i n (some o) none (λ q. z (ap suc q))

place_grows : (h : Heap) (o : Object) (f : Option ℕ) (p : Placed) → free_from 1 h ≡ f → place_at h o f ≡ some p → Places h o p
unfolding place_at
place_grows h o none p e q = none_some q
place_grows h o (some n) p e q =
    let (i, a, b, c) = free_at 1 h n e in
    let z : n ≡ suc i = a ∙ omega arith in
    subst (λ (x : Placed). Places h o x) (some_eq q) (subst (λ (k : ℕ). Places h o (record { heap = store h k o; number = k })) (sym z) (stored h i o b c))

pub lowest_free_grows : Grows lowest_free
unfolding lowest_free free
lowest_free_grows s o p e = place_grows s.heap o (free_from 1 s.heap) p refl e

no_place : (n k : ℕ) → get_or {A = Option Object} (replicate n none) k none ≡ none
no_place zero k = refl
no_place (suc n) zero = refl
no_place (suc n) (suc k) = no_place n k

no_object : (n k : ℕ) → get (places n) k ≡ none
unfolding get places
no_object n zero = refl
no_object n (suc k) = no_place n k

-- no place is taken at first
pub places_fit : (M : Module) (n : ℕ) → HeapFits M (places n)
places_fit M n = record { class = λ k o e. none_some (sym (no_object n k) ∙ e); cells = λ k o e. none_some (sym (no_object n k) ∙ e) }

-- ---- A changed object

get_set : {X : Type 0} (h : Heap) (i : ℕ) (o : Object) (k : ℕ) (x : Object) → get_or (set h i (some o)) k none ≡ some x → (get_or h k none ≡ some x → X)
    → (o ≡ x → X) → X
get_set [] i o k x e f g = none_some e
get_set (y ∷ h) zero o zero x e f g = g (some_eq e)
get_set (y ∷ h) zero o (suc k) x e f g = f e
get_set (y ∷ h) (suc i) o zero x e f g = f e
get_set (y ∷ h) (suc i) o (suc k) x e f g = get_set h i o k x e f g

get_store : {X : Type 0} (h : Heap) (n : ℕ) (o : Object) (k : ℕ) (x : Object) → get (store h n o) k ≡ some x → (get h k ≡ some x → X) → (o ≡ x → X) → X
unfolding get store
get_store h zero o k x e f g = f e
get_store h (suc i) o zero x e f g = none_some e
get_store h (suc i) o (suc k) x e f g = get_set h i o k x e f g

set_keeps : (h : Heap) (i : ℕ) (o x : Object) → get_or h i none ≡ some o → x.class ≡ o.class → (k : ℕ) (y : Object) → get_or h k none ≡ some y
    → (z : Object) × (get_or (set h i (some x)) k none ≡ some z) × (z.class ≡ y.class)
set_keeps [] i o x e q k y f = none_some f
set_keeps (a ∷ h) zero o x e q zero y f = (x, refl, q ∙ ap (λ (z : Object). z.class) (some_eq (sym e ∙ f)))
set_keeps (a ∷ h) zero o x e q (suc k) y f = (y, f, refl)
set_keeps (a ∷ h) (suc i) o x e q zero y f = (y, f, refl)
set_keeps (a ∷ h) (suc i) o x e q (suc k) y f = set_keeps h i o x e q k y f

store_keeps : (h : Heap) (n : ℕ) (o x : Object) → get h n ≡ some o → x.class ≡ o.class → (k : ℕ) (y : Object) → get h k ≡ some y
    → (z : Object) × (get (store h n x) k ≡ some z) × (z.class ≡ y.class)
unfolding get store
store_keeps h zero o x e q k y f = none_some e
store_keeps h (suc i) o x e q zero y f = none_some f
store_keeps h (suc i) o x e q (suc k) y f = set_keeps h i o x e q k y f

pub store_ext : (h : Heap) (n : ℕ) (o x : Object) → get h n ≡ some o → x.class ≡ o.class → Ext h (store h n x)
store_ext h n o x e q = record { keeps = store_keeps h n o x e q }

pub store_fits : (M : Module) (h : Heap) (n : ℕ) (o x : Object) → get h n ≡ some o → x.class ≡ o.class
    → Fit M h x.cells (field_types (layout M.parents M.fields x.class))
    → HeapFits M h → HeapFits M (store h n x)
store_fits M h n o x e q p k = record {
  class = λ i y f. get_store h n x i y f (λ g. k.class i y g) (λ g. subst (λ (c : ℕ). (1 ≤ c) × (c ≤ length M.parents))
      (sym q ∙ ap (λ (z : Object). z.class) g) (k.class n o e));
  cells = λ i y f. get_store h n x i y f
      (λ g. fit_grow (store_ext h n o x e q) (k.cells i y g))
      (λ g. subst (λ (z : Object). Fit M (store h n x) z.cells (field_types (layout M.parents M.fields z.class))) g
      (fit_grow (store_ext h n o x e q) p));
}

-- a reference of a class: null, or an object of the class or a derived one
pub data Refers (M : Module) (h : Heap) (d : ℕ) : Value → Type 0 where
  to_null : Refers M h d vnull
  to_object : {n : ℕ} {o : Object} → get h n ≡ some o → Above M.parents d o.class → Refers M h d (vobject n)

class_above : {ps : List ℕ} {c d : ℕ} → 1 ≤ c → Under ps (class c) (class d) → Above ps d c
class_above h itself = here h
class_above h (derived a) = a

pub refers : {M : Module} {h : Heap} {v : Value} {d : ℕ} → HeapFits M h → Has M h v (class d) → Refers M h d v
unfolding type_of kind
refers {v = vint32 n} k p = let e : k32 ≡ reference = under_kind (has_under p) in apart cc
refers {v = vint64 n} k p = let e : k64 ≡ reference = under_kind (has_under p) in apart cc
refers {v = v_f n} k p = let e : k_f ≡ reference = under_kind (has_under p) in apart cc
refers {v = vnull} k p = to_null
refers {M} {h} {v = vobject n} {d} k p =
    let (o, e) = p.there n refl in
    to_object e (class_above (k.class n o e).0 (subst (λ (x : Object). Under M.parents (class x.class) (class d)) (object_is h n o e) (has_under p)))

-- what it leads to, unless it is null
pub record Leads (M : Module) (h : Heap) (v : Value) (d : ℕ) (n : ℕ) : Type 0 where
  pub via : v ≡ vobject n
  pub object : Object
  pub found : get h n ≡ some object
  pub is : object_at h n ≡ object
  pub above : Above M.parents d object.class

refers_leads : {M : Module} {h : Heap} {v : Value} {d : ℕ} → Refers M h d v → Holds (Leads M h v d) (not_null v)
unfolding not_null bits_in
refers_leads to_null = holds_test _ _ _ _ (omega arith) λ t. absurd t
refers_leads {h = h} (to_object {n = n} {o = o} e a) =
    holds_test _ _ _ _ (omega arith) λ _. holds_ok _ _ (record { via = refl; object = o; found = e; is = object_is h n o e; above = a })

pub leads : {M : Module} {h : Heap} {v : Value} {d : ℕ} → HeapFits M h → Has M h v (class d) → Holds (Leads M h v d) (not_null v)
leads k p = refers_leads (refers k p)
