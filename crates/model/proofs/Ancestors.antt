-- Ancestors as a relation, fitting as a relation, and the layout of a derived class.
use mathlib.Core.Path.{◌≡◌, refl, ap, ap₂, subst}
use Prim.Native.Nat.{ℕ, zero, suc, ◌≤◌, ◌<◌}
use native.Mathlib.Nat.{le_refl}
use native.Mathlib.Omega.{arith}
use mathlib.Core.Bool.{true}
use mathlib.Core.Option.{some}
use mathlib.Core.List.{List, [], ◌∷◌, ◌++◌}
use lib.Dec.{T, eqb, eqb→eq, eqb_refl}
use Rattle.model.specs.Answer.{at, those}
use Rattle.model.specs.Tables.{Ty, int32, int64, F, null, class, byte_of, eq_ty, eq_tys, Field, parent_of, climbs, descends, is_own, layout_up, layout}
use Rattle.model.specs.Operators.{refers_to, fits_class, fits, kind}
use Rattle.model.proofs.Rows.{at_append}
use Rattle.model.proofs.Hoare.{and_l, and_r, or_l, or_r, or_e}

-- parents have smaller rows
abbrev pub Falls : List ℕ → Type 0
Falls ps = (c : ℕ) → parent_of ps (suc c) ≤ c

-- d is c or an ancestor of it
pub data Above (ps : List ℕ) (d : ℕ) : ℕ → Type 0 where
  here : 0 < d → Above ps d d
  up : {c : ℕ} → Above ps d (parent_of ps (suc c)) → Above ps d (suc c)

pub above_trans : {ps : List ℕ} {c b d : ℕ} → Above ps c b → Above ps d c → Above ps d b
above_trans (here h) q = q
above_trans (up p) q = up (above_trans p q)

pub above_pos : {ps : List ℕ} {d c : ℕ} → Above ps d c → 0 < c
above_pos (here h) = h
above_pos (up p) = omega arith

climbs_above : (ps : List ℕ) (n c d : ℕ) → T (climbs ps n c d) → Above ps d c
unfolding climbs
climbs_above ps zero c d t = absurd t
climbs_above ps (suc n) zero d t = absurd t
climbs_above ps (suc n) (suc c) d t =
    or_e (eqb (suc c) d) (climbs ps n (parent_of ps (suc c)) d) t
    (λ s. let e : suc c ≡ d = eqb→eq (suc c) d s in rw e (here (omega arith)))
    (λ s. up (climbs_above ps n (parent_of ps (suc c)) d s))

pub descends_above : (ps : List ℕ) (c d : ℕ) → T (descends ps c d) → Above ps d c
unfolding descends
descends_above ps c d t = climbs_above ps c c d t

above_climbs : (ps : List ℕ) → Falls ps → (n c d : ℕ) → c ≤ n → Above ps d c → T (climbs ps n c d)
unfolding climbs
above_climbs ps w zero c d le p = let h : 0 < c = above_pos p in absurd (omega arith)
above_climbs ps w (suc n) zero d le p = let h : 0 < 0 = above_pos p in absurd (omega arith)
above_climbs ps w (suc n) (suc c) d le (here h) = or_l (eqb (suc c) (suc c)) (climbs ps n (parent_of ps (suc c)) (suc c)) (eqb_refl (suc c))
above_climbs ps w (suc n) (suc c) d le (up p) =
    let h : parent_of ps (suc c) ≤ c = w c in
    or_r (eqb (suc c) d) (climbs ps n (parent_of ps (suc c)) d) (above_climbs ps w n (parent_of ps (suc c)) d (omega arith) p)

pub above_descends : (ps : List ℕ) → Falls ps → (c d : ℕ) → Above ps d c → T (descends ps c d)
unfolding descends
above_descends ps w c d p = above_climbs ps w c c d (le_refl c) p

-- ---- Fitting

byte_inj : (t u : Ty) → byte_of t ≡ byte_of u → t ≡ u
unfolding byte_of
byte_inj int32 int32 e = refl
byte_inj int32 int64 e = absurd (omega arith)
byte_inj int32 F e = absurd (omega arith)
byte_inj int32 null e = absurd (omega arith)
byte_inj int32 (class d) e = absurd (omega arith)
byte_inj int64 int32 e = absurd (omega arith)
byte_inj int64 int64 e = refl
byte_inj int64 F e = absurd (omega arith)
byte_inj int64 null e = absurd (omega arith)
byte_inj int64 (class d) e = absurd (omega arith)
byte_inj F int32 e = absurd (omega arith)
byte_inj F int64 e = absurd (omega arith)
byte_inj F F e = refl
byte_inj F null e = absurd (omega arith)
byte_inj F (class d) e = absurd (omega arith)
byte_inj null int32 e = absurd (omega arith)
byte_inj null int64 e = absurd (omega arith)
byte_inj null F e = absurd (omega arith)
byte_inj null null e = refl
byte_inj null (class d) e = absurd (omega arith)
byte_inj (class c) int32 e = absurd (omega arith)
byte_inj (class c) int64 e = absurd (omega arith)
byte_inj (class c) F e = absurd (omega arith)
byte_inj (class c) null e = absurd (omega arith)
byte_inj (class c) (class d) e = ap class (omega arith)

pub eq_ty_eq : (t u : Ty) → T (eq_ty t u) → t ≡ u
unfolding eq_ty
eq_ty_eq t u h = byte_inj t u (eqb→eq (byte_of t) (byte_of u) h)

pub eq_tys_eq : (s u : List Ty) → T (eq_tys s u) → s ≡ u
unfolding eq_tys
eq_tys_eq [] [] h = refl
eq_tys_eq [] (t ∷ ts) h = absurd h
eq_tys_eq (t ∷ ts) [] h = absurd h
eq_tys_eq (t ∷ ts) (u ∷ us) h =
    ap₂ {C = List Ty} ◌∷◌ (eq_ty_eq t u (and_l (eq_ty t u) (eq_tys ts us) h)) (eq_tys_eq ts us (and_r (eq_ty t u) (eq_tys ts us) h))

-- a type that fits another: itself, null a class, a class an ancestor
pub data Under (ps : List ℕ) : Ty → Ty → Type 0 where
  itself : {t : Ty} → Under ps t t
  nothing : {d : ℕ} → Under ps null (class d)
  derived : {c d : ℕ} → Above ps d c → Under ps (class c) (class d)

pub under_trans : {ps : List ℕ} {s t u : Ty} → Under ps s t → Under ps t u → Under ps s u
under_trans itself q = q
under_trans nothing itself = nothing
under_trans nothing (derived q) = nothing
under_trans (derived p) itself = derived p
under_trans (derived p) (derived q) = derived (above_trans p q)

class_under : (ps : List ℕ) (t u : Ty) → T (fits_class ps t u) → Under ps t u
unfolding fits_class refers_to
class_under ps t int32 h = absurd h
class_under ps t int64 h = absurd h
class_under ps t F h = absurd h
class_under ps t null h = absurd h
class_under ps int32 (class d) h = absurd h
class_under ps int64 (class d) h = absurd h
class_under ps F (class d) h = absurd h
class_under ps null (class d) h = nothing
class_under ps (class c) (class d) h = derived (descends_above ps c d h)

pub fits_under : (ps : List ℕ) (t u : Ty) → T (fits ps t u) → Under ps t u
unfolding fits
fits_under ps t u h = or_e (eq_ty t u) (fits_class ps t u) h (λ s. subst (λ x. Under ps t x) (eq_ty_eq t u s) itself) (λ s. class_under ps t u s)

pub under_fits : (ps : List ℕ) → Falls ps → (t u : Ty) → Under ps t u → T (fits ps t u)
unfolding fits eq_ty fits_class refers_to
under_fits ps w t u itself = or_l (eq_ty t t) (fits_class ps t t) (eqb_refl (byte_of t))
under_fits ps w t u (nothing {d = d}) = or_r (eq_ty null (class d)) true tt
under_fits ps w t u (derived {c = c} {d = d} p) = or_r (eq_ty (class c) (class d)) (descends ps c d) (above_descends ps w c d p)

pub under_kind : {ps : List ℕ} {t u : Ty} → Under ps t u → kind t ≡ kind u
unfolding kind
under_kind itself = refl
under_kind nothing = refl
under_kind (derived p) = refl

-- a shape each of whose types fits another's
pub data Below (ps : List ℕ) : List Ty → List Ty → Type 0 where
  bnil : Below ps [] []
  bcons : {t u : Ty} {S R : List Ty} → Under ps t u → Below ps S R → Below ps (t ∷ S) (u ∷ R)

pub below_refl : (ps : List ℕ) (S : List Ty) → Below ps S S
below_refl ps [] = bnil
below_refl ps (t ∷ S) = bcons itself (below_refl ps S)

-- ---- Layouts

layout_fuel : (ps : List ℕ) (fs : List Field) → Falls ps → (n k c : ℕ) → c ≤ n → c ≤ k → layout_up ps fs n c ≡ layout_up ps fs k c
unfolding layout_up
layout_fuel ps fs w zero zero c p q = refl
layout_fuel ps fs w zero (suc k) zero p q = refl
layout_fuel ps fs w zero (suc k) (suc c) p q = absurd (omega arith)
layout_fuel ps fs w (suc n) zero zero p q = refl
layout_fuel ps fs w (suc n) zero (suc c) p q = absurd (omega arith)
layout_fuel ps fs w (suc n) (suc k) zero p q = refl
layout_fuel ps fs w (suc n) (suc k) (suc c) p q =
    let h : parent_of ps (suc c) ≤ c = w c in
    ap (λ (l : List Field). l ++ those (is_own (suc c)) fs) (layout_fuel ps fs w n k (parent_of ps (suc c)) (omega arith) (omega arith))

-- a class's layout is its parent's, then its own fields
pub layout_parent : (ps : List ℕ) (fs : List Field) → Falls ps → (c : ℕ)
    → layout ps fs (suc c) ≡ layout ps fs (parent_of ps (suc c)) ++ those (is_own (suc c)) fs
unfolding layout layout_up
layout_parent ps fs w c =
    let h : parent_of ps (suc c) ≤ c = w c in
    ap (λ (l : List Field). l ++ those (is_own (suc c)) fs) (layout_fuel ps fs w c (parent_of ps (suc c)) (parent_of ps (suc c)) h (le_refl _))

-- a field of a class has the same cell in every class that descends from it
pub layout_prefix : (ps : List ℕ) (fs : List Field) → Falls ps → {d c : ℕ} → Above ps d c → (i : ℕ) (f : Field) → at (layout ps fs d) i ≡ some f
    → at (layout ps fs c) i ≡ some f
layout_prefix ps fs w (here h) i f e = e
layout_prefix ps fs w (up {c = c} p) i f e = rw (layout_parent ps fs w c) (at_append _ _ i f (layout_prefix ps fs w p i f e))
