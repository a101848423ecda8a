-- What a passed check says of a method: at each offset with a shape an instruction that passes, whose arrivals fit the shapes at their targets.
use mathlib.Core.Path.{◌≡◌, refl, sym, ap, ◌∙◌, subst}
use Prim.Native.Nat.{ℕ, zero, suc, ◌+◌, ◌≤◌, ◌<◌}
use native.Mathlib.Nat.{le_of_suc-le-suc}
use native.Mathlib.Omega.{arith}
use mathlib.Core.Bool.{Bool, true, false, ◌&&◌}
use mathlib.Core.Option.{Option, none, some}
use mathlib.Core.List.{List, [], ◌∷◌}
use lib.ListN.{length, get_or, set, replicate, length-set, length-replicate}
use lib.Dec.{T, ltb, eqb, eqb→eq, eqb_refl, leb→le, ltb→lt, nleb→lt}
use Rattle.model.specs.Answer.{ok, or_else, at, row, keep_if}
use Rattle.model.specs.Tables.{Method, Module}
use Rattle.model.specs.Loading.{load}
use Rattle.model.specs.Code.{Ins, decode, Act, operands}
use Rattle.model.specs.Check.{Shape, Shapes, Site, decode_from, starts, targets, all_start, find_operands, effect, falls, joined, meet, arrive, arrivals}
use Rattle.model.specs.Check.{shape_at, visit, visits, check_method, check_methods, check_module, check, found_at}
use Rattle.model.proofs.Hoare.{Yields, yields_ok, yields_bind, yields_then, yields_from, yields_need, yields_guard, yields_map, yields_blame}
use Rattle.model.proofs.Hoare.{yields_pick, yields_of, bind_inv, blame_inv, ok_eq, none_some, some_eq, only_inv, and_l, and_r, and_i, or_l, or_r, or_e}
use Rattle.model.proofs.Hoare.{implies, All, anil, acons, all_map}
use Rattle.model.proofs.Ancestors.{Below, bnil, below_refl, eq_tys_eq}
use Rattle.model.proofs.Decoding.{decode_advances}

-- the shape found at an offset
unfoldable pub look : Shapes → ℕ → Option Shape
look l o = get_or l o none

-- an arrival fits the shape found at its target
pub record Lands (ps : List ℕ) (found : ℕ → Option Shape) (o : ℕ) (S : Shape) : Type 0 where
  pub shape : Shape
  pub is : found o ≡ some shape
  pub below : Below ps S shape

-- an offset with a shape: what stands there, and where what it brings lands
pub record Visited (M : Module) (m : Method) (found : ℕ → Option Shape) (o : ℕ) (S : Shape) : Type 0 where
  pub ins : Ins
  pub next : ℕ
  pub act : Act
  pub inside : o < length m.code
  pub reads : decode m.code o ≡ some (record { ins = ins; next = next })
  pub finds : operands M m ins ≡ some act
  pub brings : Shape
  pub passes : effect M m act S ≡ ok brings
  pub away : All (λ t. Lands M.parents found t brings) (targets act)
  pub onward : T (falls act) → Lands M.parents found next brings

-- what the check of a method says: for the run, and that shapes stand just where instructions start
pub record Certificate (M : Module) (m : Method) (found : ℕ → Option Shape) : Type 0 where
  pub first : Lands M.parents found 0 []
  pub site : (o : ℕ) (S : Shape) → found o ≡ some S → Visited M m found o S
  pub sites : List (Site Ins)
  pub decodes : decode_from (length m.code) m.code 0 ≡ ok sites
  pub shaped : (o : ℕ) → T (starts sites o) → (S : Shape) × (found o ≡ some S)
  pub only : (o : ℕ) (S : Shape) → found o ≡ some S → T (starts sites o)

-- ---- (a) decoded

-- a list that begins at an offset
Heads : {A : Type 0} → ℕ → List (Site A) → Type 0
Heads o [] = ⊥
Heads o (s ∷ l) = s.offset ≡ o

heads_start : {A : Type 0} (o : ℕ) (l : List (Site A)) → Heads o l → T (starts l o)
unfolding Heads starts
heads_start o [] h = absurd h
heads_start o (s ∷ l) e = or_l (eqb s.offset o) (starts l o) (rw e (eqb_refl o))

record Reads (code : List ℕ) (all : List (Site Ins)) (s : Site Ins) : Type 0 where
  pub reads : decode code s.offset ≡ some (record { ins = s.what; next = s.next })
  pub inside : s.offset < length code
  pub next : s.next < length code → T (starts all s.next)

start_more : {A : Type 0} (s : Site A) (l : List (Site A)) (o : ℕ) → T (starts l o) → T (starts (s ∷ l) o)
unfolding starts
start_more s l o t = or_r (eqb s.offset o) (starts l o) t

reads_more : {code : List ℕ} {all : List (Site Ins)} (a s : Site Ins) → Reads code all s → Reads code (a ∷ all) s
reads_more {all = all} a s r = record { reads = r.reads; inside = r.inside; next = λ h. start_more a all s.next (r.next h) }

decoded : (n : ℕ) (code : List ℕ) (o : ℕ) → length code ≤ n + o → Yields (λ l. All (Reads code l) l × (o < length code → Heads o l)) (decode_from n code o)
unfolding decode_from Heads
decoded zero code o h = yields_ok _ _ _ (anil, λ k. absurd (omega arith))
decoded (suc n) code o h = yields_pick _ _ _ _
    (λ t. let k : length code ≤ o = leb→le (length code) o t in yields_ok _ _ _ (anil, λ j. absurd (omega arith)))
    (λ t. let k : o < length code = nleb→lt (length code) o t in
    yields_need _ _ _ _ λ d e.
    let a : o < d.next = (decode_advances code o d e).rises in
    yields_bind _ _ _ _ (decoded n code d.next (omega arith)) λ l q.
    yields_ok _ _ _ (
      acons (record { reads = e; inside = k; next = λ j. start_more _ l _ (heads_start _ l (q.1 j)) }) (all_map _ _ (reads_more _) q.0),
      λ _. refl,
    ))

start_inside : (code : List ℕ) {all l : List (Site Ins)} → All (Reads code all) l → (o : ℕ) → T (starts l o) → o < length code
unfolding starts
start_inside code anil o t = absurd t
start_inside code (acons {a = s} {l = l} p ps) o t =
    or_e (eqb s.offset o) (starts l o) t
    (λ h. subst (λ (x : ℕ). x < length code) (eqb→eq s.offset o h) p.inside) (λ h. start_inside code ps o h)

-- ---- (b) operands found

record Known (M : Module) (m : Method) (all : List (Site Ins)) (s : Site Act) : Type 0 where
  pub ins : Ins
  pub reads : decode m.code s.offset ≡ some (record { ins = ins; next = s.next })
  pub inside : s.offset < length m.code
  pub next : s.next < length m.code → T (starts all s.next)
  pub here : T (starts all s.offset)
  pub finds : operands M m ins ≡ some s.what
  pub aims : T (all_start all (targets s.what))

-- the same offsets
record Alike (l : List (Site Ins)) (k : List (Site Act)) : Type 0 where
  pub start : (o : ℕ) → T (starts l o) → T (starts k o)
  pub head : (o : ℕ) → Heads o l → Heads o k

alike_nil : Alike [] []
unfolding starts Heads
alike_nil = record { start = λ o t. t; head = λ o h. h }

alike_cons : (s : Site Ins) (t : Site Act) {l : List (Site Ins)} {k : List (Site Act)} → s.offset ≡ t.offset → Alike l k → Alike (s ∷ l) (t ∷ k)
unfolding starts Heads
alike_cons s t {l} {k} e a = record {
  start = λ o h. or_e (eqb s.offset o) (starts l o) h
      (λ i. or_l (eqb t.offset o) (starts k o) (subst (λ (x : ℕ). T (eqb x o)) e i)) (λ i. or_r (eqb t.offset o) (starts k o) (a.start o i));
  head = λ o q. sym e ∙ q;
}

known : (M : Module) (m : Method) (all : List (Site Ins)) {l : List (Site Ins)} → All (Reads m.code all) l
    → All (λ (s : Site Ins). T (starts all s.offset)) l
    → Yields (λ k. All (Known M m all) k × Alike l k) (find_operands M m all l)
unfolding find_operands
known M m all anil anil = yields_ok _ _ _ (anil, alike_nil)
known M m all (acons {a = s} {l = l} p ps) (acons h hs) =
    yields_need _ _ _ _ λ a e. yields_guard _ _ _ _ λ t. yields_bind _ _ _ _ (known M m all ps hs) λ k q.
    yields_ok _ _ _ (
      acons (record { ins = s.what; reads = p.reads; inside = p.inside; next = p.next; here = h; finds = e; aims = t }) q.0,
      alike_cons s _ refl q.1,
    )

all_start_lem : {A : Type 0} (l : List (Site A)) → All (λ (s : Site A). T (starts l s.offset)) l
all_start_lem [] = anil
all_start_lem {A} (s ∷ l) = acons (heads_start s.offset (s ∷ l) (unfold Heads in refl)) (all_map _ _ (λ (a : Site A). start_more s l a.offset) (all_start_lem l))

-- ---- (c) shapes

-- shapes found stay, and stand where instructions start
record Grown (all : List (Site Ins)) (l k : Shapes) : Type 0 where
  pub size : length k ≡ length l
  pub keeps : (p : ℕ) (S : Shape) → look l p ≡ some S → look k p ≡ some S
  pub only : (p : ℕ) (S : Shape) → look k p ≡ some S → ((R : Shape) → look l p ≡ some R → T (starts all p)) → T (starts all p)

grown_refl : (all : List (Site Ins)) (l : Shapes) → Grown all l l
grown_refl all l = record { size = refl; keeps = λ p S e. e; only = λ p S e f. f S e }

grown_trans : {all : List (Site Ins)} {l k j : Shapes} → Grown all l k → Grown all k j → Grown all l j
grown_trans a b = record {
  size = b.size ∙ a.size;
  keeps = λ p S e. b.keeps p S (a.keeps p S e);
  only = λ p S e f. b.only p S e (λ R q. a.only p R q f);
}

set_keeps : (l : Shapes) (o : ℕ) (a : Shape) → ((S : Shape) → look l o ≡ some S → S ≡ a) → (p : ℕ) (S : Shape) → look l p ≡ some S
    → look (set l o (some a)) p ≡ some S
unfolding look
set_keeps [] o a f p S e = none_some e
set_keeps (x ∷ l) zero a f zero S e = ap some (sym (f S e))
set_keeps (x ∷ l) zero a f (suc p) S e = e
set_keeps (x ∷ l) (suc o) a f zero S e = e
set_keeps (x ∷ l) (suc o) a f (suc p) S e = set_keeps l o a f p S e

set_here : (l : Shapes) (o : ℕ) (a : Shape) → o < length l → look (set l o (some a)) o ≡ some a
unfolding look
set_here [] o a h = absurd (omega arith)
set_here (x ∷ l) zero a h = refl
set_here (x ∷ l) (suc o) a h = set_here l o a (le_of_suc-le-suc h)

set_only : {X : Type 0} (l : Shapes) (o : ℕ) (a : Shape) (p : ℕ) (S : Shape) → look (set l o (some a)) p ≡ some S → (o ≡ p → X) → (look l p ≡ some S → X) → X
unfolding look
set_only [] o a p S e f g = none_some e
set_only (x ∷ l) zero a zero S e f g = f refl
set_only (x ∷ l) zero a (suc p) S e f g = g e
set_only (x ∷ l) (suc o) a zero S e f g = g e
set_only (x ∷ l) (suc o) a (suc p) S e f g = set_only l o a p S e (λ q. f (ap suc q)) g

set_grown : (all : List (Site Ins)) (l : Shapes) (o : ℕ) (a : Shape) → T (starts all o) → ((S : Shape) → look l o ≡ some S → S ≡ a)
    → Grown all l (set l o (some a))
set_grown all l o a t f = record {
  size = length-set l o (some a);
  keeps = set_keeps l o a f;
  only = λ p S e g. set_only l o a p S e (λ q. subst (λ (x : ℕ). T (starts all x)) q t) (λ q. g S q);
}

look_shape : (l : Shapes) (o : ℕ) (S : Shape) → look l o ≡ some S → S ≡ shape_at l o
unfolding look shape_at or_else
look_shape l o S e = rw e

lands_grow : {ps : List ℕ} {all : List (Site Ins)} {l k : Shapes} {o : ℕ} {S : Shape} → Grown all l k → Lands ps (look l) o S → Lands ps (look k) o S
lands_grow g h = record { shape = h.shape; is = g.keeps _ _ h.is; below = h.below }

meets : (ps : List ℕ) (all : List (Site Ins)) (l : Shapes) (o : ℕ) (S : Shape) → T (starts all o) → o < length l → (s : Option Shape) → look l o ≡ s
    → Yields (λ k. Grown all l k × Lands ps (look k) o S) (meet l o S s)
unfolding meet joined
meets ps all l o S t h none e =
    yields_ok _ _ _ (set_grown all l o S t (λ R q. none_some (sym e ∙ q)), record { shape = S; is = set_here l o S h; below = below_refl ps S })
meets ps all l o S t h (some R) e =
    yields_need _ _ _ _ λ J q.
    let (u, p) = only_inv _ _ _ q in
    let z : R ≡ J = some_eq p in
    let y : S ≡ J = eq_tys_eq S R u ∙ z in
    yields_ok _ _ _ (
      set_grown all l o J t (λ Q i. some_eq (sym i ∙ e) ∙ z),
      record { shape = J; is = set_here l o J h; below = subst (λ (x : Shape). Below ps S x) y (below_refl ps S) },
    )

arrives : (ps : List ℕ) (all : List (Site Ins)) (n : ℕ) (l : Shapes) (S : Shape) → length l ≡ n → {os : List ℕ} → All (λ o. T (starts all o) × (o < n)) os
    → Yields (λ k. Grown all l k × All (λ o. Lands ps (look k) o S) os) (arrive l S os)
unfolding arrive look
arrives ps all n l S z anil = yields_ok _ _ _ (grown_refl all l, anil)
arrives ps all n l S z (acons {a = o} h hs) =
    yields_bind _ _ _ _ (meets ps all l o S h.0 (rw z h.1) (look l o) refl) λ k q.
    yields_map _ _ _ (arrives ps all n k S (q.0.size ∙ z) hs) λ j r.
    (grown_trans q.0 r.0, acons (lands_grow r.0 q.1) r.1)

all_keep : {A : Type 0} (P : A → Type 0) (b : Bool) (x : A) {l : List A} → (T b → P x) → All P l → All P (keep_if b x l)
unfolding keep_if
all_keep P true x f ps = acons (f tt) ps
all_keep P false x f ps = ps

keep_all : {A : Type 0} (P : A → Type 0) (b : Bool) (x : A) (l : List A) → All P (keep_if b x l) → (T b → P x) × All P l
unfolding keep_if
keep_all P true x l (acons p ps) = (λ _. p, ps)
keep_all P false x l ps = (λ t. absurd t, ps)

-- at an instruction: its shape, and where what it brings lands
record Local (M : Module) (m : Method) (l : Shapes) (s : Site Act) : Type 0 where
  pub shape : Shape
  pub stands : look l s.offset ≡ some shape
  pub brings : Shape
  pub passes : effect M m s.what shape ≡ ok brings
  pub away : All (λ t. Lands M.parents (look l) t brings) (targets s.what)
  pub onward : T (falls s.what) → Lands M.parents (look l) s.next brings

local_grow : (M : Module) (m : Method) (all : List (Site Ins)) (l k : Shapes) → Grown all l k → (s : Site Act) → Local M m l s → Local M m k s
local_grow M m all l k g s h = record {
  shape = h.shape;
  stands = g.keeps _ _ h.stands;
  brings = h.brings;
  passes = h.passes;
  away = all_map _ _ (λ t a. lands_grow g a) h.away;
  onward = λ t. lands_grow g (h.onward t);
}

module _ (M : Module) (m : Method) (all : List (Site Ins)) (inside : (o : ℕ) → T (starts all o) → o < length m.code) where
  aimed : (os : List ℕ) → T (all_start all os) → All (λ o. T (starts all o) × (o < length m.code)) os
  unfolding all_start
  aimed [] t = anil
  aimed (o ∷ os) t =
      let h : T (starts all o) = and_l (starts all o) (all_start all os) t in
      acons (h, inside o h) (aimed os (and_r (starts all o) (all_start all os) t))

  -- the shapes after a visit, begun with the instruction's own
  abbrev settled : Shapes → ℕ → Shapes
  settled l o = set l o (some (shape_at l o))

  settled_grown : (l : Shapes) (o : ℕ) → T (starts all o) → Grown all l (settled l o)
  settled_grown l o t = set_grown all l o (shape_at l o) t (λ S e. look_shape l o S e)

  one_visit : (l : Shapes) → length l ≡ length m.code → (s : Site Act) → Known M m all s
      → Yields (λ k. Grown all (settled l s.offset) k × Local M m k s) (visit M m l s)
  unfolding visit arrivals
  one_visit l z s p =
      let b : Bool = falls s.what && ltb s.next (length m.code) in
      let g : Grown all l (settled l s.offset) = settled_grown l s.offset p.here in
      let y : length (settled l s.offset) ≡ length m.code = g.size ∙ z in
      yields_then _ _ _ λ S e.
      yields_bind _ _ _ _ (arrives M.parents all (length m.code) (settled l s.offset) S y
      (all_keep _ b s.next (λ t. let h : s.next < length m.code = ltb→lt s.next (length m.code)
      (and_r (falls s.what) (ltb s.next (length m.code)) t) in (p.next h, h))
      (aimed (targets s.what) p.aims))) λ k q.
      yields_guard _ _ _ _ λ u.
      let r = keep_all _ b s.next (targets s.what) q.1 in
      yields_ok _ _ _ (
        q.0,
        record {
          shape = shape_at l s.offset;
          stands = q.0.keeps _ _ (set_here l s.offset _ (rw z p.inside));
          brings = S;
          passes = e;
          away = r.1;
          onward = λ t. r.0 (and_i (falls s.what) (ltb s.next (length m.code)) t (implies (falls s.what) (ltb s.next (length m.code)) u t));
        },
      )

  visited : (l : Shapes) → length l ≡ length m.code → {ss : List (Site Act)} → All (Known M m all) ss
      → Yields (λ k. Grown all l k × All (Local M m k) ss) (visits M m l ss)
  unfolding visits
  visited l z anil = yields_ok _ _ _ (grown_refl all l, anil)
  visited l z (acons {a = s} p ps) =
      yields_bind _ _ _ _ (yields_blame _ _ _ (one_visit l z s p)) λ k q.
      let g : Grown all l k = grown_trans (settled_grown l s.offset p.here) q.0 in
      yields_map _ _ _ (visited k (g.size ∙ z) ps) λ j r.
      (grown_trans g r.0, acons (local_grow M m all k j r.0 s q.1) r.1)

  -- the first instruction's shape is what stood there
  first_shape : (l : Shapes) → length l ≡ length m.code → (o : ℕ) {ss : List (Site Act)} → All (Known M m all) ss → Heads o ss
      → Yields (λ k. look k o ≡ some (shape_at l o)) (visits M m l ss)
  unfolding visits Heads
  first_shape l z o anil e = absurd e
  first_shape l z o (acons {a = s} p ps) e =
      yields_bind _ _ _ _ (yields_blame _ _ _ (one_visit l z s p)) λ k q.
      let g : Grown all l k = grown_trans (settled_grown l s.offset p.here) q.0 in
      yields_map _ _ _ (visited k (g.size ∙ z) ps) λ j r.
      subst (λ (x : ℕ). look j x ≡ some (shape_at l x)) e (r.0.keeps _ _ (q.0.keeps _ _ (set_here l s.offset _ (rw z p.inside))))

-- ---- The certificate

site_of : (M : Module) (m : Method) (all : List (Site Ins)) (l : Shapes) {ss : List (Site Act)} → All (Known M m all) ss → All (Local M m l) ss
    → (o : ℕ) (S : Shape) → T (starts ss o) → look l o ≡ some S → Visited M m (look l) o S
unfolding starts
site_of M m all l anil anil o S t e = absurd t
site_of M m all l (acons {a = s} {l = ss} p ps) (acons q qs) o S t e =
    or_e (eqb s.offset o) (starts ss o) t
    (λ h. let z : s.offset ≡ o = eqb→eq s.offset o h in
    let y : q.shape ≡ S = some_eq (sym q.stands ∙ subst (λ (x : ℕ). look l x ≡ some S) (sym z) e) in
    subst (λ (x : ℕ). Visited M m (look l) x S) z (subst (λ (R : Shape). Visited M m (look l) s.offset R) y
    (record {
      ins = p.ins;
      next = s.next;
      act = s.what;
      inside = p.inside;
      reads = p.reads;
      finds = p.finds;
      brings = q.brings;
      passes = q.passes;
      away = q.away;
      onward = q.onward;
    })))
    (λ h. site_of M m all l ps qs o S h e)

shape_of : (M : Module) (m : Method) (l : Shapes) {ss : List (Site Act)} → All (Local M m l) ss → (o : ℕ) → T (starts ss o) → (S : Shape) × (look l o ≡ some S)
unfolding starts
shape_of M m l anil o t = absurd t
shape_of M m l (acons {a = s} {l = ss} q qs) o t =
    or_e (eqb s.offset o) (starts ss o) t
    (λ h. (q.shape, subst (λ (x : ℕ). look l x ≡ some q.shape) (eqb→eq s.offset o h) q.stands))
    (λ h. shape_of M m l qs o h)

none_yet : (n o : ℕ) → look (replicate n none) o ≡ none
unfolding look
none_yet zero o = refl
none_yet (suc n) zero = refl
none_yet (suc n) (suc o) = none_yet n o

none_shape : (n o : ℕ) → [] ≡ shape_at (replicate n none) o
unfolding shape_at or_else look
none_shape n o = rw (none_yet n o)

certified : (M : Module) (m : Method) → 0 < length m.code → Yields (λ l. Certificate M m (look l)) (check_method M m)
unfolding check_method
certified M m h =
    yields_then _ _ _ λ all a.
    let d = yields_of _ _ _ a (decoded (length m.code) m.code 0 (omega arith)) in
    yields_bind _ _ _ _ (known M m all d.0 (all_start_lem all)) λ ss k.
    yields_from _ _ λ l e.
    let inside = start_inside m.code d.0 in
    let z = length-replicate (length m.code) none in
    let v = yields_of _ _ _ e (visited M m all inside (replicate (length m.code) none) z k.0) in
    let f = yields_of _ _ _ e (first_shape M m all inside (replicate (length m.code) none) z 0 k.0 (k.1.head 0 (d.1 h))) in
    let only : (o : ℕ) (S : Shape) → look l o ≡ some S → T (starts all o) =
    λ o S q. v.0.only o S q (λ R r. none_some (sym (none_yet (length m.code) o) ∙ r)) in
    record {
      first = record { shape = []; is = f ∙ ap some (sym (none_shape (length m.code) 0)); below = bnil };
      site = λ o S q. site_of M m all l k.0 v.1 o S (k.1.start o (only o S q)) q;
      sites = all;
      decodes = a;
      shaped = λ o t. shape_of M m l v.1 o (k.1.start o t);
      only = only;
    }

-- ---- All methods

-- each method with the shapes found for it
pub record Checked (M : Module) (found : List Shapes) (i : ℕ) (m : Method) : Type 0 where
  pub shapes : Shapes
  pub is : at found i ≡ some shapes
  pub certificate : Certificate M m (look shapes)

checked_next : (M : Module) (k : Method) (ms : List Method) (l : Shapes) (found : List Shapes) → Certificate M k (look l)
    → ((i : ℕ) (m : Method) → at ms i ≡ some m → Checked M found i m)
    → (i : ℕ) (m : Method) → at (k ∷ ms) i ≡ some m → Checked M (l ∷ found) i m
unfolding at
checked_next M k ms l found c cs zero m e = record { shapes = l; is = refl; certificate = subst (λ (x : Method). Certificate M x (look l)) (some_eq e) c }
checked_next M k ms l found c cs (suc i) m e = let h = cs i m e in record { shapes = h.shapes; is = h.is; certificate = h.certificate }

all_checked : (M : Module) (r : ℕ) (ms : List Method) → ((i : ℕ) (m : Method) → at ms i ≡ some m → 0 < length m.code)
    → Yields (λ found. (i : ℕ) (m : Method) → at ms i ≡ some m → Checked M found i m) (check_methods M r ms)
unfolding check_methods at
all_checked M r [] h = yields_ok _ _ _ λ i m e. none_some e
all_checked M r (k ∷ ms) h =
    yields_bind _ _ _ _ (yields_blame _ _ _ (certified M k (h 0 k refl))) λ l c.
    yields_bind _ _ _ _ (all_checked M (suc r) ms (λ i m e. h (suc i) m e)) λ found cs.
    yields_ok _ _ _ (checked_next M k ms l found c cs)

-- a module that passes has a certificate for each method
pub certificates : (M : Module) (found : List Shapes) → ((r : ℕ) (m : Method) → row M.methods r ≡ some m → 0 < length m.code) → check_module M ≡ ok found
    → (r : ℕ) (m : Method) → row M.methods r ≡ some m → Certificate M m (found_at found r)
unfolding check_module row found_at or_else look
certificates M found h e zero m q = none_some q
certificates M found h e (suc i) m q =
    let c = yields_of _ _ _ e (all_checked M 1 M.methods (λ j k p. h (suc j) k p)) i m q in
    subst (λ (x : Option Shapes). Certificate M m (λ o. look (or_else x []) o)) (sym c.is) c.certificate

-- no method, no shapes
none_checked : (M : Module) (r : ℕ) (ms : List Method) → Yields (λ found. (i : ℕ) → at ms i ≡ none → at found i ≡ none) (check_methods M r ms)
unfolding check_methods at
none_checked M r [] = yields_ok _ _ _ λ i e. refl
none_checked M r (m ∷ ms) =
    yields_then _ _ _ λ l _. yields_bind _ _ _ _ (none_checked M (suc r) ms) λ found h. yields_ok _ _ _ (next l found h)
  where
    next : (l : Shapes) (found : List Shapes) → ((i : ℕ) → at ms i ≡ none → at found i ≡ none) → (i : ℕ) → at (m ∷ ms) i ≡ none → at (l ∷ found) i ≡ none
    next l found h zero e = none_some (sym e)
    next l found h (suc i) e = h i e

pub nowhere : (M : Module) (found : List Shapes) → check_module M ≡ ok found → (r : ℕ) → row M.methods r ≡ none → (o : ℕ) → found_at found r o ≡ none
unfolding check_module row found_at or_else
nowhere M found e zero q o = refl
nowhere M found e (suc i) q o = rw (yields_of _ _ _ e (none_checked M 1 M.methods) i q)

-- the check of tables and code is that of the module that they load to
pub check_module_lem : (tables code : List ℕ) (M : Module) (found : List Shapes) → load tables code ≡ ok M → check tables code ≡ ok found
    → check_module M ≡ ok found
unfolding check
check_module_lem tables code M found l c =
    let (N, c1, c2) = bind_inv _ _ _ c in
    subst (λ (x : Module). check_module x ≡ ok found) (ok_eq (sym (blame_inv _ _ _ c1) ∙ l)) c2
