-- Values and types as they are seen in cells.
use Prim.Native.Nat.{ℕ, zero, suc, ◌+◌, ◌-◌, ◌*◌, ◌%◌, ◌≤◌, ◌<◌}
use mathlib.Core.Path.{◌≡◌, refl, sym, ap, ◌∙◌}
use mathlib.Core.Bool.{Bool, true, false, ◌&&◌, ◌||◌}
use mathlib.Core.Logic.{◌⊎◌, inl, inr}
use mathlib.Core.Option.{none, some}
use mathlib.Core.List.{List, [], ◌∷◌, map}
use native.Mathlib.Omega.{arith}
use native.Mathlib.Nat.{add-zero, mod-eq_of_lt}
use lib.ListN.{length, get_or, set, get_or-eq_default}
use lib.Seq.{get_or-set_same, get_or-set_other}
use lib.Dec.{leb, ltb, eqb}
use borrow.Author.Tests.{le-leb, lt-leb, lt-ltb, le-ltb, eq-eqb, ne_eqb, eqb-true}
use Rattle.model.specs.Answer.{pick, or_else, map_option, at}
use Rattle.model.specs.Tables.{Ty, int32, int64, F, null, class, byte_of, eq_ty, Module, parent_of, climbs, descends}
use Rattle.model.specs.Operators.{kind, kind_number, fits, fits_class, refers_to}
use Rattle.model.specs.State.{Value, value, zero_of, bits_in, Heap, get, no_object, object_at, type_of, fits_value, kind_of}
use Rattle.state.specs.View.{Work, span, kind_by, kind_of_type, kind_of_byte, refer_to, value_by, shown, seen, types_of, place_in, heap_of}
use Rattle.state.specs.Order.{Named, HoldsAncestors}
use Rattle.state.specs.Work.{in_set, refers_w, fits_w}
use Rattle.faithful.proofs.Lists.{le_or_lt, and_l, get_d_span, get_d_span_out}

-- ---- Values

pub bits_value : (k b : ℕ) → bits_in (value_by k b) ≡ shown k b
unfolding bits_in value_by shown pick refer_to
bits_value zero zero = refl
bits_value zero (suc b) = refl
bits_value (suc zero) b = refl
bits_value (suc (suc zero)) b = refl
bits_value (suc (suc (suc k))) b = rw (ne_eqb (suc (suc (suc k))) 1 (λ e. omega arith))

pub kind_value : (h : Heap) (k b : ℕ) → kind_of h (value_by k b) ≡ kind_by k
unfolding kind_of type_of value_by kind_by kind refer_to
kind_value h zero zero = refl
kind_value h zero (suc b) = refl
kind_value h (suc zero) b = refl
kind_value h (suc (suc zero)) b = refl
kind_value h (suc (suc (suc k))) b = refl

pub kind_few : (t : Ty) → kind_of_type t ≤ 3
unfolding kind_of_type kind_number kind
kind_few int32 = omega arith
kind_few int64 = omega arith
kind_few F = omega arith
kind_few null = omega arith
kind_few (class c) = omega arith

pub byte_kind : (t : Ty) → kind_of_byte (byte_of t) ≡ kind_of_type t
unfolding kind_of_byte byte_of kind_of_type kind_number kind pick
byte_kind int32 = refl
byte_kind int64 = refl
byte_kind F = refl
byte_kind null = refl
byte_kind (class c) = rw (lt-ltb 3 (32 + c) (omega arith))

pub value_bits : (t : Ty) (n : ℕ) → (t ≡ int32 → n < 4294967296) → value_by (kind_of_type t) (bits_in (value t n)) ≡ value t n
unfolding value_by kind_of_type kind_number kind bits_in value refer_to
value_bits int32 n h = rw (mod-eq_of_lt (h refl))
value_bits int64 n h = refl
value_bits F n h = refl
value_bits null n h = refl
value_bits (class c) n h = refl

-- ---- Cells of declared types

-- the same cells are seen as the same values
pub seen_ext : (ts : List Ty) (l k : List ℕ) (a b : ℕ) → ((j : ℕ) → j < length ts → get_or l (a + j) 0 ≡ get_or k (b + j) 0) → seen ts l a ≡ seen ts k b
unfolding seen
seen_ext [] l k a b h = refl
seen_ext (t ∷ ts) l k a b h =
    let z : get_or l a 0 ≡ get_or k b 0 = simp add-zero at (h 0 (omega arith)) in
    let r : seen ts l (suc a) ≡ seen ts k (suc b) =
    seen_ext ts l k (suc a) (suc b) (λ j q. let x : suc a + j ≡ a + suc j = omega arith in let y : suc b + j ≡ b + suc j = omega arith in rw (x, y) (h (suc j) (omega arith))) in
    cc

-- of a type only its kind counts
pub seen_kinds : (ts us : List Ty) (l : List ℕ) (a : ℕ) → map kind_of_type ts ≡ map kind_of_type us → seen ts l a ≡ seen us l a
unfolding seen
seen_kinds [] [] l a e = refl
seen_kinds [] (u ∷ us) l a e = let z : ◌≡◌ {A = ℕ} 0 1 = cc in absurd (omega arith)
seen_kinds (t ∷ ts) [] l a e = let z : ◌≡◌ {A = ℕ} 0 1 = cc in absurd (omega arith)
seen_kinds (t ∷ ts) (u ∷ us) l a e =
    let p : kind_of_type t ≡ kind_of_type u = cc in
    let q : map kind_of_type ts ≡ map kind_of_type us = cc in
    rw (p, seen_kinds ts us l (suc a) q)

-- a load
pub seen_at : (ts : List Ty) (l : List ℕ) (a i : ℕ) (t : Ty) (d : Value) → at ts i ≡ some t → get_or (seen ts l a) i d ≡ value_by (kind_of_type t) (get_or l (a + i) 0)
unfolding seen at
seen_at [] l a i t d e = let z : ◌≡◌ {A = ℕ} 0 1 = cc in absurd (omega arith)
seen_at (u ∷ ts) l a zero t d e = let q : u ≡ t = cc in rw (q, add-zero)
seen_at (u ∷ ts) l a (suc i) t d e = let x : a + suc i ≡ suc a + i = omega arith in rw x (seen_at ts l (suc a) i t d e)

pub at_seen : (ts : List Ty) (l : List ℕ) (a i : ℕ) → at (seen ts l a) i ≡ map_option (λ t. value_by (kind_of_type t) (get_or l (a + i) 0)) (at ts i)
unfolding seen at map_option
at_seen [] l a i = refl
at_seen (t ∷ ts) l a zero = rw add-zero
at_seen (t ∷ ts) l a (suc i) = let x : a + suc i ≡ suc a + i = omega arith in rw x (at_seen ts l (suc a) i)

-- a store
pub seen_set : (ts : List Ty) (l : List ℕ) (a i b : ℕ) (t : Ty) → at ts i ≡ some t → a + i < length l → seen ts (set l (a + i) b) a ≡ set (seen ts l a) i (value_by (kind_of_type t) b)
unfolding seen at
seen_set [] l a i b t e h = let z : ◌≡◌ {A = ℕ} 0 1 = cc in absurd (omega arith)
seen_set (u ∷ ts) l a zero b t e h =
    let q : u ≡ t = cc in
    let x : get_or (set l (a + 0) b) a 0 ≡ b = simp add-zero (get_or-set_same l a b 0 (omega arith)) in
    let y : seen ts (set l (a + 0) b) (suc a) ≡ seen ts l (suc a) = seen_ext ts _ _ _ _ (λ j k. get_or-set_other l (a + 0) (suc a + j) b 0 (λ z. omega arith)) in
    rw (x, y, q)
seen_set (u ∷ ts) l a (suc i) b t e h =
    let x : a + suc i ≡ suc a + i = omega arith in
    let y : get_or (set l (suc a + i) b) a 0 ≡ get_or l a 0 = get_or-set_other l (suc a + i) a b 0 (λ z. omega arith) in
    rw x (rw (y, seen_set ts l (suc a) i b t e (omega arith)))

zero_value : (t : Ty) → value_by (kind_of_type t) 0 ≡ zero_of t
unfolding value_by kind_of_type kind_number kind zero_of value refer_to
zero_value int32 = refl
zero_value int64 = refl
zero_value F = refl
zero_value null = refl
zero_value (class c) = refl

-- cleared cells
pub seen_zeros : (ts : List Ty) (l : List ℕ) (a : ℕ) → ((j : ℕ) → j < length ts → get_or l (a + j) 0 ≡ 0) → seen ts l a ≡ map zero_of ts
unfolding seen
seen_zeros [] l a h = refl
seen_zeros (t ∷ ts) l a h =
    let z : get_or l a 0 ≡ 0 = simp add-zero at (h 0 (omega arith)) in
    let r : seen ts l (suc a) ≡ map zero_of ts = seen_zeros ts l (suc a) (λ j q. let x : suc a + j ≡ a + suc j = omega arith in rw x (h (suc j) (omega arith))) in
    rw (z, r, zero_value t)

pub length_seen : (ts : List Ty) (l : List ℕ) (a : ℕ) → length (seen ts l a) ≡ length ts
unfolding seen
length_seen [] l a = refl
length_seen (t ∷ ts) l a = ap suc (length_seen ts l (suc a))

-- ---- Classes of objects

-- a class that descends from itself or from another is a row
pub climbs_row : (ps : List ℕ) (c d : ℕ) → descends ps c d ≡ true → 0 < c
unfolding descends climbs
climbs_row ps zero d e = let y : ◌≡◌ {A = ℕ} 0 1 = cc in absurd (omega arith)
climbs_row ps (suc c) d e = omega arith

place_class : (M : Module) (classes heap : List ℕ) (r : ℕ) → (or_else (place_in M classes heap r) no_object).class ≡ get_or classes r 0
unfolding place_in or_else no_object pick
place_class M classes heap r = go (eqb (get_or classes r 0) 0) refl where
  go : (b : Bool) → eqb (get_or classes r 0) 0 ≡ b → (or_else (pick b none (some (record { class = get_or classes r 0; cells = seen (types_of M (get_or classes r 0)) heap (r * 8) }))) no_object).class ≡ get_or classes r 0
  go true e = sym (eqb-true _ _ e)
  go false e = refl

-- the place with an index
pub place_seen : (M : Module) (classes heap : List ℕ) (n : ℕ) → length classes ≡ 256 → get_or (span (place_in M classes heap) 0 256) n none ≡ place_in M classes heap n
unfolding place_in pick
place_seen M classes heap n l = go (le_or_lt 256 n) where
  go : (256 ≤ n) ⊎ (n < 256) → get_or (span (place_in M classes heap) 0 256) n none ≡ place_in M classes heap n
  go (inl h) =
      let e : get_or classes n 0 ≡ 0 = get_or-eq_default classes 0 (omega arith) in
      get_d_span_out (place_in M classes heap) 0 256 n none h ∙ rw e
  go (inr h) = let e : 0 + n ≡ n = omega arith in get_d_span (place_in M classes heap) 0 256 n none h ∙ rw e

pub class_seen : (M : Module) (c : Work) (n : ℕ) → length c.classes ≡ 256 → (object_at (heap_of M c) (suc n)).class ≡ get_or c.classes n 0
unfolding object_at get heap_of
class_seen M c n l = rw (place_seen M c.classes c.heap n l) (place_class M c.classes c.heap n)

-- ---- Types of cells

number_type : (h : Heap) (k b n : ℕ) → k ≤ 3 → 0 < n → n ≤ 3 → eqb (byte_of (type_of h (value_by k b))) n ≡ eqb k n
unfolding type_of value_by byte_of refer_to
number_type h zero zero n p q r = refl
number_type h zero (suc b) n p q r = rw (ne_eqb (32 + (object_at h (suc b)).class) n (λ e. omega arith), ne_eqb 0 n (λ e. omega arith))
number_type h (suc zero) b n p q r = refl
number_type h (suc (suc zero)) b n p q r = refl
number_type h (suc (suc (suc k))) b n p q r = let e : k ≡ 0 = omega arith in rw e

or_false : (b : Bool) → (b || false) ≡ b
or_false true = refl
or_false false = refl

or_twice : (a b : Bool) → (a || (a || b)) ≡ (a || b)
or_twice true b = refl
or_twice false b = refl

same_eqb : (x d : ℕ) → eqb (32 + x) (32 + d) ≡ eqb x d
same_eqb x d = go (eqb x d) refl where
  go : (b : Bool) → eqb x d ≡ b → eqb (32 + x) (32 + d) ≡ b
  go true e = let q : x ≡ d = eqb-true _ _ e in eq-eqb (32 + x) (32 + d) (omega arith)
  go false e = ne_eqb (32 + x) (32 + d) (λ q. let w : x ≡ d = omega arith in let y : eqb x d ≡ true = eq-eqb _ _ w in let z : ◌≡◌ {A = ℕ} 0 1 = cc in omega arith)

class_twice : (ps : List ℕ) (x d : ℕ) → 0 < d → (eqb (32 + x) (32 + d) || climbs ps x x d) ≡ climbs ps x x d
unfolding climbs
class_twice ps zero d h = rw (ne_eqb (32 + 0) (32 + d) (λ e. omega arith))
class_twice ps (suc x) d h = rw (same_eqb (suc x) d) (or_twice (eqb (suc x) d) (climbs ps x (parent_of ps (suc x)) d))

no_class : (ps : List ℕ) (d : ℕ) → climbs ps 0 0 d ≡ false
unfolding climbs
no_class ps d = refl

-- a class in the set of another is the same or one that it descends from
module _ (M : Module) (ancestors : List ℕ) (hold : HoldsAncestors M.parents ancestors) (c : Work) (long : length c.classes ≡ 256) (few : (i : ℕ) → get_or c.classes i 0 ≤ 32) where
  -- a reference to the class d, for which the number t stands in the sets
  refers_as : (b t d : ℕ) → 0 < d → ((k : ℕ) → k ≤ 32 → in_set (get_or ancestors k 0) (t % 64) ≡ descends M.parents k d) → fits_value M (heap_of M c) (refer_to b) (class d) ≡ refers_w ancestors c.classes b t
  unfolding fits_value fits fits_class refers_to refers_w refer_to eq_ty byte_of type_of descends pick
  refers_as zero t d h s = rw (ne_eqb 0 (32 + d) (λ e. omega arith)) refl
  refers_as (suc n) t d h s = rw (class_seen M c n long, class_twice M.parents (get_or c.classes n 0) d h) (go (le_or_lt 256 n)) where
    go : (256 ≤ n) ⊎ (n < 256)
        → climbs M.parents (get_or c.classes n 0) (get_or c.classes n 0) d ≡ pick (ltb 256 (suc n)) false (eqb (suc n) 0 || in_set (get_or ancestors (get_or c.classes (suc n - 1) 0) 0) (t % 64))
    go (inl l) =
        let e : get_or c.classes n 0 ≡ 0 = get_or-eq_default c.classes 0 (omega arith) in
        rw (lt-ltb 256 (suc n) (omega arith), e) (no_class M.parents d)
    go (inr l) =
        let x : suc n - 1 ≡ n = omega arith in
        rw (le-ltb 256 (suc n) (omega arith), ne_eqb (suc n) 0 (λ e. omega arith), x) (sym (s (get_or c.classes n 0) (few n)))

  pub refers_seen : (b d : ℕ) → 0 < d → d ≤ 32 → fits_value M (heap_of M c) (refer_to b) (class d) ≡ refers_w ancestors c.classes b d
  refers_seen b d h k = refers_as b d d h (λ x q. let e : d % 64 ≡ d = mod-eq_of_lt (omega arith) in rw e (hold.by_row x d q h k))

  pub refers_type : (b d : ℕ) → 0 < d → d ≤ 32 → fits_value M (heap_of M c) (refer_to b) (class d) ≡ refers_w ancestors c.classes b (32 + d)
  refers_type b d h k = refers_as b (32 + d) d h (λ x q. hold.by_type x d q h k)

  fits_number : (k b : ℕ) (t : Ty) → k ≤ 3 → 0 < byte_of t → byte_of t ≤ 3 → fits_class M.parents (type_of (heap_of M c) (value_by k b)) t ≡ false
      → fits_value M (heap_of M c) (value_by k b) t ≡ fits_w ancestors c.classes k b (byte_of t)
  unfolding fits_value fits eq_ty fits_w pick
  fits_number k b t p q r e = rw (e, le-leb (byte_of t) 3 r) (or_false _ ∙ (number_type (heap_of M c) k b (byte_of t) p q r ∙ sym (picked (eqb k (byte_of t))))) where
    picked : (x : Bool) → pick x true false ≡ x
    picked true = refl
    picked false = refl

  fits_class_lem : (k b d : ℕ) → k ≤ 3 → 0 < d → d ≤ 32 → fits_value M (heap_of M c) (value_by k b) (class d) ≡ fits_w ancestors c.classes k b (32 + d)
  unfolding value_by pick fits_value fits eq_ty byte_of type_of fits_class refers_to fits_w
  fits_class_lem zero b d p h q = rw (ne_eqb 0 (32 + d) (λ e. omega arith), lt-leb (32 + d) 3 (omega arith)) (refers_type b d h q)
  fits_class_lem (suc zero) b d p h q = rw (ne_eqb 1 (32 + d) (λ e. omega arith), lt-leb (32 + d) 3 (omega arith))
  fits_class_lem (suc (suc zero)) b d p h q = rw (ne_eqb 2 (32 + d) (λ e. omega arith), lt-leb (32 + d) 3 (omega arith))
  fits_class_lem (suc (suc (suc k))) b d p h q =
      rw (ne_eqb 3 (32 + d) (λ e. omega arith), ne_eqb (suc (suc (suc k))) (32 + d) (λ e. omega arith), lt-leb (32 + d) 3 (omega arith), ne_eqb (suc (suc (suc k))) 0 (λ e. omega arith))

  pub fits_seen : (k b : ℕ) (t : Ty) → k ≤ 3 → Named t → fits_value M (heap_of M c) (value_by k b) t ≡ fits_w ancestors c.classes k b (byte_of t)
  unfolding Named fits_class byte_of
  fits_seen k b int32 p n = fits_number k b int32 p (omega arith) (omega arith) refl
  fits_seen k b int64 p n = fits_number k b int64 p (omega arith) (omega arith) refl
  fits_seen k b F p n = fits_number k b F p (omega arith) (omega arith) refl
  fits_seen k b null p n = absurd n
  fits_seen k b (class d) p n = fits_class_lem k b d p n.0 n.1

-- a cell that fits a type is seen by that type's kind
pub fits_kind : (ancestors classes : List ℕ) (k b t : ℕ) → k ≤ 3 → fits_w ancestors classes k b t ≡ true → k ≡ kind_of_byte t
unfolding kind_of_byte fits_w pick
fits_kind ancestors classes k b t h e = go (eqb k t) refl (le_or_lt t 3) e where
  go : (x : Bool) → eqb k t ≡ x → (t ≤ 3) ⊎ (3 < t) → pick x true (pick (leb t 3) false (eqb k 0 && refers_w ancestors classes b t)) ≡ true → k ≡ pick (ltb 3 t) 0 t
  go true q (inl l) r = rw (le-ltb 3 t l) (eqb-true k t q)
  go true q (inr l) r = let w : k ≡ t = eqb-true k t q in absurd (omega arith)
  go false q (inl l) r = let w : pick (leb t 3) false (eqb k 0 && refers_w ancestors classes b t) ≡ false = rw (le-leb t 3 l) refl in let z : ◌≡◌ {A = ℕ} 0 1 = cc in absurd (omega arith)
  go false q (inr l) r = rw (lt-ltb 3 t l) (eqb-true k 0 (and_l (eqb k 0) (refers_w ancestors classes b t) (rw (lt-leb t 3 l) at r)))
