-- How many cells the objects of a class have: as many as have a type.
use Prim.Native.Nat.{ℕ, zero, suc, ◌+◌, ◌*◌, ◌≤◌, ◌<◌}
use mathlib.Core.Path.{◌≡◌, refl, sym, ap, ◌∙◌}
use mathlib.Core.Bool.{Bool, true, false}
use mathlib.Core.Logic.{◌⊎◌, inl, inr}
use mathlib.Core.Option.{Option, some}
use mathlib.Core.List.{List, [], ◌∷◌, ◌++◌, map}
use native.Mathlib.Omega.{arith}
use native.Mathlib.Numerals.{add-one}
use lib.ListN.{get_or, get_or-eq_default, length, take, drop, length-take}
use lib.Dec.{leb, eqb}
use borrow.Author.Tests.{le-leb, lt-leb, eq-eqb, ne_eqb}
use Rattle.model.specs.Answer.{pick, at, row, keep_if, those}
use Rattle.model.specs.Tables.{Ty, int32, int64, F, null, class, byte_of, Field, Module, parent_of, is_own, layout_up, layout, field_types}
use Rattle.loaded.specs.Holds.{byte_at}
use Rattle.state.specs.View.{types_of}
use Rattle.state.specs.Order.{Named, AllNamed, Fine, HoldsTypes}
use Rattle.faithful.proofs.Lists.{le_or_lt, at_some, at_out}
use Rattle.faithful.proofs.Values.{named_at}
use Rattle.state_text.specs.Texts.{cell_of, counted, size_of}
use Rattle.state_text.proofs.Reading.{cell_in_lem, row_cell}
use Rattle.std.specs.Prelude.{◌==◌, not}
use Rattle.std.specs.List.{count_by}
use Rattle.std.proofs.lemmas.List.{take_all}
use Rattle.std.proofs.lemmas.List.Sums.{count_by_more_yes, count_by_more_no}

-- ---- The cells of a row

module _ (types : List ℕ) (k : ℕ) (row : List ℕ) (p : (i : ℕ) → get_or row i 0 ≡ cell_of 33 8 types k i) where
  -- as many of the first n have a type as are not 0
  size_row : (n : ℕ) → count_by (λ t. not (t == 0)) (take n row) ≡ size_of types k n
  unfolding size_of counted pick
  size_row zero = refl
  size_row (suc n) = rw (sym (add-one n)) (go (size_row n) (le_or_lt (length row) n) (eqb (get_or row n 0) 0) refl) where
    go : count_by (λ t. not (t == 0)) (take n row) ≡ size_of types k n → (length row ≤ n) ⊎ (n < length row) → (b : Bool) → eqb (get_or row n 0) 0 ≡ b
        → count_by (λ t. not (t == 0)) (take (n + 1) row) ≡ counted (size_of types k n) (cell_of 33 8 types k n)
    go m (inl h) b e =
        rw (take_all (n + 1) row (omega arith), sym (p n), get_or-eq_default row 0 h)
        (ap (count_by (λ t. not (t == 0))) (sym (take_all n row h)) ∙ m)
    go m (inr h) true e = rw (sym (p n), e) (count_by_more_no (λ t. not (t == 0)) row n 0 h (rw e) ∙ m)
    go m (inr h) false e = rw (sym (p n), e) (count_by_more_yes (λ t. not (t == 0)) row n 0 h (rw e) ∙ add-one _ ∙ ap suc m)

pub size_all : (types : List ℕ) (k : ℕ) (row : List ℕ) → length types ≡ 264 → row ≡ take 8 (drop (k * 8) types)
    → count_by (λ t. not (t == 0)) row ≡ size_of types k 8
size_all types k row e q =
    let few : length row ≤ 8 = rw q (omega (arith, length-take 8 (drop (k * 8) types))) in
    ap (count_by (λ t. not (t == 0))) (sym (take_all 8 row few)) ∙ size_row types k row (λ i. rw q (row_cell 33 8 types k e i)) 8

-- ---- The types of a class

pub byte_some : (o : Option Ty) (t : Ty) → o ≡ some t → byte_at o ≡ byte_of t
unfolding byte_at
byte_some o t e = rw e

byte_there : (t : Ty) → Named t → byte_of t ≡ 0 → ⊥
unfolding Named byte_of
byte_there int32 n e = omega arith
byte_there int64 n e = omega arith
byte_there F n e = omega arith
byte_there null n e = n
byte_there (class c) n e = omega arith

-- n types and then none
size_is : (types : List ℕ) (k n : ℕ) → ((i : ℕ) → i < n → cell_of 33 8 types k i ≡ 0 → ⊥) → ((i : ℕ) → n ≤ i → i < 8 → cell_of 33 8 types k i ≡ 0) → (m : ℕ) → m ≤ 8
    → size_of types k m ≡ pick (leb m n) m n
unfolding size_of counted pick
size_is types k n p q zero h = rw (le-leb 0 n (omega arith))
size_is types k n p q (suc m) h = rw (size_is types k n p q m (omega arith)) (go (le_or_lt (suc m) n) (le_or_lt m n)) where
  go : (suc m ≤ n) ⊎ (n < suc m) → (m ≤ n) ⊎ (n < m) → pick (eqb (cell_of 33 8 types k m) 0) (pick (leb m n) m n) (suc (pick (leb m n) m n)) ≡ pick (leb (suc m) n) (suc m) n
  go (inl l) (inl j) = rw (ne_eqb (cell_of 33 8 types k m) 0 (p m (omega arith)), le-leb m n j, le-leb (suc m) n l)
  go (inl l) (inr j) = absurd (omega arith)
  go (inr l) (inl j) = let e : m ≡ n = omega arith in rw (eq-eqb (cell_of 33 8 types k m) 0 (q m (omega arith) (omega arith)), le-leb m n j, lt-leb (suc m) n l) e
  go (inr l) (inr j) = rw (eq-eqb (cell_of 33 8 types k m) 0 (q m (omega arith) (omega arith)), lt-leb m n j, lt-leb (suc m) n l)

-- every type that a field is declared with has a byte
named_fields : (fs : List Field) → ((i : ℕ) (d : Field) → at fs i ≡ some d → Named d.type) → (p : Field → Bool) → AllNamed (field_types (those p fs))
unfolding AllNamed field_types those keep_if at
named_fields [] h p = tt
named_fields (d ∷ fs) h p = go (p d) (named_fields fs (λ i x e. h (suc i) x e) p) where
  go : (b : Bool) → AllNamed (map (λ f. f.type) (those p fs)) → AllNamed (map (λ f. f.type) (keep_if b d (those p fs)))
  go true n = (h 0 d refl, n)
  go false n = n

named_append : (fs gs : List Field) → AllNamed (field_types fs) → AllNamed (field_types gs) → AllNamed (field_types (fs ++ gs))
unfolding AllNamed field_types
named_append [] gs n k = k
named_append (d ∷ fs) gs n k = (n.0, named_append fs gs n.1 k)

module _ (M : Module) (fin : Fine M) where
  field_named : (i : ℕ) (d : Field) → at M.fields i ≡ some d → Named d.type
  unfolding row
  field_named i d e = (fin.field (suc i) d e).named

  up_named : (n c : ℕ) → AllNamed (field_types (layout_up M.parents M.fields n c))
  unfolding layout_up AllNamed field_types
  up_named zero c = tt
  up_named (suc n) zero = tt
  up_named (suc n) (suc c) =
      named_append (layout_up M.parents M.fields n (parent_of M.parents (suc c))) (those (is_own (suc c)) M.fields) (up_named n (parent_of M.parents (suc c)))
      (named_fields M.fields field_named (is_own (suc c)))

  types_named : (c : ℕ) → AllNamed (types_of M c)
  unfolding types_of layout
  types_named c = up_named c c

  pub size_read : (types statics : List ℕ) → HoldsTypes M types statics → (k : ℕ) → k ≤ 32 → size_of types k 8 ≡ length (types_of M k)
  unfolding pick byte_at
  size_read types statics hold k h =
      let few = fin.cells_few k in
      size_is types k (length (types_of M k))
      (λ i l z.
      let (t, a) = at_some (types_of M k) i l in
      byte_there t (named_at (types_of M k) i t (types_named k) a) (sym (byte_some _ t a) ∙ (sym (read i (omega arith)) ∙ z)))
      (λ i l j. read i j ∙ rw (at_out (types_of M k) i l))
      8 (omega arith)
      ∙ go (le_or_lt 8 (length (types_of M k)))
    where
      read : (i : ℕ) → i < 8 → cell_of 33 8 types k i ≡ byte_at (at (types_of M k) i)
      read i j = cell_in_lem 33 8 types k i (omega arith) j ∙ hold.cell_type k i h j

      go : (8 ≤ length (types_of M k)) ⊎ (length (types_of M k) < 8) → pick (leb 8 (length (types_of M k))) 8 (length (types_of M k)) ≡ length (types_of M k)
      go (inl l) = let few = fin.cells_few k in let e : 8 ≡ length (types_of M k) = omega arith in rw (le-leb 8 (length (types_of M k)) l) e
      go (inr l) = rw (lt-leb 8 (length (types_of M k)) l)
