-- The arrays wiped at the end are the layout of the model's state.
use Prim.Native.Nat.{ℕ, zero, suc, ◌+◌, ◌-◌, ◌*◌, ◌/◌, ◌%◌, ◌≤◌, ◌<◌}
use mathlib.Core.Path.{◌≡◌, refl, sym, ap, ◌∙◌}
use mathlib.Core.Bool.{Bool, true, false, not, ◌&&◌}
use mathlib.Core.Logic.{◌⊎◌, inl, inr}
use mathlib.Core.Option.{Option, none, some}
use mathlib.Core.List.{List, [], ◌∷◌, ◌++◌, map}
use native.Mathlib.Omega.{arith}
use native.Mathlib.Nat.{div-add-mod', mod-lt, mod-eq_of_lt}
use lib.ListN.{length, get_or}
use lib.Dec.{leb, ltb, eqb}
use borrow.Author.Tests.{lt-ltb, le-ltb, eq-eqb, ne_eqb, eqb-true, leb-true}
use Rattle.model.specs.Answer.{pick, map_option, at, row, keep_if, those}
use Rattle.model.specs.Tables.{Ty, int32, int64, F, null, class, byte_of, Field, Method, Module, method_at, arguments, parent_of, is_own, layout_up, layout, field_types, is_static_field}
use Rattle.model.specs.Loading.{within}
use Rattle.model.specs.Operators.{kind, kind_number, flag}
use Rattle.model.specs.State.{Object}
use Rattle.loaded.specs.Holds.{byte_at, method_cell, Holds}
use Rattle.loaded.specs.declared.Loaded.{Loaded}
use Rattle.state.specs.View.{Work, down, span, kind_of_type, refer_to, value_by, seen, cell, frame_at, depth_of, method_of, waits_of, types_of, static_types, place_in, heap_of, mark_in, marks_of}
use Rattle.state.specs.Order.{Named, AllNamed, Fine, HoldsTypes, GoodMarks, GoodHeap}
use Rattle.state.specs.Layout.{bottom, from, signed32, cell_in, kind_in, frame_cell, frame_kind, object_cell, mark_at, lay_out, tidy_bits, tidy_byte, tidy_cell, tidy_kind, tidy_cells, tidy_kinds, tidy_statics, tidy_heap, tidy}
use Rattle.faithful.proofs.Lists.{le_or_lt, is_or_not, length_down, length_span, at_span, at_out, span_ext, span_all}
use Rattle.faithful.proofs.Seen.{at_seen, place_seen}
use Rattle.faithful.proofs.Rows.{arguments_named, locals_named}
use Rattle.faithful.proofs.Values.{named_at}

-- ---- Lists laid out

-- from the bottom of a list that goes down
bottom_down : {A : Type 0} (f : ℕ → A) (n j : ℕ) → bottom (down f n) j ≡ pick (ltb j n) (some (f j)) none
unfolding bottom down pick
bottom_down f zero j = rw (le-ltb j 0 (omega arith))
bottom_down f (suc n) j = go (le_or_lt n j) (le_or_lt j n) (bottom_down f n j) where
  go : (n ≤ j) ⊎ (j < n) → (j ≤ n) ⊎ (n < j) → bottom (down f n) j ≡ pick (ltb j n) (some (f j)) none → pick (eqb (length (down f n)) j) (some (f n)) (bottom (down f n) j) ≡ pick (ltb j (suc n)) (some (f j)) none
  go (inl l) (inl k) r = let e : n ≡ j = omega arith in rw (length_down f n, eq-eqb n j e, lt-ltb j (suc n) (omega arith)) (rw e)
  go (inl l) (inr k) r = rw (length_down f n, ne_eqb n j (λ e. omega arith), r, le-ltb j n l, le-ltb j (suc n) (omega arith))
  go (inr l) k r = rw (length_down f n, ne_eqb n j (λ e. omega arith), r, lt-ltb j n l, lt-ltb j (suc n) (omega arith))

from_pick : {A : Type 0} (g : A → ℕ) (b : Bool) (a : A) → from g (pick b (some a) none) ≡ pick b (g a) 0
unfolding from pick
from_pick g true a = refl
from_pick g false a = refl

-- what each frame has at a cell, in blocks of 64
lay_frames : {A : Type 0} (W : ℕ → A) (G : ℕ → A → ℕ) (T : ℕ → ℕ → ℕ) (live : ℕ) → ((f j : ℕ) → G j (W f) ≡ T f j)
    → span (λ i. from (G (i % 64)) (bottom (down W live) (i / 64))) 0 2048 ≡ span (λ i. pick (ltb (i / 64) live) (T (i / 64) (i % 64)) 0) 0 2048
lay_frames W G T live h = span_ext _ _ 0 2048 (λ i p q. rw (bottom_down W live (i / 64)) (from_pick (G (i % 64)) (ltb (i / 64) live) (W (i / 64)) ∙ rw (h (i / 64) (i % 64))))

-- ---- Values

kind_in_lem : (k b : ℕ) → k ≤ 3 → kind_in (value_by k b) ≡ k
unfolding kind_in value_by refer_to
kind_in_lem zero zero h = refl
kind_in_lem zero (suc b) h = refl
kind_in_lem (suc zero) b h = refl
kind_in_lem (suc (suc zero)) b h = refl
kind_in_lem (suc (suc (suc k))) b h = let z : k ≡ 0 = omega arith in rw z

no_cell : (b : ℕ) → tidy_byte 0 b ≡ 0
unfolding tidy_byte pick
no_cell b = refl

-- the low 32 bits count
signed_low : (b : ℕ) → signed32 (b % 4294967296) ≡ signed32 b
unfolding signed32
signed_low b = let e : b % 4294967296 % 4294967296 ≡ b % 4294967296 = mod-eq_of_lt (mod-lt b (omega arith)) in rw e

cell_in_lem : (k b : ℕ) → cell_in (value_by k b) ≡ tidy_bits k b
unfolding cell_in value_by refer_to tidy_bits pick
cell_in_lem zero zero = refl
cell_in_lem zero (suc b) = refl
cell_in_lem (suc zero) b = signed_low b
cell_in_lem (suc (suc zero)) b = refl
cell_in_lem (suc (suc (suc k))) b = rw (ne_eqb (suc (suc (suc k))) 1 (λ e. omega arith))

tidy_type : (t : Ty) (b : ℕ) → Named t → tidy_bits (kind_of_type t) b ≡ tidy_byte (byte_of t) b
unfolding tidy_bits tidy_byte kind_of_type kind_number kind byte_of Named pick
tidy_type int32 b n = refl
tidy_type int64 b n = refl
tidy_type F b n = refl
tidy_type null b n = absurd n
tidy_type (class c) b n = rw (ne_eqb (32 + c) 0 (λ e. omega arith), ne_eqb (32 + c) 1 (λ e. omega arith))

-- a cell of declared types, 0 where there is none
cell_typed : (ts : List Ty) (l : List ℕ) (a j : ℕ) → AllNamed ts → from cell_in (at (seen ts l a) j) ≡ tidy_byte (byte_at (at ts j)) (get_or l (a + j) 0)
unfolding from map_option byte_at
cell_typed ts l a j n = rw (at_seen ts l a j) (go (at ts j) (λ t e. named_at ts j t n e)) where
  go : (o : Option Ty) → ((t : Ty) → o ≡ some t → Named t) → from cell_in (map_option (λ t. value_by (kind_of_type t) (get_or l (a + j) 0)) o) ≡ tidy_byte (byte_at o) (get_or l (a + j) 0)
  go none h = sym (no_cell (get_or l (a + j) 0))
  go (some t) h = cell_in_lem (kind_of_type t) (get_or l (a + j) 0) ∙ tidy_type t (get_or l (a + j) 0) (h t refl)

-- ---- Types of fields

named_fields : (fs : List Field) → ((i : ℕ) (d : Field) → at fs i ≡ some d → Named d.type) → (p : Field → Bool) → AllNamed (field_types (those p fs))
unfolding AllNamed field_types those keep_if at
named_fields [] h p = tt
named_fields (d ∷ fs) h p = go (p d) (named_fields fs (λ i x e. h (suc i) x e) p) where
  go : (b : Bool) → AllNamed (map (λ f. f.type) (those p fs)) → AllNamed (map (λ f. f.type) (keep_if b d (those p fs)))
  go true n = (h 0 d refl, n)
  go false n = n

named_append : (fs gs : List Field) → AllNamed (field_types fs) → AllNamed (field_types gs) → AllNamed (field_types (fs ++ gs))
unfolding AllNamed field_types
named_append [] gs n k = k
named_append (d ∷ fs) gs n k = (n.0, named_append fs gs n.1 k)

module _ (M : Module) (fin : Fine M) where
  field_named : (i : ℕ) (d : Field) → at M.fields i ≡ some d → Named d.type
  unfolding row
  field_named i d e = (fin.field (suc i) d e).named

  statics_named : AllNamed (static_types M)
  unfolding static_types
  statics_named = named_fields M.fields field_named is_static_field

  up_named : (n c : ℕ) → AllNamed (field_types (layout_up M.parents M.fields n c))
  unfolding layout_up AllNamed field_types
  up_named zero c = tt
  up_named (suc n) zero = tt
  up_named (suc n) (suc c) = named_append (layout_up M.parents M.fields n (parent_of M.parents (suc c))) (those (is_own (suc c)) M.fields) (up_named n (parent_of M.parents (suc c))) (named_fields M.fields field_named (is_own (suc c)))

  types_named : (c : ℕ) → AllNamed (types_of M c)
  unfolding types_of layout
  types_named c = up_named c c

  -- ---- The arrays wiped

  module _ (code : List ℕ) (L : Loaded) (hold : Holds M code L) (cellBytes staticBytes : List ℕ) (types : HoldsTypes M cellBytes staticBytes) (c : Work) (live : ℕ)
      (kindly : (i : ℕ) → get_or c.kinds i 0 ≤ 3) (gm : GoodMarks M c.marks) (gh : GoodHeap M c.regs.made c.classes c.heap) where
    -- the method of a frame
    abbrev method_in : ℕ → Method
    method_in f = method_at M.methods (method_of c.cells f)

    arg_cell : (f j : ℕ) → j < 8 → from cell_in (at (seen (arguments (method_in f)) c.cells (f * 64)) j) ≡ tidy_byte (method_cell L.methods (method_of c.cells f) j) (get_or c.cells (f * 64 + j) 0)
    arg_cell f j h = rw (hold.by_method.argument_type (method_of c.cells f) j h) (cell_typed (arguments (method_in f)) c.cells (f * 64) j (arguments_named M fin (method_of c.cells f)))

    loc_cell : (f j : ℕ) → 8 ≤ j → j < 24 → from cell_in (at (seen (method_in f).locals c.cells (f * 64 + 8)) (j - 8)) ≡ tidy_byte (method_cell L.methods (method_of c.cells f) j) (get_or c.cells (f * 64 + j) 0)
    loc_cell f j l h =
        let x : f * 64 + 8 + (j - 8) ≡ f * 64 + j = omega arith in
        let y : 8 + (j - 8) ≡ j = omega arith in
        let t : method_cell L.methods (method_of c.cells f) j ≡ byte_at (at (method_in f).locals (j - 8)) = ap (method_cell L.methods (method_of c.cells f)) (sym y) ∙ hold.by_method.local_type_lem (method_of c.cells f) (j - 8) (omega arith) in
        rw t (cell_typed (method_in f).locals c.cells (f * 64 + 8) (j - 8) (locals_named M fin (method_of c.cells f)) ∙ rw x)

    stack_cell : (f j : ℕ) → 24 ≤ j
        → from cell_in (bottom (down (cell c.kinds c.cells (f * 64 + 24)) (depth_of c.cells f)) (j - 24)) ≡ pick (ltb (j - 24) (depth_of c.cells f)) (tidy_bits (get_or c.kinds (f * 64 + j) 0) (get_or c.cells (f * 64 + j) 0)) 0
    unfolding cell
    stack_cell f j l =
        let x : f * 64 + 24 + (j - 24) ≡ f * 64 + j = omega arith in
        rw (bottom_down (cell c.kinds c.cells (f * 64 + 24)) (depth_of c.cells f) (j - 24))
        (from_pick cell_in (ltb (j - 24) (depth_of c.cells f)) (cell c.kinds c.cells (f * 64 + 24) (j - 24)) ∙ rw (x, cell_in_lem (get_or c.kinds (f * 64 + j) 0) (get_or c.cells (f * 64 + j) 0)))

    stack_kind : (f j : ℕ) → 24 ≤ j
        → from kind_in (bottom (down (cell c.kinds c.cells (f * 64 + 24)) (depth_of c.cells f)) (j - 24)) ≡ pick (ltb (j - 24) (depth_of c.cells f)) (get_or c.kinds (f * 64 + j) 0) 0
    unfolding cell
    stack_kind f j l =
        let x : f * 64 + 24 + (j - 24) ≡ f * 64 + j = omega arith in
        rw (bottom_down (cell c.kinds c.cells (f * 64 + 24)) (depth_of c.cells f) (j - 24))
        (from_pick kind_in (ltb (j - 24) (depth_of c.cells f)) (cell c.kinds c.cells (f * 64 + 24) (j - 24)) ∙ rw (x, kind_in_lem (get_or c.kinds (f * 64 + j) 0) (get_or c.cells (f * 64 + j) 0) (kindly (f * 64 + j))))

    frame_cell_lem : (f j : ℕ) → frame_cell j (waits_of M c f) ≡ tidy_cell L.methods c.cells c.kinds f j
    unfolding frame_cell tidy_cell waits_of frame_at pick
    frame_cell_lem f j = go (le_or_lt 8 j) (le_or_lt 24 j) (le_or_lt 56 j) (is_or_not j 56) (is_or_not j 57) (is_or_not j 58) where
      go : (8 ≤ j) ⊎ (j < 8) → (24 ≤ j) ⊎ (j < 24) → (56 ≤ j) ⊎ (j < 56) → (j ≡ 56) ⊎ (j ≡ 56 → ⊥) → (j ≡ 57) ⊎ (j ≡ 57 → ⊥) → (j ≡ 58) ⊎ (j ≡ 58 → ⊥)
          → frame_cell j (waits_of M c f) ≡ tidy_cell L.methods c.cells c.kinds f j
      go (inr p) q r x y z = rw (lt-ltb j 8 p, lt-ltb j 24 (omega arith)) (arg_cell f j p)
      go (inl p) (inr q) r x y z = rw (le-ltb j 8 p, lt-ltb j 24 q) (loc_cell f j p q)
      go (inl p) (inl q) (inr r) x y z = rw (le-ltb j 8 p, le-ltb j 24 q, lt-ltb j 56 r) (stack_cell f j q)
      go (inl p) (inl q) (inl r) (inl x) y z = rw (le-ltb j 8 p, le-ltb j 24 q, le-ltb j 56 r, eq-eqb j 56 x, lt-ltb j 59 (omega arith)) (rw x)
      go (inl p) (inl q) (inl r) (inr x) (inl y) z =
          rw (le-ltb j 8 p, le-ltb j 24 q, le-ltb j 56 r, ne_eqb j 56 x, eq-eqb j 57 y, lt-ltb j 59 (omega arith)) (rw y (length_down (cell c.kinds c.cells (f * 64 + 24)) (depth_of c.cells f)))
      go (inl p) (inl q) (inl r) (inr x) (inr y) (inl z) = rw (le-ltb j 8 p, le-ltb j 24 q, le-ltb j 56 r, ne_eqb j 56 x, ne_eqb j 57 y, eq-eqb j 58 z, lt-ltb j 59 (omega arith)) (rw z)
      go (inl p) (inl q) (inl r) (inr x) (inr y) (inr z) = rw (le-ltb j 8 p, le-ltb j 24 q, le-ltb j 56 r, ne_eqb j 56 x, ne_eqb j 57 y, ne_eqb j 58 z, le-ltb j 59 (omega arith))

    frame_kind_lem : (f j : ℕ) → frame_kind j (waits_of M c f) ≡ tidy_kind c.cells c.kinds f j
    unfolding frame_kind tidy_kind waits_of frame_at pick within
    frame_kind_lem f j = go (leb 24 j) (leb j 55) (λ e. leb-true 24 j e) where
      go : (a b : Bool) → (a ≡ true → 24 ≤ j) → pick (a && b) (from kind_in (bottom (down (cell c.kinds c.cells (f * 64 + 24)) (depth_of c.cells f)) (j - 24))) 0 ≡ pick (a && b) (pick (ltb (j - 24) (depth_of c.cells f)) (get_or c.kinds (f * 64 + j) 0) 0) 0
      go true true h = stack_kind f j (h refl)
      go true false h = refl
      go false b h = refl

    -- ---- Static fields, marks, heap

    lay_statics : span (λ i. from cell_in (at (seen (static_types M) c.statics 0) i)) 0 64 ≡ tidy_statics staticBytes c.statics
    unfolding tidy_statics
    lay_statics = span_ext _ _ 0 64 (λ i p q. let z : 0 + i ≡ i = omega arith in rw (types.static_type i (omega arith)) (cell_typed (static_types M) c.statics 0 i statics_named ∙ rw z))

    mark_shown : (n : ℕ) → n ≤ 1 → flag (not (eqb n 0)) ≡ n
    unfolding flag
    mark_shown zero h = refl
    mark_shown (suc zero) h = refl
    mark_shown (suc (suc n)) h = absurd (omega arith)

    mark_at_lem : (i : ℕ) → mark_at (marks_of M c.marks) i ≡ get_or c.marks i 0
    unfolding mark_at marks_of mark_in from
    mark_at_lem zero = sym (gm.no_class 0 (inl refl))
    mark_at_lem (suc i) = go (le_or_lt (length M.parents) i) where
      go : (length M.parents ≤ i) ⊎ (i < length M.parents) → from flag (at (span (mark_in c.marks) 0 (length M.parents)) i) ≡ get_or c.marks (suc i) 0
      go (inl h) = rw (at_out (span (mark_in c.marks) 0 (length M.parents)) i (let l = length_span (mark_in c.marks) 0 (length M.parents) in omega arith)) (sym (gm.no_class (suc i) (inr (omega arith))))
      go (inr h) =
          let z : 0 + i ≡ i = omega arith in
          rw (at_span (mark_in c.marks) 0 (length M.parents) i h, z) (mark_shown (get_or c.marks (suc i) 0) (gm.marks_few (suc i)))

    lay_marks : span (mark_at (marks_of M c.marks)) 0 33 ≡ c.marks
    lay_marks = span_all _ c.marks 33 gm.marks_long (λ i h. mark_at_lem i)

    class_in : (r : ℕ) → from (λ (o : Object). o.class) (get_or (heap_of M c) r none) ≡ get_or c.classes r 0
    unfolding heap_of place_in from pick
    class_in r = rw (place_seen M c.classes c.heap r gh.classes_long) (go (eqb (get_or c.classes r 0) 0) refl) where
      go : (b : Bool) → eqb (get_or c.classes r 0) 0 ≡ b → from (λ (o : Object). o.class) (pick b none (some (record { class = get_or c.classes r 0; cells = seen (types_of M (get_or c.classes r 0)) c.heap (r * 8) }))) ≡ get_or c.classes r 0
      go true e = sym (eqb-true _ _ e)
      go false e = refl

    lay_classes : span (λ r. from (λ (o : Object). o.class) (get_or (heap_of M c) r none)) 0 256 ≡ c.classes
    lay_classes = span_all _ c.classes 256 gh.classes_long (λ r h. class_in r)

    few_classes : (r : ℕ) → get_or c.classes r 0 ≤ 32
    few_classes r = go (le_or_lt c.regs.made r) where
      go : (c.regs.made ≤ r) ⊎ (r < c.regs.made) → get_or c.classes r 0 ≤ 32
      go (inl h) = let e = gh.unmade r h in omega arith
      go (inr h) = let t = (gh.taken r h).1 in omega arith

    no_types : (k j : ℕ) → k ≡ 0 → byte_at (at (types_of M k) j) ≡ 0
    unfolding byte_at at types_of layout layout_up field_types
    no_types k j e = rw e

    field_in : (r j : ℕ) → from (object_cell j) (get_or (heap_of M c) r none) ≡ tidy_byte (byte_at (at (types_of M (get_or c.classes r 0)) j)) (get_or c.heap (r * 8 + j) 0)
    unfolding heap_of place_in from pick object_cell
    field_in r j = rw (place_seen M c.classes c.heap r gh.classes_long) (go (eqb (get_or c.classes r 0) 0) refl) where
      go : (b : Bool) → eqb (get_or c.classes r 0) 0 ≡ b
          → from (object_cell j) (pick b none (some (record { class = get_or c.classes r 0; cells = seen (types_of M (get_or c.classes r 0)) c.heap (r * 8) }))) ≡ tidy_byte (byte_at (at (types_of M (get_or c.classes r 0)) j)) (get_or c.heap (r * 8 + j) 0)
      go true e = rw (no_types (get_or c.classes r 0) j (eqb-true _ _ e)) (sym (no_cell _))
      go false e = cell_typed (types_of M (get_or c.classes r 0)) c.heap (r * 8) j (types_named (get_or c.classes r 0))

    lay_heap : span (λ i. from (object_cell (i % 8)) (get_or (heap_of M c) (i / 8) none)) 0 2048 ≡ tidy_heap cellBytes c.classes c.heap
    unfolding tidy_heap
    lay_heap = span_ext _ _ 0 2048 (λ i p q. rw (types.cell_type (get_or c.classes (i / 8) 0) (i % 8) (few_classes (i / 8)) (mod-lt i (omega arith))) (field_in (i / 8) (i % 8) ∙ rw (div-add-mod' i 8)))

    -- the wiped arrays are the layout of what is seen
    pub tidy_lays : tidy L.methods cellBytes staticBytes c live ≡ lay_out (record { frames = down (waits_of M c) live; statics = seen (static_types M) c.statics 0; marks = marks_of M c.marks; heap = heap_of M c })
    unfolding tidy lay_out tidy_cells tidy_kinds
    tidy_lays =
        rw (
          lay_frames (waits_of M c) frame_cell (tidy_cell L.methods c.cells c.kinds) live frame_cell_lem,
          lay_frames (waits_of M c) frame_kind (tidy_kind c.cells c.kinds) live frame_kind_lem,
          lay_statics,
          lay_marks,
          lay_classes,
          lay_heap,
          length_down (waits_of M c) live,
        )
