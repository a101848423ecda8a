-- The running frame in the arrays that a run hands back, against the types of a shape as they are told.
use Prim.Native.Nat.{ℕ, zero, suc, ◌+◌, ◌-◌, ◌*◌, ◌/◌, ◌%◌, ◌≤◌, ◌<◌}
use mathlib.Core.Path.{◌≡◌, refl, sym, ap, ◌∙◌}
use Rattle.std.specs.Prelude.{Option, Some, Result, Ok}
use mathlib.Core.Logic.{◌⊎◌, inl, inr}
use mathlib.Core.Option.{none, some}
use mathlib.Core.List.{List, [], ◌∷◌, ◌++◌, append_assoc}
use native.Mathlib.Omega.{arith}
use lib.ListN.{length, get_or, replicate, length-append, get_or-eq_default}
use lib.Seq.{get_or-append_seam}
use lib.Dec.{T}
use borrow.Author.Tests.{lt-ltb, le-ltb, le-leb, eq-eqb, ne_eqb}
use Rattle.model.specs.Answer.{pick}
use Rattle.model.specs.Loading.{within}
use Rattle.model.specs.Tables.{Ty, class, byte_of, Module, descends}
use Rattle.model.specs.Check.{Shape}
use Rattle.model.specs.State.{Value, vint32, vint64, v_f, vnull, vobject, Object, Heap, get, object_at, type_of, Frame}
use Rattle.model.specs.State as Model
use Rattle.model.proofs.Ancestors.{Falls, Above, here, Under, itself, nothing, derived, above_descends}
use Rattle.model.proofs.Typing.{Has, has_under, object_is, Fit, fnil, fcons, fit_length, HeapFits}
use Rattle.loaded.specs.declared.Fault.{Fault}
use Rattle.state.specs.View.{depth_of}
use Rattle.state.specs.Layout.{bottom, from, cell_in, kind_in, frame_cell, frame_kind, lay_out}
use Rattle.state.specs.declared.State.{State}
use Rattle.faithful.proofs.Lists.{le_or_lt, is_or_not, get_d_span}
use Rattle.checker.specs.Told.{bottom_up, told}
use Rattle.checker.specs.declared.tell.Found.{Found}

-- ---- What is claimed

-- A cell of a type: the type's byte, the cell's kind and the cell. A reference is null, 0, or the number of an object of the class or of one derived from it;
-- `classes` has the class of object 1 first.
pub data OfType (parents classes : List ℕ) : ℕ → ℕ → ℕ → Type 0 where
  an_int32 : {n : ℕ} → OfType parents classes 1 1 n
  an_int64 : {n : ℕ} → OfType parents classes 2 2 n
  an_F : {n : ℕ} → OfType parents classes 3 3 n
  a_null : OfType parents classes 0 0 0
  no_object : (c : ℕ) → OfType parents classes (32 + c) 0 0
  an_object : (c : ℕ) {n : ℕ} → T (descends parents (get_or classes n 0) c) → OfType parents classes (32 + c) 0 (suc n)

-- what is told is a shape; the stack of frame k has its depth, and each of the cells, from the bottom up, is of the type told
pub record StackTold (parents : List ℕ) (k : ℕ) (s : State) (t : Result (Option Found) Fault) : Type 0 where
  pub found : Found
  pub starts : t ≡ Ok (Some found)
  pub depth : depth_of s.cells k ≡ found.depth
  pub cell : (i : ℕ) → i < found.depth
      → OfType parents s.classes (get_or found.types i 0) (get_or s.kinds (k * 64 + (24 + i)) 0) (get_or s.cells (k * 64 + (24 + i)) 0)

-- ---- Values against types

-- a value of a stack and a type of a shape, both counted from the bottom
record Slot (M : Module) (h : Heap) (vs : List Value) (S : Shape) (rest : List ℕ) (i : ℕ) : Type 0 where
  value : Value
  type : Ty
  is : bottom vs i ≡ some value
  byte : get_or (bottom_up S ++ rest) i 0 ≡ byte_of type
  has : Has M h value type

length_up : (S : Shape) → length (bottom_up S) ≡ length S
unfolding bottom_up
length_up [] = refl
length_up (t ∷ S) = length-append (bottom_up S) (byte_of t ∷ []) ∙ let e = length_up S in omega arith

module _ (v : Value) (vs : List Value) (i : ℕ) where
  bottom_here : length vs ≡ i → bottom (v ∷ vs) i ≡ some v
  unfolding bottom pick
  bottom_here e = rw (eq-eqb (length vs) i e)

  bottom_below : (length vs ≡ i → ⊥) → bottom (v ∷ vs) i ≡ bottom vs i
  unfolding bottom pick
  bottom_below n = rw (ne_eqb (length vs) i n)

up_here : (t : Ty) (S : Shape) (rest : List ℕ) (i : ℕ) → length S ≡ i → get_or (bottom_up (t ∷ S) ++ rest) i 0 ≡ byte_of t
unfolding bottom_up
up_here t S rest i e = rw (← e, ← length_up S, append_assoc) (get_or-append_seam (bottom_up S) (byte_of t) rest 0)

up_below : (t : Ty) (S : Shape) (rest : List ℕ) (i : ℕ) → get_or (bottom_up (t ∷ S) ++ rest) i 0 ≡ get_or (bottom_up S ++ (byte_of t ∷ rest)) i 0
unfolding bottom_up
up_below t S rest i = rw append_assoc

slots : {M : Module} {h : Heap} {vs : List Value} {S : Shape} → Fit M h vs S → (rest : List ℕ) (i : ℕ) → i < length S → Slot M h vs S rest i
slots fnil rest i l = absurd (omega arith)
slots {M} {h} (fcons {v = v} {t = t} {vs = vs} {ts = S} p ps) rest i l = go (slots ps (byte_of t ∷ rest) i) (is_or_not (length S) i)
  where
    go : (i < length S → Slot M h vs S (byte_of t ∷ rest) i) → (length S ≡ i) ⊎ (length S ≡ i → ⊥) → Slot M h (v ∷ vs) (t ∷ S) rest i
    go below (inl e) = record { value = v; type = t; is = bottom_here v vs i (fit_length ps ∙ e); byte = up_here t S rest i e; has = p }
    go below (inr n) =
        let k = below (omega arith) in
        record {
          value = k.value;
          type = k.type;
          is = bottom_below v vs i (λ e. n (sym (fit_length ps) ∙ e)) ∙ k.is;
          byte = up_below t S rest i ∙ k.byte;
          has = k.has;
        }

-- ---- Cells of the layout

module _ (s : Model.State) where
  -- the class of an object
  class_cell : length s.heap ≡ 256 → (n : ℕ) (o : Object) → get_or s.heap n none ≡ some o → get_or (lay_out s).classes n 0 ≡ o.class
  unfolding lay_out from
  class_cell l n o e = go (le_or_lt 256 n)
    where
      go : (256 ≤ n) ⊎ (n < 256) → get_or (lay_out s).classes n 0 ≡ o.class
      go (inl h) =
          let q : get_or s.heap n none ≡ none = get_or-eq_default s.heap none (omega arith) in
          let z : ◌≡◌ {A = ℕ} 0 1 = cc in
          absurd (omega arith)
      go (inr h) =
          let z : 0 + n ≡ n = omega arith in
          get_d_span (λ r. from (λ (x : Object). x.class) (get_or s.heap r none)) 0 256 n 0 h ∙ rw (z, e)

  module _ (f : Frame) (fs : List Frame) (e : s.frames ≡ f ∷ fs) (few : length s.frames ≤ 32) where
    running : bottom s.frames (length fs) ≡ some f
    unfolding bottom pick
    running = rw (e, eq-eqb (length fs) (length fs) refl)

    low : length fs < 32
    low = let z : length s.frames ≡ suc (length fs) = ap length e in omega arith

    -- cell j of the running frame, and its kind
    frame_cell_lem : (j : ℕ) → j < 64 → get_or (lay_out s).cells (length fs * 64 + j) 0 ≡ frame_cell j f
    unfolding lay_out from
    frame_cell_lem j h =
        let l = low in
        let q : (0 + (length fs * 64 + j)) / 64 ≡ length fs = omega arith in
        let r : (0 + (length fs * 64 + j)) % 64 ≡ j = omega arith in
        get_d_span (λ i. from (frame_cell (i % 64)) (bottom s.frames (i / 64))) 0 2048 (length fs * 64 + j) 0 (omega arith) ∙ rw (q, r, running)

    frame_kind_lem : (j : ℕ) → j < 64 → get_or (lay_out s).kinds (length fs * 64 + j) 0 ≡ frame_kind j f
    unfolding lay_out from
    frame_kind_lem j h =
        let l = low in
        let q : (0 + (length fs * 64 + j)) / 64 ≡ length fs = omega arith in
        let r : (0 + (length fs * 64 + j)) % 64 ≡ j = omega arith in
        get_d_span (λ i. from (frame_kind (i % 64)) (bottom s.frames (i / 64))) 0 2048 (length fs * 64 + j) 0 (omega arith) ∙ rw (q, r, running)

-- stack cell i of a frame, and its kind
module _ (f : Frame) (i : ℕ) (v : Value) (e : bottom f.stack i ≡ some v) (h : i < 32) where
  stack_cell : frame_cell (24 + i) f ≡ cell_in v
  unfolding frame_cell from pick
  stack_cell =
      let z : 24 + i - 24 ≡ i = omega arith in
      rw (le-ltb (24 + i) 8 (omega arith), le-ltb (24 + i) 24 (omega arith), lt-ltb (24 + i) 56 (omega arith), z, e)

  stack_kind : frame_kind (24 + i) f ≡ kind_in v
  unfolding frame_kind from pick within
  stack_kind =
      let z : 24 + i - 24 ≡ i = omega arith in
      rw (le-leb 24 (24 + i) (omega arith), le-leb (24 + i) 55 (omega arith), z, e)

frame_depth : (f : Frame) → frame_cell 57 f ≡ length f.stack
unfolding frame_cell pick
frame_depth f = refl

-- ---- A value of a type, as a cell

module _ (M : Module) (w : Falls M.parents) (s : Model.State) (fits : HeapFits M s.heap) (places : length s.heap ≡ 256) where
  abbrev Cell : ℕ → ℕ → ℕ → Type 0
  Cell b k n = OfType M.parents (lay_out s).classes b k n

  derives : (n : ℕ) (o : Object) (d : ℕ) → get_or s.heap n none ≡ some o → Above M.parents d o.class → Cell (32 + d) 0 (suc n)
  derives n o d e a = an_object d {n = n} (rw (class_cell s places n o e) (above_descends M.parents w o.class d a))

  object_of : (n : ℕ) (o : Object) (t : Ty) → get_or s.heap n none ≡ some o → Under M.parents (class o.class) t → Cell (byte_of t) 0 (suc n)
  unfolding byte_of get
  object_of n o t e itself = derives n o o.class e (here (let l = (fits.class (suc n) o e).0 in omega arith))
  object_of n o (class d) e (derived a) = derives n o d e a

  refers : (n : ℕ) (t : Ty) (o : Object) → get s.heap n ≡ some o → Under M.parents (class (object_at s.heap n).class) t → Cell (byte_of t) 0 n
  unfolding get
  refers zero t o e u = let z : ◌≡◌ {A = ℕ} 0 1 = cc in absurd (omega arith)
  refers (suc n) t o e u = object_of n o t e (rw (object_is s.heap (suc n) o e) at u)

  of_type : (v : Value) (t : Ty) → ((n : ℕ) → v ≡ vobject n → (o : Object) × (get s.heap n ≡ some o)) → Under M.parents (type_of s.heap v) t
      → Cell (byte_of t) (kind_in v) (cell_in v)
  unfolding byte_of kind_in cell_in type_of
  of_type (vint32 n) t there itself = an_int32
  of_type (vint64 n) t there itself = an_int64
  of_type (v_f n) t there itself = an_F
  of_type vnull t there itself = a_null
  of_type vnull t there nothing = no_object _
  of_type (vobject n) t there u = let (o, e) = there n refl in refers n t o e u

  -- the running frame, of 32 at most, whose stack fits a shape: it is as that shape is told
  pub stack_told : (f : Frame) (fs : List Frame) → s.frames ≡ f ∷ fs → length s.frames ≤ 32 → (S : Shape) → Fit M s.heap f.stack S → length S ≤ 32
      → StackTold M.parents (length fs) (lay_out s) (Ok (told (some S)))
  unfolding told
  stack_told f fs e few S fit low =
      record {
        found = _;
        starts = refl;
        depth = frame_cell_lem s f fs e few 57 (omega arith) ∙ (frame_depth f ∙ fit_length fit);
        cell = λ i h.
            let k = slots fit (replicate (32 - length S) 0) i h in
            let c = frame_cell_lem s f fs e few (24 + i) (omega arith) ∙ stack_cell f i k.value k.is (omega arith) in
            let d = frame_kind_lem s f fs e few (24 + i) (omega arith) ∙ stack_kind f i k.value k.is (omega arith) in
            rw (k.byte, c, d) (of_type k.value k.type k.has.there (has_under k.has));
      }
