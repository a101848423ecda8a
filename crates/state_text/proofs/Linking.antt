-- What is read from the layout of a state is the state, so the text over the arrays is the model's.
use Prim.Native.Nat.{ℕ, zero, suc, ◌+◌, ◌-◌, ◌*◌, ◌/◌, ◌%◌, ◌≤◌, ◌<◌}
use mathlib.Core.Path.{◌≡◌, refl, sym, ap, ◌∙◌}
use mathlib.Core.Bool.{Bool, true, false}
use mathlib.Core.Logic.{◌⊎◌, inl, inr}
use mathlib.Core.Option.{Option, none, some}
use mathlib.Core.List.{List, [], ◌∷◌, ◌++◌, append-nil, append_assoc}
use native.Mathlib.Omega.{arith}
use native.Mathlib.Nat.{add-zero, zero-add, mul-add-div_right, mul-add-mod_self_right, div-eq_of_lt, mod-eq_of_lt, mul-le-mul_right}
use lib.ListN.{length, get_or, take}
use lib.Dec.{eqb}
use borrow.Author.Tests.{lt-ltb, le-ltb, le-leb, eq-eqb, ne_eqb, eqb-true}
use Rattle.model.specs.Answer.{pick, or_else, at, row, keep_if, those}
use Rattle.model.specs.Tables.{Ty, byte_of, Field, Method, Module, no_method, method_at, this_of, arguments, field_types, is_static_field, slot}
use Rattle.model.specs.Loading.{within}
use Rattle.model.specs.Operators.{flag}
use Rattle.model.specs.State.{Value, vint32, vint64, v_f, vnull, vobject, Frame, Object}
use Rattle.model.specs.State as Model
use Rattle.model.specs.Step.{slot_in}
use Rattle.model.specs.Turn.{decimal}
use Rattle.model.specs.Replay.{cell_text, static_texts, mark_texts, state_text}
use Rattle.loaded.specs.Holds.{Holds, byte_at, field_cell, method_cell, from_row}
use Rattle.loaded.specs.declared.Loaded.{Loaded}
use Rattle.state.specs.View.{down, span, kind_of_type, kind_of_byte, value_by, types_of, static_types}
use Rattle.state.specs.Order.{Fine, HoldsTypes}
use Rattle.state.specs.Layout.{bottom, from, cell_in, kind_in, frame_cell, frame_kind, object_cell, mark_at, lay_out}
use Rattle.faithful.proofs.Lists.{le_or_lt, get_d_span, at_in, at_some, at_out, get_d_at}
use Rattle.faithful.proofs.Seen.{byte_kind}
use Rattle.faithful.proofs.Rows.{arguments_few, locals_few}
use Rattle.faithful.proofs.Slots.{static_found}
use Rattle.state_text.specs.Texts.{one_of, cell_of, part_of, value_in, up_to, local_type, argument_in, local_in, stack_in, arguments_in, locals_in, frame_in, one_frame, frames_in, static_text, static_at, mark_text, mark_row, field_in, size_of, place_of, place_in, heap_in, whole_text}
use Rattle.state_text.proofs.Reading.{cell_in_lem, cell_out, part_in}
use Rattle.state_text.proofs.Sizes.{byte_some, size_read}
use Rattle.state_text.specs.Keeps.{Typed, Keeps}

-- ---- Lists by their elements

module _ {A : Type 0} where
  bottom_in : (l : List A) (j : ℕ) (x : A) → bottom l j ≡ some x → j < length l
  unfolding bottom pick
  bottom_in [] j x e = let z : ◌≡◌ {A = ℕ} 0 1 = cc in absurd (omega arith)
  bottom_in (y ∷ l) j x e = go (eqb (length l) j) refl e (bottom_in l j x) where
    go : (b : Bool) → eqb (length l) j ≡ b → pick b (some y) (bottom l j) ≡ some x → (bottom l j ≡ some x → j < length l) → j < suc (length l)
    go true q r f = let w : length l ≡ j = eqb-true _ _ q in omega arith
    go false q r f = let w : j < length l = f r in omega arith

  down_bottom : (l : List A) (g : ℕ → A) → ((j : ℕ) (x : A) → bottom l j ≡ some x → g j ≡ x) → down g (length l) ≡ l
  unfolding bottom down pick
  down_bottom [] g h = refl
  down_bottom (y ∷ l) g h =
      let a : g (length l) ≡ y = h (length l) y (rw (eq-eqb (length l) (length l) refl)) in
      let b : down g (length l) ≡ l = down_bottom l g (λ j x e. let w : j < length l = bottom_in l j x e in h j x (rw (ne_eqb (length l) j (λ q. omega arith)) e)) in
      cc

  span_at : (l : List A) (g : ℕ → A) (i : ℕ) → ((k : ℕ) (x : A) → at l k ≡ some x → g (i + k) ≡ x) → span g i (length l) ≡ l
  unfolding at span
  span_at [] g i h = refl
  span_at (y ∷ l) g i h =
      let a : g i ≡ y = simp add-zero at (h 0 y refl) in
      let b : span g (suc i) (length l) ≡ l = span_at l g (suc i) (λ k x e. let w : suc i + k ≡ i + suc k = omega arith in rw w (h (suc k) x e)) in
      cc

  span_whole : (l : List A) (g : ℕ → A) → ((k : ℕ) (x : A) → at l k ≡ some x → g k ≡ x) → span g 0 (length l) ≡ l
  span_whole l g h = span_at l g 0 (λ k x e. rw (zero-add k) (h k x e))

-- ---- Cells of a layout

one_span : (G : ℕ → ℕ) (n i : ℕ) → i < n → one_of n (span G 0 n) i ≡ G i
unfolding one_of pick
one_span G n i h = rw (lt-ltb i n h) (get_d_span G 0 n i 0 h ∙ rw (zero-add i))

-- cell i of block r
cell_span : {A : Type 0} (G : ℕ → A → ℕ) (B : ℕ → Option A) (n w r i : ℕ) → r < n → i < w → cell_of n w (span (λ k. from (G (k % w)) (B (k / w))) 0 (n * w)) r i ≡ from (G i) (B r)
cell_span G B n w r i h k =
    let p : 0 < w = omega arith in
    let m : suc r * w ≤ n * w = mul-le-mul_right w h in
    let q : r * w + i < n * w = omega (arith, m) in
    let d : (r * w + i) / w ≡ r = mul-add-div_right p r i ∙ rw (div-eq_of_lt k) (add-zero r) in
    let e : (r * w + i) % w ≡ i = mul-add-mod_self_right r w i ∙ mod-eq_of_lt k in
    cell_in_lem n w _ r i h k ∙ get_d_span (λ k. from (G (k % w)) (B (k / w))) 0 (n * w) (r * w + i) 0 q
    ∙ rw (zero-add (r * w + i)) (rw (d, e))

value_typed : (t : Ty) (v : Value) (k b : ℕ) → k ≡ byte_of t → b ≡ cell_in v → value_by (kind_of_type t) (cell_in v) ≡ v → value_in k b ≡ v
unfolding value_in
value_typed t v k b e q h = rw (e, q, byte_kind t) h

-- cells of declared types
typed_read : (ts : List Ty) (vs : List Value) (K B : ℕ → ℕ) (n : ℕ) → n ≡ length ts → Typed ts vs
    → ((i : ℕ) (t : Ty) (v : Value) → at ts i ≡ some t → at vs i ≡ some v → (K i ≡ byte_of t) × (B i ≡ cell_in v)) → span (λ i. value_in (K i) (B i)) 0 n ≡ vs
typed_read ts vs K B n e k h =
    ap (span (λ i. value_in (K i) (B i)) 0) (e ∙ sym k.long)
    ∙ span_whole vs (λ i. value_in (K i) (B i)) (λ i v q.
    let (t, a) = at_some ts i (let x = at_in vs i v q in let l = k.long in omega arith) in
    let w = h i t v a q in
    value_typed t v (K i) (B i) w.0 w.1 (k.told i t v a q))

kind_told : (v : Value) → kind_of_byte (kind_in v) ≡ kind_in v
unfolding kind_of_byte kind_in pick
kind_told (vint32 n) = refl
kind_told (vint64 n) = refl
kind_told (v_f n) = refl
kind_told vnull = refl
kind_told (vobject n) = refl

value_told : (v : Value) (k b : ℕ) → k ≡ kind_in v → b ≡ cell_in v → value_by (kind_in v) (cell_in v) ≡ v → value_in k b ≡ v
unfolding value_in
value_told v k b e q h = rw (e, q, kind_told v) h

from_some : {A : Type 0} (g : A → ℕ) (o : Option A) (a : A) → o ≡ some a → from g o ≡ g a
unfolding from
from_some g o a e = rw e

-- ---- Rows of which some have a text

-- the texts of n rows from r on
unfoldable rows : (ℕ → List (List ℕ)) → ℕ → ℕ → List (List ℕ)
rows F r zero = []
rows F r (suc n) = F r ++ rows F (suc r) n

one_plus : (i : ℕ) → 1 + i ≡ suc i
one_plus i = omega arith

next_row : (r i : ℕ) → suc r + i ≡ r + suc i
next_row r i = omega arith

rows_more : (F : ℕ → List (List ℕ)) (r n : ℕ) → rows F r (suc n) ≡ rows F r n ++ F (r + n)
unfolding rows
rows_more F r zero = append-nil (F r) ∙ ap F (sym (add-zero r))
rows_more F r (suc n) =
    ap (λ (l : List (List ℕ)). F r ++ l) (rows_more F (suc r) n) ∙ sym (append_assoc (F r) (rows F (suc r) n) (F (suc r + n)))
    ∙ ap (λ (k : ℕ). (F r ++ rows F (suc r) n) ++ F k) (next_row r n)

rows_up : (F : ℕ → List (List ℕ)) (n : ℕ) → up_to F n ≡ rows F 0 n
unfolding up_to rows
rows_up F zero = refl
rows_up F (suc n) =
    ap (λ (l : List (List ℕ)). l ++ F n) (rows_up F n) ∙ sym (rows_more F 0 n ∙ ap (λ (k : ℕ). rows F 0 n ++ F k) (zero-add n))

-- row 0 has none
rows_all : (F : ℕ → List (List ℕ)) (n : ℕ) → F 0 ≡ [] → up_to F (suc n) ≡ rows F 1 n
unfolding rows
rows_all F n e = rows_up F (suc n) ∙ ap (λ (l : List (List ℕ)). l ++ rows F 1 n) e

rows_none : (F : ℕ → List (List ℕ)) (r n : ℕ) → ((i : ℕ) → i < n → F (r + i) ≡ []) → rows F r n ≡ []
unfolding rows
rows_none F r zero h = refl
rows_none F r (suc n) h =
    let a : F r ≡ [] = simp add-zero at (h 0 (omega arith)) in
    ap (λ (l : List (List ℕ)). l ++ rows F (suc r) n) a ∙ rows_none F (suc r) n (λ i l. rw (next_row r i) (h (suc i) (omega arith)))

marks_list : (F : ℕ → List (List ℕ)) (ms : List Bool) (r n : ℕ) → length ms ≤ n
    → ((i : ℕ) (b : Bool) → at ms i ≡ some b → F (r + i) ≡ pick b (decimal (r + i) ∷ []) []) → ((i : ℕ) → length ms ≤ i → i < n → F (r + i) ≡ []) → rows F r n ≡ mark_texts r ms
unfolding at rows mark_texts pick
marks_list F [] r n l h z = rows_none F r n (λ i k. z i (omega arith) k)
marks_list F (b ∷ ms) r zero l h z = absurd (omega arith)
marks_list F (b ∷ ms) r (suc n) l h z =
    let a : F r ≡ pick b (decimal r ∷ []) [] = simp add-zero at (h 0 b refl) in
    let t : rows F (suc r) n ≡ mark_texts (suc r) ms =
    marks_list F ms (suc r) n (omega arith) (λ i x e. rw (next_row r i) (h (suc i) x e)) (λ i k q. rw (next_row r i) (z (suc i) (omega arith) (omega arith))) in
    ap (λ (l : List (List ℕ)). l ++ rows F (suc r) n) a ∙ ap (λ (l : List (List ℕ)). pick b (decimal r ∷ []) [] ++ l) t ∙ go b
  where
    go : (x : Bool) → pick x (decimal r ∷ []) [] ++ mark_texts (suc r) ms ≡ mark_texts r (x ∷ ms)
    go true = refl
    go false = refl

static_nil : (r : ℕ) (fs : List Field) → static_texts r fs [] ≡ []
unfolding static_texts
static_nil r [] = refl
static_nil r (d ∷ fs) = refl

static_skip : (r : ℕ) (d : Field) (fs : List Field) (vs : List Value) → d.is_static ≡ false → static_texts (suc r) fs vs ≡ static_texts r (d ∷ fs) vs
unfolding static_texts pick
static_skip r d fs [] q = static_nil (suc r) fs
static_skip r d fs (v ∷ vs) q = rw q

-- a static field and its cell
pub record StaticTold (F : ℕ → List (List ℕ)) (r : ℕ) (fs : List Field) (vs : List Value) : Type 0 where
  pub said : (i : ℕ) (d : Field) (v : Value) → at fs i ≡ some d → d.is_static ≡ true → at vs (length (those is_static_field (take i fs))) ≡ some v → F (r + i) ≡ (decimal (r + i) ++ (58 ∷ cell_text v)) ∷ []
  pub unsaid : (i : ℕ) (d : Field) → at fs i ≡ some d → d.is_static ≡ false → F (r + i) ≡ []

-- the fields after the first, whose cells are us
told_next : (F : ℕ → List (List ℕ)) (r : ℕ) (d : Field) (fs : List Field) (vs us : List Value)
    → ((l : List Field) (u : Value) → at us (length l) ≡ some u → at vs (length (keep_if d.is_static d l)) ≡ some u) → StaticTold F r (d ∷ fs) vs → StaticTold F (suc r) fs us
unfolding at those is_static_field
told_next F r d fs vs us h t =
    record {
      said = λ i x u p s j. rw (next_row r i) (t.said (suc i) x u p s (h (those is_static_field (take i fs)) u j));
      unsaid = λ i x p s. rw (next_row r i) (t.unsaid (suc i) x p s);
    }

statics_list : (F : ℕ → List (List ℕ)) (fs : List Field) (vs : List Value) (r n : ℕ) → length fs ≤ n → length vs ≡ length (those is_static_field fs)
    → StaticTold F r fs vs → ((i : ℕ) → length fs ≤ i → i < n → F (r + i) ≡ []) → rows F r n ≡ static_texts r fs vs
unfolding at rows static_texts those keep_if is_static_field pick
statics_list F [] vs r n l e t z = rows_none F r n (λ i k. z i (omega arith) k)
statics_list F (d ∷ fs) vs r zero l e t z = absurd (omega arith)
statics_list F (d ∷ fs) vs r (suc n) l e t z =
    go d.is_static refl vs e t (λ ws k m. statics_list F fs ws (suc r) n (omega arith) k m (λ i p q. rw (next_row r i) (z (suc i) (omega arith) (omega arith))))
  where
    go : (b : Bool) → d.is_static ≡ b → (ws : List Value) → length ws ≡ length (keep_if d.is_static d (those is_static_field fs)) → StaticTold F r (d ∷ fs) ws
        → ((us : List Value) → length us ≡ length (those is_static_field fs) → StaticTold F (suc r) fs us → rows F (suc r) n ≡ static_texts (suc r) fs us)
        → F r ++ rows F (suc r) n ≡ static_texts r (d ∷ fs) ws
    go true q [] k m f = let x : 0 ≡ suc (length (those is_static_field fs)) = rw q at k in absurd (omega arith)
    go true q (v ∷ ws) k m f =
        let x : suc (length ws) ≡ suc (length (those is_static_field fs)) = rw q at k in
        let a : F r ≡ (decimal r ++ (58 ∷ cell_text v)) ∷ [] = simp add-zero at (m.said 0 d v refl q refl) in
        let y : rows F (suc r) n ≡ static_texts (suc r) fs ws = f ws (omega arith) (told_next F r d fs (v ∷ ws) ws (λ l u j. rw q j) m) in
        ap (λ (l : List (List ℕ)). l ++ rows F (suc r) n) a ∙ ap (λ (l : List (List ℕ)). (decimal r ++ (58 ∷ cell_text v)) ∷ l) y ∙ rw q
    go false q ws k m f =
        let x : length ws ≡ length (those is_static_field fs) = rw q at k in
        let a : F r ≡ [] = simp add-zero at (m.unsaid 0 d refl q) in
        ap (λ (l : List (List ℕ)). l ++ rows F (suc r) n) a ∙ f ws x (told_next F r d fs ws ws (λ l u j. rw q j) m) ∙ static_skip r d fs ws q

length_types : (fs : List Field) → length (field_types fs) ≡ length fs
unfolding field_types
length_types [] = refl
length_types (d ∷ fs) = ap suc (length_types fs)

-- ---- Methods

no_method_lem : (ms : List Method) (r : ℕ) → length ms < r → method_at ms r ≡ no_method
unfolding method_at or_else row
no_method_lem ms zero h = absurd (omega arith)
no_method_lem ms (suc r) h = rw (at_out ms r (omega arith))

-- ---- The arrays of a module and the layout of a state

module _ (M : Module) (fin : Fine M) (code : List ℕ) (L : Loaded) (hold : Holds M code L) where
  -- a column of each method, 0 for a method that is not there
  column_read : (k : ℕ) (f : Method → ℕ) → k < 32 → f no_method ≡ 0 → ((r : ℕ) → method_cell L.methods r k ≡ f (method_at M.methods r)) → (r : ℕ) → cell_of 129 32 L.methods r k ≡ f (method_at M.methods r)
  column_read k f l e h r = go (le_or_lt 129 r) where
    go : (129 ≤ r) ⊎ (r < 129) → cell_of 129 32 L.methods r k ≡ f (method_at M.methods r)
    go (inl j) = let m = fin.methods_few in cell_out 129 32 L.methods r k j ∙ sym (ap f (no_method_lem M.methods r (omega arith)) ∙ e)
    go (inr j) = cell_in_lem 129 32 L.methods r k j l ∙ h r

  argument_count : (r : ℕ) → cell_of 129 32 L.methods r 28 ≡ length (arguments (method_at M.methods r))
  unfolding arguments no_method this_of
  argument_count = column_read 28 (λ m. length (arguments m)) (omega arith) refl hold.by_method.argument_count

  local_count_lem : (r : ℕ) → cell_of 129 32 L.methods r 29 ≡ length (method_at M.methods r).locals
  unfolding no_method
  local_count_lem = column_read 29 (λ m. length m.locals) (omega arith) refl hold.by_method.local_count_lem

  no_argument : (i : ℕ) → byte_at (at (arguments no_method) i) ≡ 0
  unfolding arguments no_method this_of byte_at at
  no_argument i = refl

  no_local : (i : ℕ) → byte_at (at no_method.locals i) ≡ 0
  unfolding no_method byte_at at
  no_local i = refl

  argument_byte : (r i : ℕ) (t : Ty) → at (arguments (method_at M.methods r)) i ≡ some t → (i < 8) × (cell_of 129 32 L.methods r i ≡ byte_of t)
  argument_byte r i t e =
      let k : i < length (arguments (method_at M.methods r)) = at_in _ i t e in
      let f = arguments_few M fin r in
      (omega arith, column_read i (λ m. byte_at (at (arguments m) i)) (omega arith) (no_argument i) (λ q. hold.by_method.argument_type q i (omega arith)) r ∙ byte_some _ t e)

  local_byte : (r i : ℕ) (t : Ty) → at (method_at M.methods r).locals i ≡ some t → (i < 16) × (local_type L.methods r i ≡ byte_of t)
  unfolding local_type
  local_byte r i t e =
      let k : i < length (method_at M.methods r).locals = at_in _ i t e in
      let f = locals_few M fin r in
      let w : i + 8 ≡ 8 + i = omega arith in (
        omega arith,
        part_in 129 32 8 16 L.methods r i (omega arith)
            ∙ ap (cell_of 129 32 L.methods r) w
            ∙ column_read (8 + i) (λ m. byte_at (at m.locals i)) (omega arith) (no_local i) (λ q. hold.by_method.local_type_lem q i (omega arith)) r
            ∙ byte_some _ t e,
      )

  module _ (s : Model.State) (keep : Keeps M s) where
    -- ---- Frames

    module _ (j : ℕ) (f : Frame) (there : bottom s.frames j ≡ some f) where
      low : j < 32
      low = let a : j < length s.frames = bottom_in s.frames j f there in let b = keep.frames_few in omega arith

      -- a cell of the frame, and a kind
      kept_cell : (i : ℕ) → i < 64 → cell_of 32 64 (lay_out s).cells j i ≡ frame_cell i f
      unfolding lay_out
      kept_cell i h = cell_span frame_cell (bottom s.frames) 32 64 j i low h ∙ from_some (frame_cell i) _ f there

      kept_kind : (i : ℕ) → i < 64 → cell_of 32 64 (lay_out s).kinds j i ≡ frame_kind i f
      unfolding lay_out
      kept_kind i h = cell_span frame_kind (bottom s.frames) 32 64 j i low h ∙ from_some (frame_kind i) _ f there

      argument_cell : (i : ℕ) → i < 8 → cell_of 32 64 (lay_out s).cells j i ≡ from cell_in (at f.args i)
      unfolding frame_cell pick
      argument_cell i h = kept_cell i (omega arith) ∙ rw (lt-ltb i 8 h)

      local_cell : (i : ℕ) → i < 16 → part_of 32 64 8 16 (lay_out s).cells j i ≡ from cell_in (at f.locals i)
      unfolding frame_cell pick
      local_cell i h =
          let e : i + 8 - 8 ≡ i = omega arith in
          part_in 32 64 8 16 (lay_out s).cells j i h ∙ kept_cell (i + 8) (omega arith) ∙ rw (le-ltb (i + 8) 8 (omega arith), lt-ltb (i + 8) 24 (omega arith), e)

      stack_cell : (i : ℕ) → i < 32 → part_of 32 64 24 32 (lay_out s).cells j i ≡ from cell_in (bottom f.stack i)
      unfolding frame_cell pick
      stack_cell i h =
          let e : i + 24 - 24 ≡ i = omega arith in
          part_in 32 64 24 32 (lay_out s).cells j i h ∙ kept_cell (i + 24) (omega arith)
          ∙ rw (le-ltb (i + 24) 8 (omega arith), le-ltb (i + 24) 24 (omega arith), lt-ltb (i + 24) 56 (omega arith), e)

      stack_kind : (i : ℕ) → i < 32 → part_of 32 64 24 32 (lay_out s).kinds j i ≡ from kind_in (bottom f.stack i)
      unfolding frame_kind within pick
      stack_kind i h =
          let e : i + 24 - 24 ≡ i = omega arith in
          part_in 32 64 24 32 (lay_out s).kinds j i h ∙ kept_kind (i + 24) (omega arith) ∙ rw (le-leb 24 (i + 24) (omega arith), le-leb (i + 24) 55 (omega arith), e)

      args_read : arguments_in L.methods f.method (lay_out s).cells j ≡ f.args
      unfolding arguments_in argument_in
      args_read =
          typed_read (arguments (method_at M.methods f.method)) f.args _ _ _ (argument_count f.method) (keep.frame j f there).args_typed
          (λ i t v a e. let (b, y) = argument_byte f.method i t a in (y, argument_cell i b ∙ from_some cell_in _ v e))

      locals_read : locals_in L.methods f.method (lay_out s).cells j ≡ f.locals
      unfolding locals_in local_in
      locals_read =
          typed_read (method_at M.methods f.method).locals f.locals _ _ _ (local_count_lem f.method) (keep.frame j f there).locals_typed
          (λ i t v a e. let (b, y) = local_byte f.method i t a in (y, local_cell i b ∙ from_some cell_in _ v e))

      offset_read : cell_of 32 64 (lay_out s).cells j 56 ≡ f.offset
      unfolding frame_cell pick
      offset_read = kept_cell 56 (omega arith)

      depth_read : cell_of 32 64 (lay_out s).cells j 57 ≡ length f.stack
      unfolding frame_cell pick
      depth_read = kept_cell 57 (omega arith)

      method_read : cell_of 32 64 (lay_out s).cells j 58 ≡ f.method
      unfolding frame_cell pick
      method_read = kept_cell 58 (omega arith)

      stack_read : down (stack_in (lay_out s).kinds (lay_out s).cells j) (cell_of 32 64 (lay_out s).cells j 57) ≡ f.stack
      unfolding stack_in
      stack_read =
          rw depth_read
          (down_bottom f.stack _ (λ i v e.
          let b : i < 32 = let q = bottom_in f.stack i v e in let l = (keep.frame j f there).stack_few in omega arith in
          value_told v _ _ (stack_kind i b ∙ from_some kind_in _ v e) (stack_cell i b ∙ from_some cell_in _ v e) ((keep.frame j f there).stack_told i v e)))

      frame_read : one_frame L.methods (lay_out s).cells (lay_out s).kinds j ≡ f
      unfolding one_frame frame_in
      frame_read = rw (method_read, offset_read, args_read, locals_read, stack_read)

    frames_read : frames_in L.methods (lay_out s).live (lay_out s).cells (lay_out s).kinds ≡ s.frames
    unfolding frames_in lay_out
    frames_read = down_bottom s.frames (one_frame L.methods (lay_out s).cells (lay_out s).kinds) frame_read

    -- ---- Marks

    mark_read : (i : ℕ) → i < 33 → one_of 33 (lay_out s).marks i ≡ mark_at s.marks i
    unfolding lay_out
    mark_read i h = one_span (mark_at s.marks) 33 i h

    mark_row_lem : (i : ℕ) (b : Bool) → suc i < 33 → at s.marks i ≡ some b → mark_row (lay_out s).marks (suc i) ≡ pick b (decimal (suc i) ∷ []) []
    unfolding mark_row mark_text mark_at flag pick
    mark_row_lem i b h e = rw (mark_read (suc i) h) (rw (from_some flag _ b e) (go b)) where
      go : (b : Bool) → pick (eqb (flag b) 1) (decimal (suc i) ∷ []) [] ≡ pick b (decimal (suc i) ∷ []) []
      go true = refl
      go false = refl

    mark_none : (i : ℕ) → i < 33 → mark_at s.marks i ≡ 0 → mark_row (lay_out s).marks i ≡ []
    unfolding mark_row mark_text pick
    mark_none i h e = rw (mark_read i h, e)

    marks_read : up_to (mark_row (lay_out s).marks) 33 ≡ mark_texts 1 s.marks
    unfolding mark_at from
    marks_read =
        let few : length s.marks ≤ 32 = let a = keep.marks_long in let b = fin.classes_few in omega arith in
        rows_all (mark_row (lay_out s).marks) 32 (mark_none 0 (omega arith) refl)
        ∙ marks_list (mark_row (lay_out s).marks) s.marks 1 32 few
        (λ i b e. let q = at_in s.marks i b e in rw (one_plus i) (mark_row_lem i b (omega arith) e))
        (λ i h l. rw (one_plus i) (mark_none (suc i) (omega arith) (rw (at_out s.marks i h))))

    -- ---- Static fields

    static_row : (i : ℕ) (d : Field) → at M.fields i ≡ some d → suc i < 129
    static_row i d e = let q = at_in M.fields i d e in let f = fin.fields_few in omega arith

    -- a column of a field's row
    field_read : (r k : ℕ) → r < 129 → k < 4 → cell_of 129 4 L.fields r k ≡ field_cell L.fields r k
    field_read r k h l = cell_in_lem 129 4 L.fields r k h l

    static_read : (i : ℕ) (d : Field) (v : Value) → at M.fields i ≡ some d → d.is_static ≡ true → at s.statics (length (those is_static_field (take i M.fields))) ≡ some v
        → static_at L.fields (lay_out s).statics (suc i) ≡ (decimal (suc i) ++ (58 ∷ cell_text v)) ∷ []
    unfolding static_at static_text lay_out static_types from_row row flag slot slot_in pick
    static_read i d v e q a =
        let h = static_row i d e in
        let one : suc i - 1 ≡ i = omega arith in
        let n = length (those is_static_field (take i M.fields)) in
        let fl : cell_of 129 4 L.fields (suc i) 1 ≡ 1 = field_read (suc i) 1 h (omega arith) ∙ hold.by_field.static (suc i) ∙ rw (e, q) in
        let ty : cell_of 129 4 L.fields (suc i) 2 ≡ byte_of d.type = field_read (suc i) 2 h (omega arith) ∙ hold.by_field.type (suc i) ∙ rw e in
        let sl : cell_of 129 4 L.fields (suc i) 3 ≡ n = field_read (suc i) 3 h (omega arith) ∙ hold.by_field.slot_at (suc i) ∙ rw e (rw (q, one)) in
        let found : at (static_types M) n ≡ some d.type = rw (q, one) at (static_found M fin (suc i) d e q) in
        let few : n < 64 =
        let x = at_in s.statics n v a in
        let y = keep.statics_typed.long in
        let z = fin.statics_few in
        let w : length (static_types M) ≡ length (those is_static_field M.fields) = length_types (those is_static_field M.fields) in
        omega arith in
        rw (fl, ty, sl)
        (rw (value_typed d.type v (byte_of d.type) _ refl (one_span (λ k. from cell_in (at s.statics k)) 64 n few ∙ from_some cell_in _ v a) (keep.statics_typed.told n d.type v found a)))

    static_none : (i : ℕ) → i < 129 → from_row (λ (d : Field). flag d.is_static) (row M.fields i) ≡ 0 → static_at L.fields (lay_out s).statics i ≡ []
    unfolding static_at static_text pick
    static_none i h q = let fl : cell_of 129 4 L.fields i 1 ≡ 0 = field_read i 1 h (omega arith) ∙ hold.by_field.static i ∙ q in rw fl

    statics_read : up_to (static_at L.fields (lay_out s).statics) 129 ≡ static_texts 1 M.fields s.statics
    unfolding from_row row flag static_types
    statics_read =
        rows_all _ 128 (static_none 0 (omega arith) refl)
        ∙ statics_list _ M.fields s.statics 1 128 fin.fields_few (keep.statics_typed.long ∙ length_types (those is_static_field M.fields))
        (record {
          said = λ i d v e q a. rw (one_plus i) (static_read i d v e q a);
          unsaid = λ i d e q. rw (one_plus i) (static_none (suc i) (static_row i d e) (rw (e, q)));
        })
        (λ i h l. rw (one_plus i) (static_none (suc i) (omega arith) (rw (at_out M.fields i h))))

    -- ---- Objects

    module _ (types statics : List ℕ) (typed : HoldsTypes M types statics) where
      cells_read : (r : ℕ) (o : Object) → r < 256 → get_or s.heap r none ≡ some o → span (field_in types o.class (lay_out s).heap r) 0 (size_of types o.class 8) ≡ o.cells
      unfolding field_in lay_out object_cell
      cells_read r o h there =
          let k = keep.object r o there in
          let q : o.class < 33 = let a = k.class_few in omega arith in
          typed_read (types_of M o.class) o.cells _ _ _ (size_read M fin types statics typed o.class k.class_few) k.cells_typed
          (λ i t v a e.
          let b : i < 8 = let x = at_in (types_of M o.class) i t a in let y = fin.cells_few o.class in omega arith in (
            cell_in_lem 33 8 types o.class i q b ∙ typed.cell_type o.class i k.class_few b ∙ byte_some _ t a,
            cell_span object_cell (λ x. get_or s.heap x none) 256 8 r i h b ∙ from_some (object_cell i) _ o there ∙ from_some cell_in _ v e,
          ))

      class_read : (r : ℕ) → r < 256 → one_of 256 (lay_out s).classes r ≡ from (λ (o : Object). o.class) (get_or s.heap r none)
      unfolding lay_out
      class_read r h = one_span (λ x. from (λ (o : Object). o.class) (get_or s.heap x none)) 256 r h

      place_read : (r : ℕ) (x : Option Object) → r < 256 → get_or s.heap r none ≡ x → place_in (lay_out s).classes types (lay_out s).heap r ≡ x
      unfolding place_in place_of from pick
      place_read r none h e = rw (class_read r h, e)
      place_read r (some o) h e =
          let n : eqb o.class 0 ≡ false = ne_eqb o.class 0 (λ z. let p = (keep.object r o e).class_there in omega arith) in
          rw (class_read r h, e) (rw (n, cells_read r o h e))

      heap_read : heap_in (lay_out s).classes types (lay_out s).heap ≡ s.heap
      unfolding heap_in
      heap_read =
          rw (sym keep.heap_long)
          (span_whole s.heap _ (λ r x e. let q = at_in s.heap r x e in let l = keep.heap_long in place_read r x (omega arith) (get_d_at s.heap r none x e)))

      -- the text over the arrays of a layout is the text of the state
      pub whole_read : whole_text L.methods L.fields types (lay_out s) ≡ state_text M s
      unfolding whole_text state_text
      whole_read = rw (frames_read, statics_read, marks_read, heap_read)
