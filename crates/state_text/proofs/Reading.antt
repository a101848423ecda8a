-- Readings inside and outside of the cells, and the texts of what is read.
use Prim.Native.Nat.{ℕ, zero, suc, ◌+◌, ◌*◌, ◌≤◌, ◌<◌}
use mathlib.Core.Path.{◌≡◌, refl, sym, ap, ◌∙◌}
use mathlib.Core.List.{List, [], ◌∷◌, ◌++◌}
use lib.ListN.{get_or, get_or-eq_default, length, take, drop, length-take, length-drop}
use Rattle.std.proofs.lemmas.List.{get_or-take, get_or-drop}
use native.Mathlib.Omega.{arith}
use native.Mathlib.Nat.{mul-le-mul_right}
use mathlib.Core.Logic.{◌⊎◌, inl, inr}
use Rattle.faithful.proofs.Lists.{le_or_lt}
use lib.Dec.{ltb}
use borrow.Author.Tests.{lt-ltb, le-ltb, eq-eqb, ne_eqb}
use Rattle.model.specs.Answer.{pick}
use Rattle.model.specs.Turn.{decimal}
use Rattle.model.specs.Replay.{cell_text, cell_texts, frame_text, heap_text}
use Rattle.state.specs.View.{span}
use Rattle.state_text.specs.Texts.{one_of, cell_of, value_in, part_of, local_type, argument_in, local_in, arguments_in, locals_in, stack_in, frame_in, one_frame, static_text, static_at, mark_text, mark_row, field_in, size_of, place_of, place_in}
use Rattle.state_text.proofs.Joining.{reverse_down}

-- ---- Cells

module _ (n : ℕ) (l : List ℕ) (i : ℕ) where
  pub one_in : i < n → one_of n l i ≡ get_or l i 0
  unfolding one_of pick
  one_in h = rw (lt-ltb i n h)

  pub one_out : n ≤ i → one_of n l i ≡ 0
  unfolding one_of pick
  one_out h = rw (le-ltb i n h)

module _ (n w : ℕ) (l : List ℕ) (r i : ℕ) where
  pub cell_in_lem : r < n → i < w → cell_of n w l r i ≡ get_or l (r * w + i) 0
  unfolding cell_of pick
  cell_in_lem h k = rw (lt-ltb r n h, lt-ltb i w k)

  pub cell_past : r < n → w ≤ i → cell_of n w l r i ≡ 0
  unfolding cell_of pick
  cell_past h k = rw (lt-ltb r n h, le-ltb i w k)

  pub cell_out : n ≤ r → cell_of n w l r i ≡ 0
  unfolding cell_of pick
  cell_out h = rw (le-ltb r n h)

module _ (n w a k : ℕ) (l : List ℕ) (r i : ℕ) where
  pub part_in : i < k → part_of n w a k l r i ≡ cell_of n w l r (i + a)
  unfolding part_of pick
  part_in h = rw (lt-ltb i k h)

  pub part_out : k ≤ i → part_of n w a k l r i ≡ 0
  unfolding part_of pick
  part_out h = rw (le-ltb i k h)

-- ---- Rows and their parts

module _ (n w : ℕ) (l : List ℕ) (r : ℕ) (e : length l ≡ n * w) where
  pub row_cell : (i : ℕ) → get_or (take w (drop (r * w) l)) i 0 ≡ cell_of n w l r i
  row_cell i = go (le_or_lt n r) (le_or_lt w i) where
    go : (n ≤ r) ⊎ (r < n) → (w ≤ i) ⊎ (i < w) → get_or (take w (drop (r * w) l)) i 0 ≡ cell_of n w l r i
    go (inl h) k =
        let m : n * w ≤ r * w = mul-le-mul_right w h in
        get_or-eq_default (take w (drop (r * w) l)) 0 (omega (arith, length-take w (drop (r * w) l), length-drop (r * w) l)) ∙ sym (cell_out n w l r i h)
    go (inr h) (inl k) = get_or-eq_default (take w (drop (r * w) l)) 0 (omega (arith, length-take w (drop (r * w) l))) ∙ sym (cell_past n w l r i h k)
    go (inr h) (inr k) = get_or-take w (drop (r * w) l) i 0 k ∙ get_or-drop (r * w) l i 0 ∙ sym (cell_in_lem n w l r i h k)

  pub part_cell : (a k i : ℕ) → get_or (take k (drop a (take w (drop (r * w) l)))) i 0 ≡ part_of n w a k l r i
  part_cell a k i = go (le_or_lt k i) where
    go : (k ≤ i) ⊎ (i < k) → get_or (take k (drop a (take w (drop (r * w) l)))) i 0 ≡ part_of n w a k l r i
    go (inl h) = get_or-eq_default (take k (drop a (take w (drop (r * w) l)))) 0 (omega (arith, length-take k (drop a (take w (drop (r * w) l))))) ∙ sym (part_out n w a k l r i h)
    go (inr h) =
        let c : a + i ≡ i + a = omega arith in
        get_or-take k (drop a (take w (drop (r * w) l))) i 0 h ∙ get_or-drop a (take w (drop (r * w) l)) i 0 ∙ ap (λ (j : ℕ). get_or (take w (drop (r * w) l)) j 0) c
        ∙ row_cell (i + a) ∙ sym (part_in n w a k l r i h)

span_same : {A : Type 0} (f g : ℕ → A) → ((i : ℕ) → f i ≡ g i) → (i n : ℕ) → span f i n ≡ span g i n
unfolding span
span_same f g h i zero = refl
span_same f g h i (suc n) = rw (h i, span_same f g h (suc i) n)

-- the cells of a row, and what is read of them
pub cells_same : (K B : List ℕ) (k b : ℕ → ℕ) → ((i : ℕ) → get_or K i 0 ≡ k i) → ((i : ℕ) → get_or B i 0 ≡ b i)
    → (n : ℕ) → cell_texts (span (λ i. value_in (get_or K i 0) (get_or B i 0)) 0 n) ≡ cell_texts (span (λ i. value_in (k i) (b i)) 0 n)
cells_same K B k b p q n =
    ap cell_texts (span_same (λ i. value_in (get_or K i 0) (get_or B i 0)) (λ i. value_in (k i) (b i)) (λ i. rw (p i, q i)) 0 n)

one_cell : (n : ℕ) (l : List ℕ) (i : ℕ) → length l ≡ n → get_or l i 0 ≡ one_of n l i
unfolding one_of pick
one_cell n l i e = go (le_or_lt n i) where
  go : (n ≤ i) ⊎ (i < n) → get_or l i 0 ≡ pick (ltb i n) (get_or l i 0) 0
  go (inl h) = rw (le-ltb i n h) (get_or-eq_default l 0 (omega arith))
  go (inr h) = rw (lt-ltb i n h)

-- ---- Rows of which some are said

module _ (fields bits : List ℕ) (r : ℕ) (ef : length fields ≡ 516) (eb : length bits ≡ 64) (field : List ℕ) (pf : field ≡ take 4 (drop (r * 4) fields)) where
  column : (i : ℕ) → cell_of 129 4 fields r i ≡ get_or field i 0
  column i = rw pf (sym (row_cell 129 4 fields r ef i))

  pub static_there : get_or field 1 0 ≡ 1 → static_at fields bits r ≡ (decimal r ++ (58 ∷ cell_text (value_in (get_or field 2 0) (get_or bits (get_or field 3 0) 0)))) ∷ []
  unfolding static_at static_text pick
  static_there e = rw (column 1, column 2, column 3) (rw (e, sym (one_cell 64 bits (get_or field 3 0) eb)))

  pub static_gone : (get_or field 1 0 ≡ 1 → ⊥) → static_at fields bits r ≡ []
  unfolding static_at static_text pick
  static_gone e = rw (column 1) (rw (ne_eqb (get_or field 1 0) 1 e))

module _ (started : List ℕ) (r : ℕ) (e : length started ≡ 33) where
  pub mark_there : get_or started r 0 ≡ 1 → mark_row started r ≡ decimal r ∷ []
  unfolding mark_row mark_text pick
  mark_there h = rw (sym (one_cell 33 started r e)) (rw h)

  pub mark_gone : (get_or started r 0 ≡ 1 → ⊥) → mark_row started r ≡ []
  unfolding mark_row mark_text pick
  mark_gone h = rw (sym (one_cell 33 started r e)) (rw (ne_eqb (get_or started r 0) 1 h))

-- ---- Places, frames, the whole

module _ (types heap : List ℕ) (r k : ℕ) where
  pub free_text : k ≡ 0 → [] ≡ heap_text (place_of types heap r k ∷ [])
  unfolding place_of heap_text pick
  free_text e = rw (eq-eqb k 0 e)

  pub place_text : (n : ℕ) → (k ≡ 0 → ⊥) → n ≡ size_of types k 8
      → 40 ∷ (decimal k ++ (59 ∷ (cell_texts (span (field_in types k heap r) 0 n) ++ (41 ∷ [])))) ≡ heap_text (place_of types heap r k ∷ [])
  unfolding place_of heap_text pick
  place_text n h e = rw (ne_eqb k 0 h, e)

-- what is read of a frame by the rows of its arrays
module _ (methods cells kinds : List ℕ) (f r : ℕ) (em : length methods ≡ 4128) (ec : length cells ≡ 2048) (ek : length kinds ≡ 2048)
    (method frame kept : List ℕ) (pm : method ≡ take 32 (drop (r * 32) methods)) (pf : frame ≡ take 64 (drop (f * 64) cells)) (pk : kept ≡ take 64 (drop (f * 64) kinds)) where
  pub of_method : (i : ℕ) → get_or method i 0 ≡ cell_of 129 32 methods r i
  of_method i = rw pm (row_cell 129 32 methods r em i)

  pub of_frame : (i : ℕ) → get_or frame i 0 ≡ cell_of 32 64 cells f i
  of_frame i = rw pf (row_cell 32 64 cells f ec i)

  pub arguments_read : (n : ℕ) → n ≡ get_or method 28 0
      → cell_texts (span (λ i. value_in (get_or method i 0) (get_or frame i 0)) 0 n) ≡ cell_texts (arguments_in methods r cells f)
  unfolding arguments_in argument_in
  arguments_read n e = cells_same method frame (cell_of 129 32 methods r) (cell_of 32 64 cells f) of_method of_frame n ∙ rw (e, of_method 28)

  pub locals_read : (types bits : List ℕ) → types ≡ take 16 (drop 8 method) → bits ≡ take 16 (drop 8 frame) → (n : ℕ) → n ≡ get_or method 29 0
      → cell_texts (span (λ i. value_in (get_or types i 0) (get_or bits i 0)) 0 n) ≡ cell_texts (locals_in methods r cells f)
  unfolding locals_in local_in local_type
  locals_read types bits p q n e =
      cells_same types bits (part_of 129 32 8 16 methods r) (part_of 32 64 8 16 cells f)
      (λ i. rw (p, pm) (part_cell 129 32 methods r em 8 16 i)) (λ i. rw (q, pf) (part_cell 32 64 cells f ec 8 16 i)) n
      ∙ rw (e, of_method 29)

  pub stack_read : (types bits : List ℕ) → types ≡ take 32 (drop 24 kept) → bits ≡ take 32 (drop 24 frame) → (n : ℕ) → n ≡ get_or frame 57 0
      → cell_texts (span (λ i. value_in (get_or types i 0) (get_or bits i 0)) 0 n) ≡ cell_texts (span (stack_in kinds cells f) 0 (cell_of 32 64 cells f 57))
  unfolding stack_in
  stack_read types bits p q n e =
      cells_same types bits (part_of 32 64 24 32 kinds f) (part_of 32 64 24 32 cells f)
      (λ i. rw (p, pk) (part_cell 32 64 kinds f ek 24 32 i)) (λ i. rw (q, pf) (part_cell 32 64 cells f ec 24 32 i)) n
      ∙ rw (e, of_frame 57)

-- and of an object
module _ (types heap : List ℕ) (r k : ℕ) (et : length types ≡ 264) (eh : length heap ≡ 2048) (kinds bits : List ℕ)
    (pt : kinds ≡ take 8 (drop (k * 8) types)) (ph : bits ≡ take 8 (drop (r * 8) heap)) where
  pub fields_read : (n : ℕ) → cell_texts (span (λ i. value_in (get_or kinds i 0) (get_or bits i 0)) 0 n) ≡ cell_texts (span (field_in types k heap r) 0 n)
  unfolding field_in
  fields_read n =
      cells_same kinds bits (cell_of 33 8 types k) (cell_of 256 8 heap r) (λ i. rw pt (row_cell 33 8 types k et i)) (λ i. rw ph (row_cell 256 8 heap r eh i)) n

pub place_read : (classes types heap : List ℕ) (r : ℕ) → length classes ≡ 256 → place_of types heap r (get_or classes r 0) ≡ place_in classes types heap r
unfolding place_in
place_read classes types heap r e = rw (sym (one_cell 256 classes r e))

pub frame_text_lem : (methods cells kinds : List ℕ) (i r o : ℕ) → r ≡ cell_of 32 64 cells i 58 → o ≡ cell_of 32 64 cells i 56
    → 91 ∷ (decimal r ++ (44 ∷ (decimal o ++ (59 ∷ (cell_texts (arguments_in methods r cells i) ++ (59 ∷ (cell_texts (locals_in methods r cells i)
    ++ (59 ∷ (cell_texts (span (stack_in kinds cells i) 0 (cell_of 32 64 cells i 57)) ++ (93 ∷ []))))))))))
    ≡ frame_text (one_frame methods cells kinds i)
unfolding one_frame frame_in frame_text
frame_text_lem methods cells kinds i r o e q = rw (e, q, reverse_down (stack_in kinds cells i) (cell_of 32 64 cells i 57))
