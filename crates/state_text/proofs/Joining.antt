-- Texts one after the other: one more cell, row, object or frame at the end.
use Prim.Native.Nat.{ℕ, zero, suc, ◌+◌, ◌≤◌}
use mathlib.Core.Path.{◌≡◌, refl, sym, ap, ◌∙◌}
use mathlib.Core.Bool.{Bool, false}
use mathlib.Core.Option.{Option, none, some}
use mathlib.Core.List.{List, [], ◌∷◌, ◌++◌, append-nil, append_assoc, map, reverse, reverse_aux-eq}
use native.Mathlib.Omega.{arith}
use native.Mathlib.Nat.{add-zero, zero-add}
use native.Mathlib.Numerals.{add-one}
use lib.Dec.{eqb}
use borrow.Author.Tests.{lt-ltb, le-ltb, ne_eqb}
use Rattle.model.specs.Answer.{pick, is_nil}
use Rattle.model.specs.State.{Value, Frame, Object, Heap}
use Rattle.model.specs.Turn.{decimal}
use Rattle.model.specs.Replay.{cell_text, commas, cell_texts, frame_text, frames_text, heap_text}
use Rattle.state.specs.View.{down, span, kind_of_byte, refer_to, value_by}
use Rattle.line.specs.Append.{appended}
use Rattle.line.specs.declared.text.Text.{Text}
use Rattle.line.proofs.Appending.{added_then}
use Rattle.state_text.specs.Texts.{value_in, comma, up_to}

-- ---- A cell by its kind

pub other_kind : (k b : ℕ) → (k ≡ 1 → ⊥) → (k ≡ 2 → ⊥) → (k ≡ 3 → ⊥) → value_in k b ≡ refer_to b
unfolding value_in kind_of_byte value_by pick
other_kind zero b x y z = refl
other_kind (suc zero) b x y z = absurd (x refl)
other_kind (suc (suc zero)) b x y z = absurd (y refl)
other_kind (suc (suc (suc zero))) b x y z = absurd (z refl)
other_kind (suc (suc (suc (suc k)))) b x y z = rw (lt-ltb 3 (suc (suc (suc (suc k)))) (omega arith))

pub kind_text : {k : ℕ} (n b : ℕ) → k ≡ n → n ≤ 3 → cell_text (value_in k b) ≡ cell_text (value_by n b)
unfolding value_in kind_of_byte pick
kind_text n b e l = rw (e, le-ltb 3 n l)

pub null_text : (b : ℕ) → b ≡ 0 → cell_text (refer_to b) ≡ 110 ∷ []
unfolding cell_text refer_to
null_text b e = rw e

pub object_text : (b : ℕ) → (b ≡ 0 → ⊥) → cell_text (refer_to b) ≡ 111 ∷ decimal b
unfolding cell_text refer_to
object_text zero h = absurd (h refl)
object_text (suc b) h = refl

-- ---- Commas

commas_more : (l : List (List ℕ)) (x : List ℕ) → commas (l ++ (x ∷ [])) ≡ commas l ++ (comma (is_nil l) ++ x)
unfolding commas comma is_nil
commas_more [] x = refl
commas_more (y ∷ []) x = refl
commas_more (y ∷ z ∷ l) x = rw (commas_more (z ∷ l) x) (sym (append_assoc y (44 ∷ commas (z ∷ l)) (44 ∷ x)))

span_more : {A : Type 0} (f : ℕ → A) (i n : ℕ) → span f i (suc n) ≡ span f i n ++ (f (i + n) ∷ [])
unfolding span
span_more f i zero = rw add-zero
span_more f i (suc n) = let e : i + suc n ≡ suc i + n = omega arith in rw e (ap (λ l. f i ∷ l) (span_more f (suc i) n))

map_append : {A B : Type 0} (f : A → B) (l m : List A) → map f (l ++ m) ≡ map f l ++ map f m
map_append f [] m = refl
map_append f (x ∷ l) m = ap (λ k. f x ∷ k) (map_append f l m)

nil_map : (g : ℕ → Value) (n : ℕ) → is_nil (map cell_text (span g 0 n)) ≡ eqb n 0
unfolding is_nil span
nil_map g zero = refl
nil_map g (suc n) = sym (ne_eqb (suc n) 0 (λ e. omega arith))

cells_more : (g : ℕ → Value) (n : ℕ) → cell_texts (span g 0 (n + 1)) ≡ cell_texts (span g 0 n) ++ (comma (eqb n 0) ++ cell_text (g n))
unfolding cell_texts
cells_more g n =
    ap (λ (k : ℕ). commas (map cell_text (span g 0 k))) (add-one n)
    ∙ rw (span_more g 0 n, map_append cell_text (span g 0 n) (g (0 + n) ∷ []), zero-add n)
    (commas_more (map cell_text (span g 0 n)) (cell_text (g n)) ∙ rw (nil_map g n))

-- one more cell of a row
pub cell_more : (x y z w : Text) (g : ℕ → Value) (n : ℕ)
    → y ≡ appended x (cell_texts (span g 0 n)) → z ≡ appended y (comma (eqb n 0)) → w ≡ appended z (cell_text (g n)) → w ≡ appended x (cell_texts (span g 0 (n + 1)))
cell_more x y z w g n p q r =
    added_then x y w _ _ p (added_then y z w _ _ q r) ∙ ap (appended x) (sym (cells_more g n))

-- ---- Rows of which some have a text

none_after : (l : List (List ℕ)) (x : List ℕ) → false ≡ is_nil (l ++ (x ∷ []))
unfolding is_nil
none_after [] x = refl
none_after (y ∷ l) x = refl

module _ (f : ℕ → List (List ℕ)) (n : ℕ) (first : Bool) (a b : Text) (h : first ≡ is_nil (up_to f n)) (p : b ≡ appended a (commas (up_to f n))) where
  -- a row that has one
  pub row_said : (x : List ℕ) (c : Text) → f n ≡ x ∷ [] → c ≡ appended b (comma first ++ x) → (c ≡ appended a (commas (up_to f (n + 1)))) × (false ≡ is_nil (up_to f (n + 1)))
  unfolding up_to
  row_said x c e q =
      let more : up_to f (n + 1) ≡ up_to f n ++ (x ∷ []) = rw (add-one n) (ap (λ (l : List (List ℕ)). up_to f n ++ l) e) in (
        added_then a b c _ _ p q ∙ ap (appended a) (rw (h, more) (sym (commas_more (up_to f n) x))),
        none_after (up_to f n) x ∙ ap is_nil (sym more),
      )

  -- and one that has none
  pub row_unsaid : f n ≡ [] → (b ≡ appended a (commas (up_to f (n + 1)))) × (first ≡ is_nil (up_to f (n + 1)))
  unfolding up_to
  row_unsaid e =
      let same : up_to f n ≡ up_to f (n + 1) = rw (add-one n) (sym (ap (λ (l : List (List ℕ)). up_to f n ++ l) e ∙ append-nil (up_to f n))) in
      (p ∙ ap (λ (l : List (List ℕ)). appended a (commas l)) same, h ∙ ap is_nil same)

-- ---- Objects

heap_append : (h k : Heap) → heap_text (h ++ k) ≡ heap_text h ++ heap_text k
unfolding heap_text
heap_append [] k = refl
heap_append (none ∷ h) k = heap_append h k
heap_append (some o ∷ h) k = rw (heap_append h k) (simp append_assoc)

pub place_more : (x y z : Text) (P : ℕ → Option Object) (n : ℕ)
    → y ≡ appended x (heap_text (span P 0 n)) → z ≡ appended y (heap_text (P n ∷ [])) → z ≡ appended x (heap_text (span P 0 (n + 1)))
place_more x y z P n p q =
    added_then x y z _ _ p q
    ∙ ap (appended x) (sym (ap (λ (k : ℕ). heap_text (span P 0 k)) (add-one n) ∙ rw (span_more P 0 n, zero-add n) (heap_append (span P 0 n) (P n ∷ []))))

-- ---- Frames

frames_before : (fs : List Frame) (l : List ℕ) → frames_text fs l ≡ frames_text fs [] ++ l
unfolding frames_text
frames_before [] l = refl
frames_before (f ∷ fs) l =
    frames_before fs (frame_text f ++ l) ∙ sym (rw (frames_before fs (frame_text f ++ [])) (simp append_assoc))

pub frame_more : (x y z : Text) (W : ℕ → Frame) (n : ℕ)
    → y ≡ appended x (frames_text (down W n) []) → z ≡ appended y (frame_text (W n)) → z ≡ appended x (frames_text (down W (n + 1)) [])
unfolding down frames_text
frame_more x y z W n p q =
    added_then x y z _ _ p q
    ∙ ap (appended x) (sym (ap (λ (k : ℕ). frames_text (down W k) []) (add-one n) ∙ frames_before (down W n) (frame_text (W n) ++ []) ∙ rw (append-nil (frame_text (W n)))))

-- a stack from its bottom
pub reverse_down : {A : Type 0} (g : ℕ → A) (n : ℕ) → reverse (down g n) ≡ span g 0 n
unfolding down span
reverse_down g zero = refl
reverse_down g (suc n) = reverse_aux-eq (down g n) (g n ∷ []) ∙ rw (reverse_down g n) (sym (span_more g 0 n ∙ rw (zero-add n)))
