-- The cells, kinds and fields that are handed back are the definition's.
use Prim.Native.Nat.{ℕ, ◌+◌, ◌-◌, ◌*◌, ◌/◌, ◌%◌, ◌≤◌, ◌<◌}
use mathlib.Core.Path.{◌≡◌, refl, sym, ◌∙◌}
use mathlib.Core.Bool.{Bool, true, false}
use mathlib.Core.List.{List}
use native.Mathlib.Omega.{arith}
use lib.ListN.{length, get_or, set, take, drop, length-set}
use borrow.Rule.Slice.PartMut.{put_mid}
use lib.Seq.{get_or-set_same, get_or-set_other}
use lib.Dec.{ltb, eqb}
use borrow.Author.Tests.{lt-ltb, le-ltb, ltb-true, ltb-false, le-leb, lt-leb, eqb-true, eqb-false}
use Rattle.model.specs.Answer.{pick}
use Rattle.model.specs.Loading.{within}
use Rattle.loaded.specs.Holds.{method_cell}
use Rattle.state.specs.View.{depth_of, method_of, span}
use Rattle.state.specs.Order.{Saved}
use Rattle.state.specs.Layout.{signed32, tidy_bits, tidy_byte, tidy_cell, tidy_kind, tidy_cells, tidy_kinds, tidy_heap}
use Rattle.across_frames.specs.Lent.{Framed}
use Rattle.begin_end.specs.Ending.{saved_cells, Waiting, Blank, Changed}
use Rattle.begin_end.proofs.Changing.{get_d_span, span_ext, kept, rewritten, join, changed_all, reached}

-- ---- The cell m of a live frame

module _ (methods cells kinds : List ℕ) (f m : ℕ) where
  cell_variable : m < 24 → tidy_cell methods cells kinds f m ≡ tidy_byte (method_cell methods (method_of cells f) m) (get_or cells (f * 64 + m) 0)
  unfolding tidy_cell pick
  cell_variable h = rw (lt-ltb m 24 h)

  cell_stack : 24 ≤ m → m < 56 → m - 24 < depth_of cells f → tidy_cell methods cells kinds f m ≡ tidy_bits (get_or kinds (f * 64 + m) 0) (get_or cells (f * 64 + m) 0)
  unfolding tidy_cell pick
  cell_stack l h d = rw (le-ltb m 24 l, lt-ltb m 56 h, lt-ltb (m - 24) (depth_of cells f) d)

  cell_dead : 24 ≤ m → m < 56 → depth_of cells f ≤ m - 24 → tidy_cell methods cells kinds f m ≡ 0
  unfolding tidy_cell pick
  cell_dead l h d = rw (le-ltb m 24 l, lt-ltb m 56 h, le-ltb (m - 24) (depth_of cells f) d)

  cell_saved : 56 ≤ m → m < 59 → tidy_cell methods cells kinds f m ≡ get_or cells (f * 64 + m) 0
  unfolding tidy_cell pick
  cell_saved l h = rw (le-ltb m 24 (omega arith), le-ltb m 56 l, lt-ltb m 59 h)

  cell_past : 59 ≤ m → tidy_cell methods cells kinds f m ≡ 0
  unfolding tidy_cell pick
  cell_past l = rw (le-ltb m 24 (omega arith), le-ltb m 56 (omega arith), le-ltb m 59 l)

  cell_ext : (other : List ℕ) → ((i : ℕ) → get_or cells (f * 64 + i) 0 ≡ get_or other (f * 64 + i) 0)
      → tidy_cell methods cells kinds f m ≡ tidy_cell methods other kinds f m
  unfolding tidy_cell
  cell_ext other h = rw (h m, h 57, h 58)

module _ (methods kinds : List ℕ) (f depth row : ℕ) (few : depth ≤ 32) {l₀ l₁ l₂ l₃ l₄ : List ℕ} (ed : depth ≡ depth_of l₀ f) (er : row ≡ method_of l₀ f)
    (d₁ : Changed (λ j. tidy_byte (method_cell methods row (j - f * 64)) (get_or l₀ j 0)) (f * 64) (f * 64 + 24) l₀ l₁)
    (d₂ : Changed (λ j. tidy_bits (get_or kinds j 0) (get_or l₁ j 0)) (f * 64 + 24) (f * 64 + 24 + depth) l₁ l₂)
    (d₃ : Changed (λ j. 0) (f * 64 + 24 + depth) (f * 64 + 56) l₂ l₃)
    (d₄ : Changed (λ j. 0) (f * 64 + 58 + 1) (f * 64 + 64) l₃ l₄) where
  abbrev cell_of : ℕ → ℕ
  cell_of j = tidy_cell methods l₀ kinds f (j - f * 64)

  variable_is : (j : ℕ) → f * 64 ≤ j → j < f * 64 + 24 → tidy_byte (method_cell methods row (j - f * 64)) (get_or l₀ j 0) ≡ cell_of j
  variable_is j a b =
      let x : f * 64 + (j - f * 64) ≡ j = omega arith in
      rw (cell_variable methods l₀ kinds f (j - f * 64) (omega arith), x, er)

  stack_is : (j : ℕ) → f * 64 + 24 ≤ j → j < f * 64 + 24 + depth → tidy_bits (get_or kinds j 0) (get_or l₁ j 0) ≡ cell_of j
  stack_is j a b =
      let x : f * 64 + (j - f * 64) ≡ j = omega arith in
      let y : j - f * 64 - 24 < depth_of l₀ f = omega arith in
      rw (cell_stack methods l₀ kinds f (j - f * 64) (omega arith) (omega arith) y, x, d₁.above j a)

  dead_is : (j : ℕ) → f * 64 + 24 + depth ≤ j → j < f * 64 + 56 → 0 ≡ cell_of j
  dead_is j a b =
      let y : depth_of l₀ f ≤ j - f * 64 - 24 = omega arith in
      sym (cell_dead methods l₀ kinds f (j - f * 64) (omega arith) (omega arith) y)

  saved_is : (j : ℕ) → f * 64 + 56 ≤ j → j < f * 64 + 58 + 1 → get_or l₃ j 0 ≡ cell_of j
  saved_is j a b =
      let x : f * 64 + (j - f * 64) ≡ j = omega arith in
      rw (cell_saved methods l₀ kinds f (j - f * 64) (omega arith) (omega arith), x)
      (d₃.above j a ∙ (d₂.above j (omega arith) ∙ d₁.above j (omega arith)))

  past_is : (j : ℕ) → f * 64 + 58 + 1 ≤ j → j < f * 64 + 64 → 0 ≡ cell_of j
  past_is j a b = sym (cell_past methods l₀ kinds f (j - f * 64) (omega arith))

  pub frame_left : Changed (λ j. tidy_cell methods l₀ kinds f (j - f * 64)) (f * 64) (f * 64 + 64) l₀ l₄
  frame_left =
      let a : Changed cell_of (f * 64) (f * 64 + 24 + depth) l₀ l₂ = join cell_of d₁ d₂ (omega arith) (omega arith) variable_is stack_is in
      let b : Changed cell_of (f * 64) (f * 64 + 56) l₀ l₃ = join cell_of a d₃ (omega arith) (omega arith) (λ j u w. refl) dead_is in
      let e : Changed cell_of (f * 64) (f * 64 + 58 + 1) l₀ l₃ = join cell_of b (kept (f * 64 + 56) (f * 64 + 58 + 1) l₃) (omega arith) (omega arith)
      (λ j u w. refl) saved_is in
      join cell_of e d₄ (omega arith) (omega arith) (λ j u w. refl) past_is

-- what the two parts of a frame come to that are shown by bytes
abbrev Each : (ℕ → ℕ → ℕ) → List ℕ → List ℕ → List ℕ → Type 0
Each f bytes before after = (i : ℕ) → i < length before → get_or after i 0 ≡ f (get_or bytes i 0) (get_or before i 0)

pub variables_left : (methods : List ℕ) (f row : ℕ) (l ys : List ℕ) → f * 64 + 24 ≤ length l
    → length ys ≡ length (take (f * 64 + 24 - f * 64) (drop (f * 64) l))
    → Each tidy_byte (take (row * 32 + 24 - row * 32) (drop (row * 32) methods)) (take (f * 64 + 24 - f * 64) (drop (f * 64) l)) ys
    → Changed (λ j. tidy_byte (method_cell methods row (j - f * 64)) (get_or l j 0)) (f * 64) (f * 64 + 24) l (put_mid (f * 64) (f * 64 + 24 - f * 64) l ys)
variables_left methods f row l ys fit long each =
    rewritten tidy_byte _ methods (row * 32) _ (f * 64) (f * 64 + 24) l ys (omega arith) fit (omega arith) long each
    λ i h. let x : f * 64 + i - f * 64 ≡ i = omega arith in rw x

pub stack_left : (kinds : List ℕ) (bottom depth : ℕ) (l ys : List ℕ) → bottom + depth ≤ length l
    → length ys ≡ length (take (bottom + depth - bottom) (drop bottom l))
    → Each tidy_bits (take (bottom + depth - bottom) (drop bottom kinds)) (take (bottom + depth - bottom) (drop bottom l)) ys
    → Changed (λ j. tidy_bits (get_or kinds j 0) (get_or l j 0)) bottom (bottom + depth) l (put_mid bottom (bottom + depth - bottom) l ys)
stack_left kinds bottom depth l ys fit long each =
    rewritten tidy_bits _ kinds bottom _ bottom (bottom + depth) l ys (omega arith) fit (omega arith) long each λ i h. refl

-- ---- The kind m of a live frame

module _ (cells kinds : List ℕ) (f m : ℕ) where
  kind_low : m < 24 → tidy_kind cells kinds f m ≡ 0
  unfolding tidy_kind within pick
  kind_low h = rw (lt-leb 24 m h)

  kind_live : 24 ≤ m → m < 56 → m - 24 < depth_of cells f → tidy_kind cells kinds f m ≡ get_or kinds (f * 64 + m) 0
  unfolding tidy_kind within pick
  kind_live l h d = rw (le-leb 24 m l, le-leb m 55 (omega arith), lt-ltb (m - 24) (depth_of cells f) d)

  kind_dead : 24 ≤ m → m < 56 → depth_of cells f ≤ m - 24 → tidy_kind cells kinds f m ≡ 0
  unfolding tidy_kind within pick
  kind_dead l h d = rw (le-leb 24 m l, le-leb m 55 (omega arith), le-ltb (m - 24) (depth_of cells f) d)

  kind_past : 56 ≤ m → tidy_kind cells kinds f m ≡ 0
  unfolding tidy_kind within pick
  kind_past l = rw (le-leb 24 m (omega arith), lt-leb m 55 (omega arith))

  kind_ext : (other : List ℕ) → ((i : ℕ) → get_or kinds (f * 64 + i) 0 ≡ get_or other (f * 64 + i) 0) → tidy_kind cells kinds f m ≡ tidy_kind cells other f m
  unfolding tidy_kind
  kind_ext other h = rw (h m)

module _ (cells : List ℕ) (f depth : ℕ) (few : depth ≤ 32) {l₀ l₁ l₂ : List ℕ} (ed : depth ≡ depth_of cells f)
    (d₁ : Changed (λ j. 0) (f * 64) (f * 64 + 24) l₀ l₁)
    (d₂ : Changed (λ j. 0) (f * 64 + 24 + depth) (f * 64 + 64) l₁ l₂) where
  abbrev kind_of : ℕ → ℕ
  kind_of j = tidy_kind cells l₀ f (j - f * 64)

  low_is : (j : ℕ) → f * 64 ≤ j → j < f * 64 + 24 → 0 ≡ kind_of j
  low_is j a b = sym (kind_low cells l₀ f (j - f * 64) (omega arith))

  live_is : (j : ℕ) → f * 64 + 24 ≤ j → j < f * 64 + 24 + depth → get_or l₁ j 0 ≡ kind_of j
  live_is j a b =
      let x : f * 64 + (j - f * 64) ≡ j = omega arith in
      let y : j - f * 64 - 24 < depth_of cells f = omega arith in
      rw (kind_live cells l₀ f (j - f * 64) (omega arith) (omega arith) y, x) (d₁.above j a)

  high_is : (j : ℕ) → f * 64 + 24 + depth ≤ j → j < f * 64 + 64 → 0 ≡ kind_of j
  high_is j a b = one (ltb (j - f * 64) 56) refl
    where
      one : (t : Bool) → ltb (j - f * 64) 56 ≡ t → 0 ≡ kind_of j
      one true t =
          let z : j - f * 64 < 56 = ltb-true _ _ t in
          let y : depth_of cells f ≤ j - f * 64 - 24 = omega arith in
          sym (kind_dead cells l₀ f (j - f * 64) (omega arith) z y)
      one false t =
          let z : 56 ≤ j - f * 64 = ltb-false _ _ t in
          sym (kind_past cells l₀ f (j - f * 64) z)

  pub kinds_left : Changed (λ j. tidy_kind cells l₀ f (j - f * 64)) (f * 64) (f * 64 + 64) l₀ l₂
  kinds_left =
      let a : Changed kind_of (f * 64) (f * 64 + 24 + depth) l₀ l₁ = join kind_of d₁ (kept (f * 64 + 24) (f * 64 + 24 + depth) l₁) (omega arith)
      (omega arith) low_is live_is in
      join kind_of a d₂ (omega arith) (omega arith) (λ j u w. refl) high_is

-- ---- All frames: what cell m of the frame f becomes depends on that frame alone

-- the place j of the array
abbrev placed : (List ℕ → ℕ → ℕ → ℕ) → ℕ → List ℕ → ℕ → ℕ
placed G live l₀ j = pick (ltb (j / 64) live) (G l₀ (j / 64) (j % 64)) 0

module _ (G : List ℕ → ℕ → ℕ → ℕ) (ext : (l k : List ℕ) (f m : ℕ) → ((i : ℕ) → get_or l (f * 64 + i) 0 ≡ get_or k (f * 64 + i) 0)
    → G l f m ≡ G k f m) (live f : ℕ) {l₀ l l' : List ℕ} (d : Changed (placed G live l₀) 0 (f * 64) l₀ l) where
  frames_more : f < live → Changed (λ j. G l f (j - f * 64)) (f * 64) (f * 64 + 64) l l' → Changed (placed G live l₀) 0 ((f + 1) * 64) l₀ l'
  unfolding pick
  frames_more h x = let e : (f + 1) * 64 ≡ f * 64 + 64 = omega arith in rw e (join (placed G live l₀) d x (omega arith) (omega arith) (λ j u w. refl) same)
    where
      same : (j : ℕ) → f * 64 ≤ j → j < f * 64 + 64 → G l f (j - f * 64) ≡ placed G live l₀ j
      same j a b =
          let q : j / 64 ≡ f = omega arith in
          let r : j % 64 ≡ j - f * 64 = omega arith in
          rw (q, r, lt-ltb f live h) (ext l l₀ f (j - f * 64) (λ i. d.above (f * 64 + i) (omega arith)))

  frames_all : f ≤ live → live ≤ f → live ≤ 32 → length l₀ ≡ 2048 → Changed (λ j. 0) (live * 64) 2048 l l' → l' ≡ span (placed G live l₀) 0 2048
  unfolding pick
  frames_all a b n e x =
      let z : f * 64 ≡ live * 64 = omega arith in
      changed_all e (join (placed G live l₀) (reached z d) x (omega arith) (omega arith) (λ j u w. refl) gone)
    where
      gone : (j : ℕ) → live * 64 ≤ j → j < 2048 → 0 ≡ placed G live l₀ j
      gone j u w = let q : live ≤ j / 64 = omega arith in rw (le-ltb (j / 64) live q)

-- the first i places are done
abbrev pub cells_to : List ℕ → List ℕ → ℕ → List ℕ → ℕ → List ℕ → Type 0
cells_to methods kinds live l₀ i l = Changed (λ j. pick (ltb (j / 64) live) (tidy_cell methods l₀ kinds (j / 64) (j % 64)) 0) 0 i l₀ l

abbrev pub kinds_to : List ℕ → ℕ → List ℕ → ℕ → List ℕ → Type 0
kinds_to cells live l₀ i l = Changed (λ j. pick (ltb (j / 64) live) (tidy_kind cells l₀ (j / 64) (j % 64)) 0) 0 i l₀ l

module _ (methods kinds : List ℕ) (live f : ℕ) {l₀ l : List ℕ} (d : cells_to methods kinds live l₀ (f * 64) l) where
  pub cells_more : {l' : List ℕ} → f < live → Changed (λ j. tidy_cell methods l kinds f (j - f * 64)) (f * 64) (f * 64 + 64) l l'
      → cells_to methods kinds live l₀ ((f + 1) * 64) l'
  cells_more h x = frames_more (λ k g m. tidy_cell methods k kinds g m) (λ k o g m. cell_ext methods k kinds g m o) live f d h x

  pub cells_all : {l' : List ℕ} → f ≤ live → live ≤ f → live ≤ 32 → length l₀ ≡ 2048 → Changed (λ j. 0) (live * 64) 2048 l l'
      → l' ≡ tidy_cells methods l₀ kinds live
  unfolding tidy_cells
  cells_all a b n e x = frames_all (λ k g m. tidy_cell methods k kinds g m) (λ k o g m. cell_ext methods k kinds g m o) live f d a b n e x

  pub still_deep : f < live → Waiting live l₀ → depth_of l f ≤ 32
  still_deep h w = rw (d.above (f * 64 + 57) (omega arith)) (w.depth_few f h)

  pub still_rowed : f < live → Waiting live l₀ → method_of l f ≤ 128
  still_rowed h w = rw (d.above (f * 64 + 58) (omega arith)) (w.row_few f h)

module _ (cells : List ℕ) (live f : ℕ) {l₀ l : List ℕ} (d : kinds_to cells live l₀ (f * 64) l) where
  pub kinds_more : {l' : List ℕ} → f < live → Changed (λ j. tidy_kind cells l f (j - f * 64)) (f * 64) (f * 64 + 64) l l'
      → kinds_to cells live l₀ ((f + 1) * 64) l'
  kinds_more h x = frames_more (λ k g m. tidy_kind cells k g m) (λ k o g m. kind_ext cells k g m o) live f d h x

  pub kinds_all : {l' : List ℕ} → f ≤ live → live ≤ f → live ≤ 32 → length l₀ ≡ 2048 → Changed (λ j. 0) (live * 64) 2048 l l' → l' ≡ tidy_kinds cells l₀ live
  unfolding tidy_kinds
  kinds_all a b n e x = frames_all (λ k g m. tidy_kind cells k g m) (λ k o g m. kind_ext cells k g m o) live f d a b n e x

-- ---- Objects

tidy_zero : (t : ℕ) → tidy_byte t 0 ≡ 0
unfolding tidy_byte tidy_bits signed32 pick
tidy_zero t = one (eqb t 0) (eqb t 1)
  where
    one : (a b : Bool) → pick a 0 (pick b (signed32 0) 0) ≡ 0
    one true b = refl
    one false true = refl
    one false false = refl

-- a place without an object
pub no_object_left : (t : ℕ → ℕ) (place : ℕ) (heap : List ℕ) → ((j : ℕ) → j < 8 → get_or heap (place * 8 + j) 0 ≡ 0)
    → Changed (λ j. tidy_byte (t j) (get_or heap j 0)) (place * 8) (place * 8 + 8) heap heap
no_object_left t place heap z =
    record {
      long = refl;
      inside = λ j a b. blank j a b;
      below = λ j b. refl;
      above = λ j b. refl;
    }
  where
    blank : (j : ℕ) → place * 8 ≤ j → j < place * 8 + 8 → get_or heap j 0 ≡ tidy_byte (t j) (get_or heap j 0)
    blank j a b =
        let x : place * 8 + (j - place * 8) ≡ j = omega arith in
        let e : get_or heap j 0 ≡ 0 = rw x at (z (j - place * 8) (omega arith)) in
        rw e (sym (tidy_zero (t j)))

pub object_left : (types : List ℕ) (class place : ℕ) (heap ys : List ℕ) → place * 8 + 8 ≤ length heap
    → length ys ≡ length (take (place * 8 + 8 - place * 8) (drop (place * 8) heap))
    → Each tidy_byte (take (class * 8 + 8 - class * 8) (drop (class * 8) types)) (take (place * 8 + 8 - place * 8) (drop (place * 8) heap)) ys
    → Changed (λ j. tidy_byte (get_or types (class * 8 + (j - place * 8)) 0) (get_or heap j 0)) (place * 8) (place * 8 + 8) heap
    (put_mid (place * 8) (place * 8 + 8 - place * 8) heap ys)
object_left types class place heap ys fit long each =
    rewritten tidy_byte _ types (class * 8) _ (place * 8) (place * 8 + 8) heap ys (omega arith) fit (omega arith) long each
    λ i h. let x : place * 8 + i - place * 8 ≡ i = omega arith in rw x

abbrev pub fields_to : List ℕ → List ℕ → List ℕ → ℕ → List ℕ → Type 0
fields_to types classes h₀ i h = Changed (λ j. tidy_byte (get_or types (get_or classes (j / 8) 0 * 8 + j % 8) 0) (get_or h₀ j 0)) 0 i h₀ h

module _ (types classes : List ℕ) (p : ℕ) {h₀ h : List ℕ} (d : fields_to types classes h₀ (p * 8) h) where
  pub objects_more : {h' : List ℕ} → Changed (λ j. tidy_byte (get_or types (get_or classes p 0 * 8 + (j - p * 8)) 0) (get_or h j 0)) (p * 8) (p * 8 + 8) h h'
      → fields_to types classes h₀ ((p + 1) * 8) h'
  objects_more x = let e : (p + 1) * 8 ≡ p * 8 + 8 = omega arith in rw e (join _ d x (omega arith) (omega arith) (λ j u w. refl) same)
    where
      same : (j : ℕ) → p * 8 ≤ j → j < p * 8 + 8 → tidy_byte (get_or types (get_or classes p 0 * 8 + (j - p * 8)) 0) (get_or h j 0) ≡ tidy_byte (get_or types
          (get_or classes (j / 8) 0 * 8 + j % 8) 0) (get_or h₀ j 0)
      same j a b =
          let q : j / 8 ≡ p = omega arith in
          let r : j % 8 ≡ j - p * 8 = omega arith in
          rw (q, r, d.above j a)

  pub objects_all : p ≡ 256 → length h₀ ≡ 2048 → h ≡ tidy_heap types classes h₀
  unfolding tidy_heap
  objects_all e n = changed_all n (reached (let z : p * 8 ≡ 2048 = omega arith in z) d)

  pub still_blank : Blank classes h₀ → (j : ℕ) → j < 8 → get_or classes p 0 ≡ 0 → get_or h (p * 8 + j) 0 ≡ 0
  still_blank k j b z = d.above (p * 8 + j) (omega arith) ∙ k.no_object p j b z

-- ---- What is saved

pub saved_long : (fp at sp : ℕ) (cells : List ℕ) → length cells ≡ 2048 → length (saved_cells fp at sp cells) ≡ 2048
saved_long fp at sp cells e = simp length-set e

module _ (fp at sp live : ℕ) (cells : List ℕ) (F : Framed fp) (deep : sp ≤ fp + 56) (few : live ≤ 32) (S : Saved 128 cells) (long : length cells ≡ 2048) where
  height : (f : ℕ) → f < live → depth_of (saved_cells fp at sp cells) f ≤ 32
  height f h = one (eqb (f * 64 + 57) (fp + 57)) refl
    where
      one : (t : Bool) → eqb (f * 64 + 57) (fp + 57) ≡ t → depth_of (saved_cells fp at sp cells) f ≤ 32
      one true t =
          let e : f * 64 + 57 ≡ fp + 57 = eqb-true _ _ t in
          let n : fp + 57 < length (set cells (fp + 56) at) = simp length-set (omega (arith, F.low, F.framed)) in
          rw (e, get_or-set_same (set cells (fp + 56) at) (fp + 57) (sp - (fp + 24)) 0 n) (omega arith)
      one false t =
          let o : f * 64 + 57 ≡ fp + 57 → ⊥ = eqb-false _ _ t in
          let fr : fp ≡ F.top * 64 = F.framed in
          rw (
            get_or-set_other (set cells (fp + 56) at) (fp + 57) (f * 64 + 57) (sp - (fp + 24)) 0 o,
            get_or-set_other cells (fp + 56) (f * 64 + 57) at 0
                (λ z. omega arith),
          )
          (S.depth_few f (omega arith))

  method : (f : ℕ) → f < live → method_of (saved_cells fp at sp cells) f ≤ 128
  method f h =
      let fr : fp ≡ F.top * 64 = F.framed in
      rw (
        get_or-set_other (set cells (fp + 56) at) (fp + 57) (f * 64 + 58) (sp - (fp + 24)) 0 (λ z. omega arith),
        get_or-set_other cells (fp + 56)
            (f * 64 + 58) at 0 (λ z. omega arith),
      )
      (S.row_few f (omega arith))

  pub saved_waits : Waiting live (saved_cells fp at sp cells)
  saved_waits = record { depth_few = height; row_few = method }

-- ---- The depths are as they were when the kinds are wiped

module _ (methods cells kinds : List ℕ) (live : ℕ) (few : live ≤ 32) where
  stays_at : (f m : ℕ) → f < live → 56 ≤ m → m < 59 → get_or (tidy_cells methods cells kinds live) (f * 64 + m) 0 ≡ get_or cells (f * 64 + m) 0
  unfolding tidy_cells pick
  stays_at f m h a b =
      let q : (0 + (f * 64 + m)) / 64 ≡ f = omega arith in
      let r : (0 + (f * 64 + m)) % 64 ≡ m = omega arith in
      get_d_span _ 0 2048 (f * 64 + m) (omega arith) ∙ rw (q, r, lt-ltb f live h) (cell_saved methods cells kinds f m a b)

  pub waits_on : Waiting live cells → Waiting live (tidy_cells methods cells kinds live)
  waits_on w =
      record {
        depth_few = λ f h. rw (stays_at f 57 h (omega arith) (omega arith)) (w.depth_few f h);
        row_few = λ f h. rw (stays_at f 58 h (omega arith) (omega arith)) (w.row_few f h);
      }

  pub same_kinds : tidy_kinds (tidy_cells methods cells kinds live) kinds live ≡ tidy_kinds cells kinds live
  unfolding tidy_kinds tidy_kind pick
  same_kinds = span_ext _ _ 0 2048 (λ i. one (i / 64) (i % 64) (ltb (i / 64) live) refl)
    where
      one : (f m : ℕ) (t : Bool) → ltb f live ≡ t → pick t (tidy_kind (tidy_cells methods cells kinds live) kinds f m) 0 ≡ pick t (tidy_kind cells kinds f m) 0
      one f m true t = let h : f < live = ltb-true _ _ t in rw (stays_at f 57 h (omega arith) (omega arith))
      one f m false t = refl
