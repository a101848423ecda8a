-- Laws of lists that go down or up, of stores and of copies: over any list and index.
use Prim.Native.Nat.{ℕ, zero, suc, ◌+◌, ◌-◌, ◌*◌, ◌≤◌, ◌<◌}
use mathlib.Core.Path.{◌≡◌, refl, sym, ap, ◌∙◌}
use mathlib.Core.Bool.{Bool, true, false, ◌&&◌}
use mathlib.Core.Logic.{◌⊎◌, inl, inr}
use mathlib.Core.Option.{none, some}
use mathlib.Core.List.{List, [], ◌∷◌}
use native.Mathlib.Omega.{arith}
use native.Mathlib.Nat.{add-zero}
use lib.ListN.{length, get_or, set, drop, replicate, length-set}
use lib.Seq.{get_or-set_same, get_or-set_other, ext_get_or}
use lib.Dec.{leb, eqb}
use borrow.Author.Tests.{le-leb, lt-leb, leb-true, leb-false, eq-eqb, ne_eqb, eqb-true, eqb-false}
use Rattle.model.specs.Answer.{at}
use Rattle.model.specs.State.{firsts}
use Rattle.state.specs.View.{down, span}
use Rattle.state.specs.Work.{copy_of}

-- ---- Tests

pub le_or_lt : (n i : ℕ) → (n ≤ i) ⊎ (i < n)
le_or_lt n i = go (leb n i) refl where
  go : (b : Bool) → leb n i ≡ b → (n ≤ i) ⊎ (i < n)
  go true e = inl (leb-true _ _ e)
  go false e = inr (leb-false _ _ e)

pub is_or_not : (n i : ℕ) → (n ≡ i) ⊎ (n ≡ i → ⊥)
is_or_not n i = go (eqb n i) refl where
  go : (b : Bool) → eqb n i ≡ b → (n ≡ i) ⊎ (n ≡ i → ⊥)
  go true e = inl (eqb-true _ _ e)
  go false e = inr (eqb-false _ _ e)

-- tests that say the same
pub leb_same : (a b x y : ℕ) → (a ≤ b → x ≤ y) → (x ≤ y → a ≤ b) → leb a b ≡ leb x y
leb_same a b x y p q = go (le_or_lt a b) (le_or_lt x y) where
  go : (a ≤ b) ⊎ (b < a) → (x ≤ y) ⊎ (y < x) → leb a b ≡ leb x y
  go (inl l) k = rw (le-leb a b l, le-leb x y (p l))
  go (inr l) (inl k) = let w : a ≤ b = q k in absurd (omega arith)
  go (inr l) (inr k) = rw (lt-leb a b l, lt-leb x y k)

pub eqb_same : (a b x y : ℕ) → (a ≡ b → x ≡ y) → (x ≡ y → a ≡ b) → eqb a b ≡ eqb x y
eqb_same a b x y p q = go (is_or_not a b) where
  go : (a ≡ b) ⊎ (a ≡ b → ⊥) → eqb a b ≡ eqb x y
  go (inl e) = rw (eq-eqb a b e, eq-eqb x y (p e))
  go (inr n) = rw (ne_eqb a b n, ne_eqb x y (λ e. n (q e)))

pub and_true : (b : Bool) → (b && true) ≡ b
and_true true = refl
and_true false = refl

pub and_l : (a b : Bool) → (a && b) ≡ true → a ≡ true
and_l true b e = refl
and_l false b e = e

pub and_r : (a b : Bool) → (a && b) ≡ true → b ≡ true
and_r true b e = e
and_r false b e = cc

-- ---- A list that goes down

module _ {A : Type 0} (f : ℕ → A) where
  pub length_down : (n : ℕ) → length (down f n) ≡ n
  unfolding down
  length_down zero = refl
  length_down (suc n) = ap suc (length_down n)

  pub drop_down : (k n : ℕ) → k ≤ n → drop k (down f n) ≡ down f (n - k)
  unfolding down
  drop_down zero n h = let e : n - 0 ≡ n = omega arith in rw e
  drop_down (suc k) zero h = absurd (omega arith)
  drop_down (suc k) (suc n) h = let e : suc n - suc k ≡ n - k = omega arith in rw e (drop_down k n (omega arith))

  pub down_ext : (g : ℕ → A) (n : ℕ) → ((j : ℕ) → j < n → f j ≡ g j) → down f n ≡ down g n
  unfolding down
  down_ext g zero h = refl
  down_ext g (suc n) h = let e : f n ≡ g n = h n (omega arith) in let r : down f n ≡ down g n = down_ext g n (λ j l. h j (omega arith)) in cc

  -- what a call pops
  firsts_down : (k n e m : ℕ) → n ≡ e + k → firsts k (down f n) (span f n m) ≡ span f e (m + k)
  unfolding down firsts span
  firsts_down zero n e m h = let a : n ≡ e = omega arith in let b : m + 0 ≡ m = omega arith in rw (b, a)
  firsts_down (suc k) zero e m h = absurd (omega arith)
  firsts_down (suc k) (suc n) e m h = let b : m + suc k ≡ suc m + k = omega arith in rw b (firsts_down k n e (suc m) (omega arith))

  pub firsts_all : (k n : ℕ) → k ≤ n → firsts k (down f n) [] ≡ span f (n - k) k
  unfolding span
  firsts_all k n h = let e : 0 + k ≡ k = omega arith in rw e at (firsts_down k n (n - k) 0 (omega arith))

-- ---- A list that goes up

module _ {A : Type 0} (f : ℕ → A) where
  pub length_span : (i n : ℕ) → length (span f i n) ≡ n
  unfolding span
  length_span i zero = refl
  length_span i (suc n) = ap suc (length_span (suc i) n)

  pub get_d_span : (i n j : ℕ) (d : A) → j < n → get_or (span f i n) j d ≡ f (i + j)
  unfolding span
  get_d_span i zero j d h = absurd (omega arith)
  get_d_span i (suc n) zero d h = rw add-zero
  get_d_span i (suc n) (suc j) d h = let e : i + suc j ≡ suc i + j = omega arith in rw e (get_d_span (suc i) n j d (omega arith))

  pub get_d_span_out : (i n j : ℕ) (d : A) → n ≤ j → get_or (span f i n) j d ≡ d
  unfolding span
  get_d_span_out i zero j d h = refl
  get_d_span_out i (suc n) zero d h = absurd (omega arith)
  get_d_span_out i (suc n) (suc j) d h = get_d_span_out (suc i) n j d (omega arith)

  pub at_span : (i n j : ℕ) → j < n → at (span f i n) j ≡ some (f (i + j))
  unfolding span at
  at_span i zero j h = absurd (omega arith)
  at_span i (suc n) zero h = rw add-zero
  at_span i (suc n) (suc j) h = let e : i + suc j ≡ suc i + j = omega arith in rw e (at_span (suc i) n j (omega arith))

  pub span_ext : (g : ℕ → A) (i n : ℕ) → ((j : ℕ) → i ≤ j → j < i + n → f j ≡ g j) → span f i n ≡ span g i n
  unfolding span
  span_ext g i zero h = refl
  span_ext g i (suc n) h =
      let e : f i ≡ g i = h i (omega arith) (omega arith) in
      let r : span f (suc i) n ≡ span g (suc i) n = span_ext g (suc i) n (λ j p q. h j (omega arith) (omega arith)) in
      cc

  -- one element changed
  pub span_set : (g : ℕ → A) (i n k : ℕ) → k < n → ((j : ℕ) → (j ≡ i + k → ⊥) → g j ≡ f j) → span g i n ≡ set (span f i n) k (g (i + k))
  unfolding span
  span_set g i zero k h e = absurd (omega arith)
  span_set g i (suc n) zero h e =
      let r : span g (suc i) n ≡ span f (suc i) n = span_ext' n (suc i) (λ j l. e j (λ z. omega arith)) in
      rw (add-zero, r)
    where
      span_ext' : (m k : ℕ) → ((j : ℕ) → k ≤ j → g j ≡ f j) → span g k m ≡ span f k m
      span_ext' zero k q = refl
      span_ext' (suc m) k q =
          let a : g k ≡ f k = q k (omega arith) in
          let b : span g (suc k) m ≡ span f (suc k) m = span_ext' m (suc k) (λ j l. q j (omega arith)) in
          cc
  span_set g i (suc n) (suc k) h e =
      let x : i + suc k ≡ suc i + k = omega arith in
      let y : g i ≡ f i = e i (λ z. omega arith) in
      rw (x, y, span_set g (suc i) n k (omega arith) (λ j q. e j (λ z. q (z ∙ x))))

-- a list is its elements
pub span_all : (f : ℕ → ℕ) (l : List ℕ) (n : ℕ) → length l ≡ n → ((i : ℕ) → i < n → f i ≡ get_or l i 0) → span f 0 n ≡ l
span_all f l n e h =
    ext_get_or 0 (span f 0 n) l (length_span f 0 n ∙ sym e) (λ i q.
    let k : i < n = rw (length_span f 0 n) at q in
    let z : 0 + i ≡ i = omega arith in
    get_d_span f 0 n i 0 k ∙ rw z (h i k))

-- ---- Rows

module _ {A : Type 0} where
  pub at_out : (l : List A) (i : ℕ) → length l ≤ i → at l i ≡ none
  unfolding at
  at_out [] i h = refl
  at_out (x ∷ l) zero h = absurd (omega arith)
  at_out (x ∷ l) (suc i) h = at_out l i (omega arith)

  pub at_in : (l : List A) (i : ℕ) (x : A) → at l i ≡ some x → i < length l
  unfolding at
  at_in [] i x e = let z : ◌≡◌ {A = ℕ} 0 1 = cc in absurd (omega arith)
  at_in (y ∷ l) zero x e = omega arith
  at_in (y ∷ l) (suc i) x e = let r : i < length l = at_in l i x e in omega arith

  pub at_some : (l : List A) (i : ℕ) → i < length l → (x : A) × (at l i ≡ some x)
  unfolding at
  at_some [] i h = absurd (omega arith)
  at_some (x ∷ l) zero h = (x, refl)
  at_some (x ∷ l) (suc i) h = at_some l i (omega arith)

  pub get_d_at : (l : List A) (i : ℕ) (d x : A) → at l i ≡ some x → get_or l i d ≡ x
  unfolding at
  get_d_at [] i d x e = let z : ◌≡◌ {A = ℕ} 0 1 = cc in absurd (omega arith)
  get_d_at (y ∷ l) zero d x e = cc
  get_d_at (y ∷ l) (suc i) d x e = get_d_at l i d x e

-- ---- Copies

pub length_copy : (k : ℕ) (src : List ℕ) (a b : ℕ) (dst : List ℕ) → length (copy_of k src a b dst) ≡ length dst
unfolding copy_of
length_copy zero src a b dst = refl
length_copy (suc k) src a b dst = length_copy k src (suc a) (suc b) _ ∙ length-set dst b _

-- outside
pub copy_out : (k : ℕ) (src : List ℕ) (a b : ℕ) (dst : List ℕ) (i : ℕ) → (i < b) ⊎ (b + k ≤ i) → get_or (copy_of k src a b dst) i 0 ≡ get_or dst i 0
unfolding copy_of
copy_out zero src a b dst i h = refl
copy_out (suc k) src a b dst i (inl h) = copy_out k src (suc a) (suc b) _ i (inl (omega arith)) ∙ get_or-set_other dst b i _ 0 (λ z. omega arith)
copy_out (suc k) src a b dst i (inr h) = copy_out k src (suc a) (suc b) _ i (inr (omega arith)) ∙ get_or-set_other dst b i _ 0 (λ z. omega arith)

-- inside
pub copy_in : (k : ℕ) (src : List ℕ) (a b : ℕ) (dst : List ℕ) (j : ℕ) → j < k → b + k ≤ length dst → get_or (copy_of k src a b dst) (b + j) 0 ≡ get_or src (a + j) 0
unfolding copy_of
copy_in zero src a b dst j h l = absurd (omega arith)
copy_in (suc k) src a b dst zero h l = simp add-zero (copy_out k src (suc a) (suc b) _ b (inl (omega arith)) ∙ get_or-set_same dst b _ 0 (omega arith))
copy_in (suc k) src a b dst (suc j) h l =
    let x : b + suc j ≡ suc b + j = omega arith in
    let y : a + suc j ≡ suc a + j = omega arith in
    rw (x, y) (copy_in k src (suc a) (suc b) _ j (omega arith) (rw length-set (omega arith)))

-- ---- Bounds of elements

pub small_set : (l : List ℕ) (i j v b : ℕ) → ((k : ℕ) → get_or l k 0 ≤ b) → v ≤ b → get_or (set l i v) j 0 ≤ b
small_set [] i j v b h q = h j
small_set (x ∷ l) zero zero v b h q = q
small_set (x ∷ l) zero (suc j) v b h q = h (suc j)
small_set (x ∷ l) (suc i) zero v b h q = h zero
small_set (x ∷ l) (suc i) (suc j) v b h q = small_set l i j v b (λ k. h (suc k)) q

pub small_copy : (k : ℕ) (src : List ℕ) (a b : ℕ) (dst : List ℕ) (m j : ℕ) → ((i : ℕ) → get_or src i 0 ≤ m) → ((i : ℕ) → get_or dst i 0 ≤ m) → get_or (copy_of k src a b dst) j 0 ≤ m
unfolding copy_of
small_copy zero src a b dst m j p q = q j
small_copy (suc k) src a b dst m j p q = small_copy k src (suc a) (suc b) _ m j p (λ i. small_set dst b i _ m q (p a))

pub zeros : (n i : ℕ) → ◌≡◌ {A = ℕ} (get_or (replicate n 0) i 0) 0
zeros zero i = refl
zeros (suc n) zero = refl
zeros (suc n) (suc i) = zeros n i

-- ---- Cells that are the same

-- n cells from p on are the same in both
abbrev pub Agree : ℕ → ℕ → List ℕ → List ℕ → Type 0
Agree n p l k = (j : ℕ) → j < n → get_or l (p + j) 0 ≡ get_or k (p + j) 0

pub agree_part : (n p s m : ℕ) (l k : List ℕ) → Agree n p l k → s + m ≤ n → Agree m (p + s) l k
agree_part n p s m l k a h j q = let e : p + s + j ≡ p + (s + j) = omega arith in rw e (a (s + j) (omega arith))

-- the frames below t are the same in both
abbrev pub Below : ℕ → List ℕ → List ℕ → Type 0
Below t l k = (f : ℕ) → f < t → Agree 64 (f * 64) l k

pub below_set : (t i v : ℕ) (l : List ℕ) → t * 64 ≤ i → Below t (set l i v) l
below_set t i v l h f q j p = get_or-set_other l i (f * 64 + j) v 0 (λ e. omega arith)

pub below_copy : (t k : ℕ) (src : List ℕ) (a b : ℕ) (dst : List ℕ) → t * 64 ≤ b → Below t (copy_of k src a b dst) dst
below_copy t k src a b dst h f q j p = copy_out k src a b dst (f * 64 + j) (inl (omega arith))

pub below_trans : (t : ℕ) (l k h : List ℕ) → Below t l k → Below t k h → Below t l h
below_trans t l k h a b f q j p = a f q j p ∙ b f q j p

-- ---- What is stored already

-- a store of what is there
pub set_same : (l : List ℕ) (i v : ℕ) → i < length l → get_or l i 0 ≡ v → set l i v ≡ l
set_same l i v h e =
    ext_get_or 0 (set l i v) l (length-set l i v) (λ j q. go j (is_or_not j i)) where
      go : (j : ℕ) → (j ≡ i) ⊎ (j ≡ i → ⊥) → get_or (set l i v) j 0 ≡ get_or l j 0
      go j (inl z) = rw z (get_or-set_same l i v 0 h ∙ sym e)
      go j (inr n) = get_or-set_other l i j v 0 n
