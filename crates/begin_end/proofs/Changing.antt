-- An array changed place by place: one law for every loop, and changes that join.
use Prim.Native.Nat.{ℕ, zero, suc, ◌+◌, ◌-◌, ◌≤◌, ◌<◌}
use mathlib.Core.Path.{◌≡◌, refl, sym, ◌∙◌, ap}
use mathlib.Core.Bool.{Bool, true, false}
use mathlib.Core.List.{List}
use native.Mathlib.Omega.{arith}
use Rattle.std.proofs.Common.{rules}
use Rattle.std.proofs.lemmas.List.{places, get_or-append_right, get_or_append_left, get_or-take, get_or-drop, get_or-replicate}
use borrow.Rule.Slice.PartMut.{put_mid, post_of}
use lib.ListN.{length, get_or, take, drop, replicate}
use lib.Seq.{ext_get_or}
use lib.Dec.{ltb, eqb}
use borrow.Author.Tests.{eqb-true, eqb-false, ltb-true, ltb-false}
use Rattle.state.specs.View.{span}
use Rattle.state.specs.Layout.{tidy_byte, tidy_statics}
use Rattle.begin_end.specs.Ending.{Changed}

length_span : (f : ℕ → ℕ) (i n : ℕ) → length (span f i n) ≡ n
unfolding span
length_span f i zero = refl
length_span f i (suc n) = ap suc (length_span f (suc i) n)

pub get_d_span : (f : ℕ → ℕ) (i n j : ℕ) → j < n → get_or (span f i n) j 0 ≡ f (i + j)
unfolding span
get_d_span f i zero j h = absurd (omega arith)
get_d_span f i (suc n) zero h = let e : i + 0 ≡ i = omega arith in rw e
get_d_span f i (suc n) (suc j) h = let e : i + suc j ≡ suc i + j = omega arith in rw e (get_d_span f (suc i) n j (omega arith))

pub span_ext : (f g : ℕ → ℕ) (i n : ℕ) → ((j : ℕ) → f j ≡ g j) → span f i n ≡ span g i n
unfolding span
span_ext f g i zero h = refl
span_ext f g i (suc n) h = rw (h i, span_ext f g (suc i) n h)

pub unchanged : (g : ℕ → ℕ) (from : ℕ) (l : List ℕ) → Changed g from from l l
unchanged g from l = record { long = refl; inside = λ j a b. absurd (omega arith); below = λ j b. refl; above = λ j b. refl }

-- what is left alone
pub kept : (from to : ℕ) (l : List ℕ) → Changed (λ j. get_or l j 0) from to l l
kept from to l = record { long = refl; inside = λ j a b. refl; below = λ j b. refl; above = λ j b. refl }

-- a part written anew: k is how long it is, ys what it holds now
module _ (g : ℕ → ℕ) (a to : ℕ) (xs ys : List ℕ) (low : a ≤ to) (fit : to ≤ length xs) (long : length ys ≡ to - a)
    (here : (i : ℕ) → i < to - a → get_or ys i 0 ≡ g (a + i)) where
  before : length (take a xs) ≡ a
  before = search (rules, places)

  inside : (j : ℕ) → a ≤ j → j < to → get_or (put_mid a (to - a) xs ys) j 0 ≡ g j
  inside j p q =
      let k : j - a < to - a = omega arith in
      let s : a + (j - a) ≡ j = omega arith in
      get_or-append_right (take a xs) _ a j 0 before p ∙ (get_or_append_left ys (post_of a (to - a) xs) 0 (j - a) (omega (arith, long)) ∙ rw s at (here (j - a) k))

  pub part_changed : Changed g a to xs (put_mid a (to - a) xs ys)
  part_changed =
      record {
        long = search (rules, places, long);
        inside = inside;
        below = λ j p. search (rules, places);
        above = λ j p. search (rules, places, long);
      }

-- a part wiped
pub wiped : (a to : ℕ) (xs ys : List ℕ) → a ≤ to → to ≤ length xs → ys ≡ replicate (length (take (to - a) (drop a xs))) 0
    → Changed (λ j. 0) a to xs (put_mid a (to - a) xs ys)
wiped a to xs ys low fit e =
    let size : length (take (to - a) (drop a xs)) ≡ to - a = search (rules, places) in
    let z : ys ≡ replicate (to - a) 0 = rw size at e in
    part_changed (λ j. 0) a to xs ys low fit (rw z (search (rules, places))) (λ i h. rw z (get_or-replicate (to - a) i 0 0 h))

-- a part of which each element was made by the one that was there and the byte that stands as far from p; m is how many bytes are lent
module _ (f : ℕ → ℕ → ℕ) (g : ℕ → ℕ) (bytes : List ℕ) (p m a to : ℕ) (xs ys : List ℕ) (low : a ≤ to) (fit : to ≤ length xs) (enough : to - a ≤ m)
    (long : length ys ≡ length (take (to - a) (drop a xs)))
    (each : (i : ℕ) → i < length (take (to - a) (drop a xs)) → get_or ys i 0 ≡ f (get_or (take m (drop p bytes)) i 0) (get_or (take (to - a) (drop a xs)) i 0))
    (is : (i : ℕ) → i < to - a → f (get_or bytes (p + i) 0) (get_or xs (a + i) 0) ≡ g (a + i)) where
  size : length (take (to - a) (drop a xs)) ≡ to - a
  size = search (rules, places)

  pub rewritten : Changed g a to xs (put_mid a (to - a) xs ys)
  rewritten = part_changed g a to xs ys low fit (long ∙ size) λ i h.
      let k : i < m = omega arith in
      let e : get_or ys i 0 ≡ f (get_or bytes (p + i) 0) (get_or xs (a + i) 0) = each i (omega (arith, size)) ∙ rw (get_or-take m (drop p bytes) i 0 k, get_or-take (to - a) (drop a xs) i 0 h, get_or-drop p bytes i 0, get_or-drop a xs i 0) in
      e ∙ is i h

-- two changes, one after the other
module _ {g h : ℕ → ℕ} {a b e : ℕ} {l m n : List ℕ} (k : ℕ → ℕ) (d : Changed g a b l m) (x : Changed h b e m n) where
  pub join : a ≤ b → b ≤ e → ((j : ℕ) → a ≤ j → j < b → g j ≡ k j) → ((j : ℕ) → b ≤ j → j < e → h j ≡ k j) → Changed k a e l n
  join p q s t =
      record {
        long = x.long ∙ d.long;
        inside = λ j u w. one j u w (ltb j b) refl;
        below = λ j u. x.below j (omega arith) ∙ d.below j u;
        above = λ j u. x.above j u ∙ d.above j (omega arith);
      }
    where
      one : (j : ℕ) → a ≤ j → j < e → (c : Bool) → ltb j b ≡ c → get_or n j 0 ≡ k j
      one j u w true c = let y : j < b = ltb-true _ _ c in x.below j y ∙ (d.inside j u y ∙ s j u y)
      one j u w false c = let y : b ≤ j = ltb-false _ _ c in x.inside j y w ∙ t j y w

pub changed_all : {g : ℕ → ℕ} {n : ℕ} {before l : List ℕ} → length before ≡ n → Changed g 0 n before l → l ≡ span g 0 n
changed_all {g} {n} {before} {l} e d =
    let w : length l ≡ n = d.long ∙ e in
    ext_get_or 0 l (span g 0 n) (w ∙ sym (length_span g 0 n)) λ j b.
    d.inside j (omega arith) (omega arith) ∙ sym (get_d_span g 0 n j (omega arith) ∙ (let z : 0 + j ≡ j = omega arith in rw z))

pub reached : {g : ℕ → ℕ} {from to end : ℕ} {before l : List ℕ} → to ≡ end → Changed g from to before l → Changed g from end before l
reached e d = rw e at d

-- the static fields
pub statics_all : (types before : List ℕ) {l : List ℕ} → length before ≡ 64 → length l ≡ length before
    → ((i : ℕ) → i < length before → get_or l i 0 ≡ tidy_byte (get_or types i 0) (get_or before i 0)) → l ≡ tidy_statics types before
unfolding tidy_statics
statics_all types before {l} n m e =
    ext_get_or 0 l (span _ 0 64) (m ∙ (n ∙ sym (length_span _ 0 64))) λ j b.
    let k : j < 64 = omega arith in
    let z : 0 + j ≡ j = omega arith in
    e j (omega arith) ∙ sym (rw z at (get_d_span (λ (i : ℕ). tidy_byte (get_or types i 0) (get_or before i 0)) 0 64 j k))
