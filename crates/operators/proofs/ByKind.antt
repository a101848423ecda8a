-- What the operators give, by the kinds of their operands.
use Prim.Native.Nat.{ℕ, zero, suc, ◌+◌, ◌*◌, ◌^◌, ◌≤◌, ◌<◌}
use mathlib.Core.Path.{◌≡◌, refl, sym, ap, ◌∙◌}
use mathlib.Core.Bool.{Bool, true, false}
use mathlib.Core.Logic.{◌⊎◌, inl, inr}
use mathlib.Core.Option.{Option, none, some}
use native.Mathlib.Omega.{arith}
use native.Mathlib.Nat.{mod-eq_of_lt}
use lib.Dec.{eqb}
use mir.Syntax.{Width, w32, w64}
use borrow.Author.Tests.{eqb-true, ne_eqb}
use Rattle.model.specs.Answer.{Answer, bad, ok, ◌>>=◌, need, pick, only_if, map_option}
use Rattle.model.specs.Tables.{int32}
use Rattle.model.specs.Code.{Number, Whole, Shift, Relation, eq, ne, number, whole, shift, compare, Unary, neg, not_bits, conv_i4, conv_i8, conv_r8}
use Rattle.model.specs.Operators.{kind, kind_number, same, Meaning, meaning, number_of, integers_of, binary_of, integer, whole_of, shifted, real, double, flag, relates, relates_f, relates_ref, relation_of, comparison, neg_of, not_of, conv4_of, conv8_of, conv_fOf, unary_of}
use Rattle.state.specs.View.{kind_by, kind_of_type, shown}
use Rattle.integers.specs.Cells.{width_of, low}
use Rattle.operators.specs.declared.codes.Relation.{Relation as RelationCode}
use Rattle.operators.specs.declared.codes.Relation.TheVariants.{Eq, Ne, Lt, Le, Gt, Ge, LtUn, LeUn, GtUn, GeUn}
use Rattle.operators.specs.Gives.{of_kind, binary_gives, unary_gives, relation_by, compared}

-- ---- Kinds and the bits that count

number_of_lem : (k : ℕ) → k ≤ 3 → kind_number (kind_by k) ≡ k
unfolding kind_number kind_by
number_of_lem zero h = refl
number_of_lem (suc zero) h = refl
number_of_lem (suc (suc zero)) h = refl
number_of_lem (suc (suc (suc zero))) h = refl
number_of_lem (suc (suc (suc (suc k)))) h = absurd (omega arith)

same_kind : (k l : ℕ) → k ≤ 3 → l ≤ 3 → same (kind_by k) (kind_by l) ≡ eqb k l
unfolding same
same_kind k l h i = simp (number_of_lem k h, number_of_lem l i)

pub low_all : {a : ℕ} → a < 2 ^ 64 → low w64 a ≡ a
low_all h = mod-eq_of_lt h

-- a pair of bytes has one sum
pair : (i j : ℕ) {k l : ℕ} → k < 256 → i < 256 → k + l * 256 ≡ i + j * 256 → (k ≡ i) × (l ≡ j)
pair i j hk hi e = (omega arith, omega arith)

-- the kinds of integers
pub data Whole-kind : ℕ → Type 0 where
  narrow : Whole-kind 1
  wide : Whole-kind 2

small : {k : ℕ} → Whole-kind k → k < 256
small narrow = omega arith
small wide = omega arith

itself : {k : ℕ} → Whole-kind k → same (kind_by k) (kind_by k) ≡ true
unfolding same kind_number kind_by
itself narrow = refl
itself wide = refl

shown_low : {k b : ℕ} → Whole-kind k → b < 2 ^ 64 → shown k b ≡ low (width_of (eqb k 2)) b
unfolding shown pick
shown_low narrow h = refl
shown_low wide h = sym (low_all h)

shown_one : (b : ℕ) → shown 1 b ≡ low w32 b
unfolding shown pick
shown_one b = refl

-- ---- Two operands

tag : (k : ℕ) (x : Answer ℕ ℕ) → (x >>= λ n. ok (k, n)) ≡ of_kind k x
unfolding ◌>>=◌
tag k (ok n) = refl
tag k (bad e) = refl

-- an operator of integers, on the bits shown
integers : (f : Width → ℕ → ℕ → Answer ℕ ℕ) {k : ℕ} (x y : ℕ) → Whole-kind k
    → (need (integers_of f (kind_by k)) 45 >>= λ g. g.bits_of x y >>= λ n. ok (kind_of_type g.gives, n)) ≡ of_kind k (f (width_of (eqb k 2)) x y)
unfolding need ◌>>=◌ integers_of meaning kind_by kind_of_type kind_number kind
integers f x y narrow = tag 1 (f w32 x y)
integers f x y wide = tag 2 (f w64 x y)

numbers : (o : Number) {k : ℕ} → Whole-kind k → number_of o (kind_by k) ≡ integers_of (λ w. integer w o) (kind_by k)
unfolding number_of integers_of kind_by
numbers o narrow = refl
numbers o wide = refl

-- an operator that has no meaning where the kinds pass its test
refuses : (t : Bool) (m : Option Meaning) (x y : ℕ) → (t ≡ true → m ≡ none)
    → ◌≡◌ {A = Answer ℕ (ℕ × ℕ)} (bad 45) (need (only_if t m) 45 >>= λ g. g.bits_of x y >>= λ n. ok (kind_of_type g.gives, n))
unfolding only_if need ◌>>=◌
refuses false m x y h = refl
refuses true m x y h = rw (h refl)

no_integers : (f : Width → ℕ → ℕ → Answer ℕ ℕ) (k : ℕ) → (k ≡ 1 → ⊥) → (k ≡ 2 → ⊥) → integers_of f (kind_by k) ≡ none
unfolding integers_of kind_by
no_integers f zero n w = refl
no_integers f (suc zero) n w = absurd (n refl)
no_integers f (suc (suc zero)) n w = absurd (w refl)
no_integers f (suc (suc (suc k))) n w = refl

no_numbers : (o : Number) (k : ℕ) → k ≡ 0 → number_of o (kind_by k) ≡ none
unfolding number_of kind_by
no_numbers o k z = rw z

module _ (k l a b : ℕ) (hk : k ≤ 3) (hl : l ≤ 3) where
  one_kind : same (kind_by k) (kind_by l) ≡ true → k ≡ l
  one_kind q = eqb-true k l (sym (same_kind k l hk hl) ∙ q)

  pub number_wrong : (o : Number) → (k + l * 256 ≡ 257 → ⊥) → (k + l * 256 ≡ 514 → ⊥) → (k + l * 256 ≡ 771 → ⊥) → bad 45 ≡ binary_gives (number o) k l a b
  unfolding binary_gives binary_of
  number_wrong o n w r = refuses _ _ _ _ (λ q. no_numbers o k (omega (arith, one_kind q)))

  pub whole_wrong : (o : Whole) → (k + l * 256 ≡ 257 → ⊥) → (k + l * 256 ≡ 514 → ⊥) → bad 45 ≡ binary_gives (whole o) k l a b
  unfolding binary_gives binary_of
  whole_wrong o n w = refuses _ _ _ _ (λ q. no_integers _ k (λ z. n (omega (arith, one_kind q))) (λ z. w (omega (arith, one_kind q))))

  pub shift_wrong : (o : Shift) → (k + l * 256 ≡ 257 → ⊥) → (k + l * 256 ≡ 258 → ⊥) → bad 45 ≡ binary_gives (shift o) k l a b
  unfolding binary_gives binary_of same kind_number
  shift_wrong o n w =
      refuses _ _ _ _ (λ q. let e : l ≡ 1 = eqb-true l 1 (sym (ap (λ m. eqb m 1) (number_of_lem l hl)) ∙ q) in no_integers _ k (λ z. n (omega arith)) (λ z. w (omega arith)))

  pub number_real : (o : Number) {r : ℕ} → k + l * 256 ≡ 771 → r ≡ real o a b → ok (3, r) ≡ binary_gives (number o) k l a b
  unfolding binary_gives binary_of only_if need ◌>>=◌ same kind_number kind_by number_of meaning shown pick kind_of_type kind
  number_real o p q = let e = pair 3 3 (omega arith) (omega arith) p in rw (e.0, e.1, q)

  module _ {j : ℕ} (i : Whole-kind j) (ha : a < 2 ^ 64) where
    pub shift_bits : (o : Shift) → k + l * 256 ≡ j + 1 * 256 → {r : ℕ} → r ≡ shifted (width_of (eqb j 2)) o (low (width_of (eqb j 2)) a) (low w32 b) → ok (j, r) ≡ binary_gives (shift o) k l a b
    unfolding binary_gives binary_of only_if same kind_number kind_by
    shift_bits o p q =
        let e = pair j 1 (omega arith) (small i) p in
        rw (e.0, e.1, q, shown_low i ha, shown_one b) (sym (integers (λ w x n. ok (shifted w o x n)) _ _ i))

    module _ (hb : b < 2 ^ 64) (p : k + l * 256 ≡ j + j * 256) {x : Answer ℕ ℕ} where
      pub whole_bits : (o : Whole) → x ≡ whole_of (width_of (eqb j 2)) o (low (width_of (eqb j 2)) a) (low (width_of (eqb j 2)) b) → of_kind j x ≡ binary_gives (whole o) k l a b
      unfolding binary_gives binary_of only_if
      whole_bits o q =
          let e = pair j j (omega arith) (small i) p in
          rw (e.0, e.1, itself i, q, shown_low i ha, shown_low i hb) (sym (integers (λ w. whole_of w o) _ _ i))

      pub number_bits : (o : Number) → x ≡ integer (width_of (eqb j 2)) o (low (width_of (eqb j 2)) a) (low (width_of (eqb j 2)) b) → of_kind j x ≡ binary_gives (number o) k l a b
      unfolding binary_gives binary_of only_if
      number_bits o q =
          let e = pair j j (omega arith) (small i) p in
          rw (e.0, e.1, itself i, q, shown_low i ha, shown_low i hb, numbers o i) (sym (integers (λ w. integer w o) _ _ i))

-- ---- Comparisons

pub ordered : (r : RelationCode) → (r ≡ Eq → ⊥) → (r ≡ Ne → ⊥) → relates_ref (relation_by r) ≡ none
unfolding relates_ref
ordered Eq n m = absurd (n refl)
ordered Ne n m = absurd (m refl)
ordered Lt n m = refl
ordered Le n m = refl
ordered Gt n m = refl
ordered Ge n m = refl
ordered LtUn n m = refl
ordered LeUn n m = refl
ordered GtUn n m = refl
ordered GeUn n m = refl

module _ (k l a b : ℕ) (hk : k ≤ 3) (hl : l ≤ 3) where
  pub compared_mixed : (r : Relation) → (k ≡ l → ⊥) → none ≡ compared r k l a b
  unfolding compared comparison only_if map_option
  compared_mixed r n = simp (same_kind k l hk hl, ne_eqb _ _ n)

  module _ (e : k ≡ l) where
    pub compared_real : (r : Relation) {t : Bool} → k ≡ 3 → t ≡ relates_f r (double a) (double b) → some t ≡ compared r k l a b
    unfolding compared comparison only_if map_option same kind_number kind_by relation_of shown pick
    compared_real r z q = rw (← e, z, q)

    pub compared_wide : (r : Relation) {t : Bool} → k ≡ 2 → a < 2 ^ 64 → b < 2 ^ 64 → t ≡ relates w64 r (low w64 a) (low w64 b) → some t ≡ compared r k l a b
    unfolding compared comparison only_if map_option same kind_number kind_by relation_of shown pick
    compared_wide r z ha hb q = rw (← e, z, q, low_all ha, low_all hb)

    pub compared_order : (r : Relation) → k ≡ 0 → relates_ref r ≡ none → none ≡ compared r k l a b
    unfolding compared comparison only_if map_option same kind_number kind_by relation_of
    compared_order r z h = rw (← e, z, h)

    pub compared_reference : (r : Relation) {t : Bool} → (r ≡ eq) ⊎ (r ≡ ne) → k ≡ 0 → a < 2 ^ 64 → b < 2 ^ 64 → t ≡ relates w64 r (low w64 a) (low w64 b) → some t ≡ compared r k l a b
    unfolding compared comparison only_if map_option same kind_number kind_by relation_of relates_ref relates shown pick
    compared_reference r (inl i) z ha hb q = rw (← e, z, q, i, low_all ha, low_all hb)
    compared_reference r (inr i) z ha hb q = rw (← e, z, q, i, low_all ha, low_all hb)

pub compared_narrow : (r : Relation) (k l a b : ℕ) {t : Bool} → k ≡ 1 → l ≡ 1 → t ≡ relates w32 r (low w32 a) (low w32 b) → some t ≡ compared r k l a b
unfolding compared comparison only_if map_option same kind_number kind_by relation_of shown pick
compared_narrow r k l a b x y q = rw (x, y, q)

module _ (r : Relation) (k l a b : ℕ) where
  flagged : Option Bool → Answer ℕ (ℕ × ℕ)
  flagged none = bad 45
  flagged (some t) = ok (1, flag t)

  compare_gives : (o : Option (ℕ → ℕ → Bool))
      → (need {A = Meaning} (map_option (λ f. record { gives = int32; bits_of = λ x y. ok (flag (f x y)) }) o) 45 >>= λ g. g.bits_of (shown k a) (shown l b) >>= λ n. ok (kind_of_type g.gives, n))
      ≡ flagged (map_option (λ f. f (shown k a) (shown l b)) o)
  unfolding need ◌>>=◌ map_option kind_of_type kind_number kind flagged
  compare_gives none = refl
  compare_gives (some f) = refl

  pub compare_says : {t : Bool} → some t ≡ compared r k l a b → ok (1, flag t) ≡ binary_gives (compare r) k l a b
  unfolding binary_gives binary_of compared flagged
  compare_says q = ap flagged q ∙ sym (compare_gives (comparison r (kind_by k) (kind_by l)))

  pub compare_wrong : none ≡ compared r k l a b → bad 45 ≡ binary_gives (compare r) k l a b
  unfolding binary_gives binary_of compared flagged
  compare_wrong q = ap flagged q ∙ sym (compare_gives (comparison r (kind_by k) (kind_by l)))

-- ---- One operand

pub by_reference : (o : Unary) (a : ℕ) → bad 45 ≡ unary_gives o 0 a
unfolding unary_gives unary_of neg_of not_of conv4_of conv8_of conv_fOf need ◌>>=◌ kind_by
by_reference neg a = refl
by_reference not_bits a = refl
by_reference conv_i4 a = refl
by_reference conv_i8 a = refl
by_reference conv_r8 a = refl
