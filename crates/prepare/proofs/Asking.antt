-- Sets of classes: a class more, and the classes that a class is or descends from.
use Prim.Native.Nat.{ℕ, zero, suc, ◌+◌, ◌-◌, ◌*◌, ◌/◌, ◌%◌, ◌^◌, ◌≤◌, ◌<◌}
use mathlib.Core.Path.{◌≡◌, refl, ap, ◌∙◌}
use mathlib.Core.Bool.{Bool, true, false, ◌||◌}
use mathlib.Core.List.{List}
use native.Mathlib.Omega.{arith}
use native.Mathlib.Decide.{ℕ_discrete}
use native.Mathlib.Nat.{div-eq_of_lt, zero-div}
use lib.ListN.{length, get_or, set}
use lib.Seq.{get_or-set_same, get_or-set_other}
use lib.Dec.{eqb, ltb}
use lib.Bits.{bit_or, or_shr, or_mod, or_zero_l, shifted_even}
use lib.Pow.{pow-lt, pow-add, shl-shr, shl_exact}
use borrow.Author.Tests.{eq-eqb, ne_eqb, ltb-true, ltb-false}
use Rattle.model.specs.Tables.{parent_of, climbs, descends}
use Rattle.ancestor.specs.Parents.{Falls}
use Rattle.state.specs.Work.{in_set}
use Rattle.state.specs.Order.{HoldsAncestors}
use Rattle.prepare.specs.Sets.{Has, Unasked, Upto, Sets}
use Rattle.prepare.proofs.Holding.{parents_past}

-- ---- Numbers in a set

or_bits : (x y : ℕ) → x < 2 → y < 2 → eqb (bit_or x y) 1 ≡ eqb x 1 || eqb y 1
or_bits zero y hx hy = rw (or_zero_l y)
or_bits (suc zero) zero hx hy = refl
or_bits (suc zero) (suc zero) hx hy = refl
or_bits (suc zero) (suc (suc y)) hx hy = absurd (omega arith)
or_bits (suc (suc x)) y hx hy = absurd (omega arith)

pub in_both : (s t i : ℕ) → in_set (bit_or s t) i ≡ in_set s i || in_set t i
unfolding in_set
in_both s t i = rw (or_shr s t i, or_mod (s / 2 ^ i) (t / 2 ^ i) 1) (or_bits (s / 2 ^ i % 2) (t / 2 ^ i % 2) (omega arith) (omega arith))

in_none : (i : ℕ) → in_set 0 i ≡ false
unfolding in_set
in_none i = rw (zero-div (2 ^ i))

in_one : (x i : ℕ) → in_set (1 * 2 ^ x) i ≡ eqb x i
unfolding in_set
in_one x i = go (ℕ_discrete x i) (ltb x i) refl
  where
    go : Dec (x ≡ i) → (b : Bool) → ltb x i ≡ b → eqb (1 * 2 ^ x / 2 ^ i % 2) 1 ≡ eqb x i
    go (yes e) b w = rw (e, shl-shr 1 i, eq-eqb i i refl)
    go (no n) true w =
        let l : 2 ^ x < 2 ^ i = pow-lt (ltb-true x i w) in
        rw (div-eq_of_lt {n = 1 * 2 ^ x} {m = 2 ^ i} (omega arith), ne_eqb x i n)
    go (no n) false w =
        let l : i ≤ x = ltb-false x i w in
        let e : x ≡ suc (x - i - 1) + i = omega arith in
        let p : 1 * 2 ^ x ≡ 1 * 2 ^ suc (x - i - 1) * 2 ^ i = ap (λ k. 1 * 2 ^ k) e ∙ rw (pow-add 2 (suc (x - i - 1)) i) (omega arith) in
        rw (p, shl-shr (1 * 2 ^ suc (x - i - 1)) i, shifted_even 1 (x - i - 1), ne_eqb x i n)

in_shifted : (x i : ℕ) → x < 64 → in_set (1 * 2 ^ x % 2 ^ 64) i ≡ eqb x i
in_shifted x i h = rw (shl_exact {a = 1} 1 x 64 (omega arith) (omega arith)) (in_one x i)

or_false : (b : Bool) → b || false ≡ b
or_false true = refl
or_false false = refl

-- the two numbers of a class
pub numbers_are : (d : ℕ) → 0 < d → d ≤ 32 → (e : ℕ) → 0 < e → e ≤ 32 → Has (bit_or (1 * 2 ^ d % 2 ^ 64) (1 * 2 ^ ((32 + d) % 64) % 2 ^ 64)) e (eqb d e)
numbers_are d low high e pos few = record {
  by_row =
      in_both (1 * 2 ^ d % 2 ^ 64) (1 * 2 ^ ((32 + d) % 64) % 2 ^ 64) e
      ∙ rw (in_shifted d e (omega arith), in_shifted ((32 + d) % 64) e (omega arith), ne_eqb ((32 + d) % 64) e (λ q. omega arith)) (or_false (eqb d e));
  by_type =
      in_both (1 * 2 ^ d % 2 ^ 64) (1 * 2 ^ ((32 + d) % 64) % 2 ^ 64) ((32 + e) % 64)
      ∙ rw (
        in_shifted d ((32 + e) % 64) (omega arith),
        in_shifted ((32 + d) % 64) ((32 + e) % 64) (omega arith),
        ne_eqb d ((32 + e) % 64)
            (λ q. omega arith),
      ) (same (ℕ_discrete d e));
}
  where
    same : Dec (d ≡ e) → eqb ((32 + d) % 64) ((32 + e) % 64) ≡ eqb d e
    same (yes q) = rw (q, eq-eqb e e refl, eq-eqb ((32 + e) % 64) ((32 + e) % 64) refl)
    same (no n) = rw (ne_eqb d e n) (ne_eqb ((32 + d) % 64) ((32 + e) % 64) (λ q. n (omega arith)))

-- ---- The classes that a class is or descends from

module _ (ps : List ℕ) where
  none_up : (n d : ℕ) → climbs ps n 0 d ≡ false
  unfolding climbs
  none_up zero d = refl
  none_up (suc n) d = refl

  none_higher : Falls ps → (n c d : ℕ) → c < d → climbs ps n c d ≡ false
  unfolding climbs Falls
  none_higher falls zero c d h = refl
  none_higher falls (suc n) zero d h = refl
  none_higher falls (suc n) (suc c) d h =
      let l : parent_of ps (suc c) < suc c = falls (suc c) (omega arith) in
      rw (ne_eqb (suc c) d (λ e. omega arith)) (none_higher falls n (parent_of ps (suc c)) d (omega arith))

  pub higher : Falls ps → (c d : ℕ) → c < d → descends ps c d ≡ false
  unfolding descends
  higher falls c d h = none_higher falls c c d h

  no_class : (d : ℕ) → descends ps 0 d ≡ false
  unfolding descends
  no_class d = none_up 0 d

  pub unasked_all : (c : ℕ) → Unasked ps c 1
  unfolding Unasked
  unasked_all c e h k = absurd (omega arith)

  -- past the last class there is no parent
  pub unasked_past : (c : ℕ) → length ps < c → Unasked ps c c
  unfolding Unasked descends climbs
  unasked_past zero h e l k = absurd (omega arith)
  unasked_past (suc c) h e l k = rw (ne_eqb (suc c) e (λ q. omega arith), parents_past ps (suc c) h) (none_up c e)

  has_none : (e : ℕ) → Has 0 e false
  has_none e = record { by_row = in_none e; by_type = in_none ((32 + e) % 64) }

  pub upto_first : (c first : ℕ) → Unasked ps c first → Upto ps c first 0
  unfolding Unasked
  upto_first c first u = record { below = λ e pos few l. rw (u e pos l) (has_none e); above = λ e pos few l. has_none e }

  module _ (c d s : ℕ) (U : Upto ps c d s) where
    pub upto_same : 0 < d → d ≤ 32 → descends ps c d ≡ false → Upto ps c (d + 1) s
    upto_same pos few w = record {
      below = λ e p f l. go e p f l (ℕ_discrete e d);
      above = λ e p f l. U.above e p f (omega arith);
    }
      where
        go : (e : ℕ) → 0 < e → e ≤ 32 → e < d + 1 → Dec (e ≡ d) → Has s e (descends ps c e)
        go e p f l (yes q) = rw (q, w) (U.above d pos few (omega arith))
        go e p f l (no n) = U.below e p f (omega arith)

    pub upto_more : (t : ℕ) → ((e : ℕ) → 0 < e → e ≤ 32 → Has t e (eqb d e)) → 0 < d → d ≤ 32 → descends ps c d ≡ true → Upto ps c (d + 1) (bit_or s t)
    upto_more t T pos few w = record {
      below = λ e p f l. go e p f l (ℕ_discrete e d);
      above = λ e p f l. joined e (eqb d e) false (T e p f) (U.above e p f (omega arith)) (ne_eqb d e (λ q. omega arith));
    }
      where
        joined : (e : ℕ) (a b : Bool) → Has t e a → Has s e b → a ≡ false → Has (bit_or s t) e b
        joined e a b ht hs z = record {
          by_row = in_both s t e ∙ rw (ht.by_row, hs.by_row, z) (or_false b);
          by_type = in_both s t ((32 + e) % 64) ∙ rw (ht.by_type, hs.by_type, z) (or_false b);
        }

        go : (e : ℕ) → 0 < e → e ≤ 32 → e < d + 1 → Dec (e ≡ d) → Has (bit_or s t) e (descends ps c e)
        go e p f l (yes q) = rw (q, w) (record {
          by_row = in_both s t d ∙ rw ((T d pos few).by_row, (U.above d pos few (omega arith)).by_row, eq-eqb d d refl);
          by_type = in_both s t ((32 + d) % 64) ∙ rw ((T d pos few).by_type, (U.above d pos few (omega arith)).by_type, eq-eqb d d refl);
        })
        go e p f l (no n) = joined e (eqb d e) (descends ps c e) (T e p f) (U.below e p f (omega arith)) (ne_eqb d e (λ q. n (omega arith)))

  pub upto_all : Falls ps → (c s : ℕ) → Upto ps c (c + 1) s → (e : ℕ) → 0 < e → e ≤ 32 → Has s e (descends ps c e)
  upto_all falls c s U e pos few = go (ltb c e) refl
    where
      go : (b : Bool) → ltb c e ≡ b → Has s e (descends ps c e)
      go true w = rw (higher falls c e (ltb-true c e w)) (U.above e pos few (omega (arith, ltb-true c e w)))
      go false w = U.below e pos few (omega (arith, ltb-false c e w))

  -- ---- A set for each class

  pub sets_first : (l : List ℕ) → get_or l 0 0 ≡ 0 → Sets ps 1 l
  sets_first l z = record { set_of = λ c h e pos few. let q : c ≡ 0 = omega arith in rw (q, z, no_class e) (has_none e) }

  pub sets_more : (c s : ℕ) (l : List ℕ) → c < length l → Sets ps c l → ((e : ℕ) → 0 < e → e ≤ 32 → Has s e (descends ps c e)) → Sets ps (c + 1) (set l c s)
  sets_more c s l h S new = record { set_of = λ k less e pos few. go k less e pos few (ℕ_discrete k c) }
    where
      go : (k : ℕ) → k < c + 1 → (e : ℕ) → 0 < e → e ≤ 32 → Dec (k ≡ c) → Has (get_or (set l c s) k 0) e (descends ps k e)
      go k less e pos few (yes q) = rw (q, get_or-set_same l c s 0 h) (new e pos few)
      go k less e pos few (no n) = rw (get_or-set_other l c k s 0 n) (S.set_of k (omega arith) e pos few)

  pub sets_hold : (l : List ℕ) → Sets ps 33 l → HoldsAncestors ps l
  sets_hold l S = record {
    by_row = λ c d hc pos few. (S.set_of c (omega arith) d pos few).by_row;
    by_type = λ c d hc pos few. (S.set_of c (omega arith) d pos few).by_type;
  }
