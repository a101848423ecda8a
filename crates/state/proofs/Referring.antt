-- Whether a reference is of a class, by the tests of the code.
use Rattle.std.proofs.Common.{◌≡◌, ℕ, ◌+◌, ◌-◌, ◌%◌, ◌<◌, ◌≤◌, Bool, true, false, eqb, leb, ◌⊎◌, List, get_or, sym, refl, ◌∙◌, inl, inr, mod-eq_of_lt, arith, le-ltb, lt-ltb, ne_eqb, leb-false, leb-true}
use Rattle.model.specs.Answer.{pick}
use Rattle.state.specs.Work.{refers_w, in_set}

module _ (b p : ℕ) (small : p < 18446744073709551616) (e : (p + 1) % 18446744073709551616 ≡ b) where
  -- p is b less one, modulo 2^64
  less_one : p + 1 < 18446744073709551616 → p + 1 ≡ b
  less_one q = sym (mod-eq_of_lt {n = p + 1} {m = 18446744073709551616} q) ∙ e

  null_or_far : 255 < p → (b ≡ 0) ⊎ (256 < b)
  null_or_far l = go (leb (p + 2) 18446744073709551616) refl where
    go : (t : Bool) → leb (p + 2) 18446744073709551616 ≡ t → (b ≡ 0) ⊎ (256 < b)
    go true q = let k : p + 2 ≤ 18446744073709551616 = leb-true _ _ q in inr (let z = less_one (omega arith) in omega arith)
    go false q = let k : 18446744073709551616 < p + 2 = leb-false _ _ q in let z : p + 1 ≡ 18446744073709551616 = omega arith in inl (sym e ∙ rw z refl)

  module _ (ancestors classes : List ℕ) (t : ℕ) where
    pub refers_far : 255 < p → eqb b 0 ≡ refers_w ancestors classes b t
    unfolding refers_w pick
    refers_far l = go (null_or_far l) where
      go : (b ≡ 0) ⊎ (256 < b) → eqb b 0 ≡ refers_w ancestors classes b t
      go (inl z) = rw z refl
      go (inr f) = simp (lt-ltb _ _ f) (ne_eqb b 0 (λ z. omega arith))

    pub refers_near : p ≤ 255 → in_set (get_or ancestors (get_or classes p 0) 0) (t % 64) ≡ refers_w ancestors classes b t
    unfolding refers_w pick
    refers_near l =
        let z = less_one (omega arith) in
        let q : b - 1 ≡ p = omega arith in
        simp (le-ltb 256 b (omega arith), ne_eqb b 0 (λ k. omega arith), q)
