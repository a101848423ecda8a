-- The row that a token names, by one difference modulo 2^64.
use Rattle.std.proofs.Common.{◌≡◌, ℕ, suc, ◌+◌, ◌*◌, ◌/◌, ◌%◌, ◌<◌, ◌≤◌, Bool, true, false, ◌&&◌, eqb, ltb, leb, sym, refl, arith, ltb-false, ltb-true, eq-eqb, eqb-true, le-leb, leb-true}
use borrow.Author.Tests.{lt-leb}
use Rattle.model.specs.Loading.{within}
use Rattle.state.specs.Work.{is_token}
use Rattle.state.specs.Meets.{Names}

module _ (kind token n : ℕ) (few : token < 0x100000000) (byte : kind < 0x100) (e : (n + (kind * 0x1000000 + 1)) % 18446744073709551616 ≡ token) (small : n < 18446744073709551616) where
  named : (count : ℕ) → count < 0x1000000 → n < count → (token / 0x1000000 ≡ kind) × (1 ≤ token % 0x1000000) × (token % 0x1000000 ≤ count) × (suc n ≡ token % 0x1000000)
  named count m l = (omega arith, omega arith, omega arith, omega arith)

  unnamed : (count : ℕ) → count < 0x1000000 → count ≤ n → token / 0x1000000 ≡ kind → 1 ≤ token % 0x1000000 → count < token % 0x1000000
  unnamed count m l q r = omega arith

  tested : (count : ℕ) → count < 0x1000000 → ltb n count ≡ is_token kind count token
  unfolding is_token within
  tested count m = go (ltb n count) refl where
    go : (b : Bool) → ltb n count ≡ b → b ≡ (eqb (token / 0x1000000) kind && (leb 1 (token % 0x1000000) && leb (token % 0x1000000) count))
    go true q =
        let l : n < count = ltb-true n count q in
        let h = named count m l in
        simp (eq-eqb _ _ h.0, le-leb _ _ h.1, le-leb _ _ h.2)
    go false q = of_kind (eqb (token / 0x1000000) kind) refl where
      l : count ≤ n
      l = ltb-false n count q

      of_kind : (b : Bool) → eqb (token / 0x1000000) kind ≡ b → false ≡ (b && (leb 1 (token % 0x1000000) && leb (token % 0x1000000) count))
      of_kind false k = refl
      of_kind true k = from_one (leb 1 (token % 0x1000000)) refl where
        from_one : (b : Bool) → leb 1 (token % 0x1000000) ≡ b → false ≡ (b && leb (token % 0x1000000) count)
        from_one false r = refl
        from_one true r = sym (lt-leb _ _ (unnamed count m l (eqb-true _ _ k) (leb-true _ _ r)))

  pub names : Names kind token n
  names = record { tests = tested; row_is = λ count m l. (named count m l).3 }
