-- The tests of a token, by the tests of the code.
use Prim.Native.Nat.{ℕ, ◌+◌, ◌*◌, ◌≤◌, ◌<◌}
use mathlib.Core.Path.{◌≡◌, refl, sym, subst, ◌∙◌}
use mathlib.Core.Bool.{Bool, true, false, not}
use mathlib.Core.List.{List}
use native.Mathlib.Omega.{arith}
use lib.ListN.{length, get_or}
use lib.Dec.{leb}
use borrow.Author.Tests.{lt-ltb, le-ltb, eq-eqb, ne_eqb}
use Rattle.std.specs.Prelude.{Result, Ok, Err, IsErrAnd}
use Rattle.code.proofs.There.{there, cut as is_cut}
use Rattle.state.specs.declared.ending.Ending.{Ending}
use Rattle.state.specs.declared.ending.Ending.TheVariants.{Undecodable, BadOperand}
use Rattle.state.specs.Work.{row_of_token, is_token, is_field}
use Rattle.state.specs.Meets.{Names}
use Rattle.fields.specs.Named.{token_at, Names as Names', NamesRow, NamesField, cut, wrong, right}

module _ (part : List ℕ) (at : ℕ) {w : Bool} (h : w ≡ leb (at + 5) (length part)) (kind count : ℕ) where
  pub row_cut : not w ≡ true → NamesRow part at kind count (Err Undecodable)
  row_cut e = record { row = cut refl (is_cut h e); few = λ r q. cc }

  module _ (l : not w ≡ false) (few : count ≤ 128) {token n : ℕ} (q : token ≡ token_at part at) (named : Names kind token n) where
    named_there : Names kind (token_at part at) n
    named_there = subst (λ (t : ℕ). Names kind t n) q named

    pub row_past : count ≤ n → NamesRow part at kind count (Err BadOperand)
    row_past g = record { row = wrong refl (there h l) (sym (named_there.tests count (omega arith)) ∙ le-ltb _ _ g); few = λ r q. cc }

    pub row_found : n < count → NamesRow part at kind count (Ok (n + 1))
    row_found g =
        let e : n + 1 ≡ row_of_token (token_at part at) = omega (arith, named_there.row_is count (omega arith) g) in
        record {
          row = right refl (there h l) (sym (named_there.tests count (omega arith)) ∙ lt-ltb _ _ g) e;
          few = λ r q. let z : n + 1 ≡ r = cc in omega arith;
        }

-- a field, by its row
module _ (part : List ℕ) (at : ℕ) (fields : List ℕ) (count flag : ℕ) {x : Result ℕ Ending} (m : NamesRow part at 4 count x) where
  refused : {e : Ending} → x ≡ Err e → NamesField part at fields count flag (Err e)
  unfolding is_field
  refused {e} q = record { row = go m.row; few = λ r p. cc; flagged = λ r p. cc } where
    go : Names' part at (is_token 4 count (token_at part at)) x → Names' part at (is_field count fields flag (token_at part at)) (Err e)
    go (cut p h) = cut (sym q ∙ p) h
    go (wrong p h w) = wrong (sym q ∙ p) h (simp w)
    go (right p h w z) = cc

  pub field_refused : {e : Ending} (z : Result ℕ Ending) → IsErrAnd z (λ d. d ≡ e) → x ≡ Err e → NamesField part at fields count flag z
  field_refused (Ok r) h q = absurd h
  field_refused (Err d) h q = rw h (refused q)

  module _ {r : ℕ} (q : x ≡ Ok r) where
    pub field_other : (get_or fields (r * 4 + 1) 0 ≡ flag → ⊥) → NamesField part at fields count flag (Err BadOperand)
    unfolding is_field
    field_other n = record { row = go m.row; few = λ r p. cc; flagged = λ r p. cc } where
      go : Names' part at (is_token 4 count (token_at part at)) x → Names' part at (is_field count fields flag (token_at part at)) (Err BadOperand)
      go (cut p h) = cc
      go (wrong p h w) = cc
      go (right {r = k} p h w z) = let same : k ≡ r = cc in wrong refl h (simp (w, ← z, same, ne_eqb _ _ n))

    pub field_found : count ≤ 128 → get_or fields (r * 4 + 1) 0 ≡ flag → NamesField part at fields count flag (Ok r)
    unfolding is_field
    field_found few n = record {
      row = go m.row;
      few = λ k p. let same : r ≡ k = cc in omega (arith, m.few r q);
      flagged = λ k p. let same : r ≡ k = cc in subst (λ (i : ℕ). get_or fields (i * 4 + 1) 0 ≡ flag) same n;
    } where
      go : Names' part at (is_token 4 count (token_at part at)) x → Names' part at (is_field count fields flag (token_at part at)) (Ok r)
      go (cut p h) = cc
      go (wrong p h w) = cc
      go (right {r = k} p h w z) = let same : k ≡ r = cc in right refl h (simp (w, ← z, same, eq-eqb _ _ n)) (sym same ∙ z)
