-- Results that 64 bits may not hold.
use Rattle.std.proofs.Common.{◌≡◌, ℕ, ◌<◌, Bool, true, false, not, eqb, ℤ, sym, refl, ap, ◌∙◌, subst, arith, to_z-of_z, pos_of_ne-zero, ne_eqb, eq-eqb, w64, SFits, to_z, of_z, Some, None}
use Rattle.std.specs.Prelude.{Option}
use Rattle.std.specs.Option.{SomeIff}
use Rattle.std.specs.Int.{Width, CanDivide}
use lib.Signed.{quot_z}
use mir.Facts.{of_z-to_z, sfits_to_z}
use borrow.Author.Tests.{eqb-false}
use Rattle.model.specs.Answer.{Answer, bad, ok, guard, ◌>>=◌}
use Rattle.model.specs.Operators.{holds, divided}
use mir.ValLaws.{Fits-wrap}
use Rattle.integers.specs.Cells.{OfCell, low}
use Rattle.integers.specs.Parts.{fitting, quotient_of}
use Rattle.integers.proofs.Reading.{widen, held, read, low_of_z}

some_is : {A : Type 0} {P : Type 0} {o : Option A} {q x : A} → o ≡ Some q → SomeIff o P x → P × (q ≡ x)
some_is {P = P} {x = x} e s = subst (λ o. SomeIff o P x) e s

none_is : {A : Type 0} {P : Type 0} {o : Option A} (x : A) → o ≡ None → SomeIff o P x → P → ⊥
none_is {P = P} x e s = subst (λ o. SomeIff o P x) e s

-- a number that the width doesn't hold, or 64 bits don't
unheld : {w : Width} → OfCell w → (x : ℤ) → (SFits w64 x → ⊥) → holds w x ≡ false
unheld {w} t x n = go (holds w x) refl
  where
    go : (h : Bool) → holds w x ≡ h → h ≡ false
    go true e = absurd (n (widen t (held e)))
    go false e = refl

over : (w : Width) (x : ℤ) → holds w x ≡ false → bad 33 ≡ fitting w x
unfolding fitting guard ◌>>=◌
over w x h = simp h

module _ {w : Width} (t : OfCell w) {o : Option ℤ} (x : ℤ) (s : SomeIff o (SFits w64 x) x) where
  same : {q : ℤ} → o ≡ Some q → to_z w64 (of_z w64 q) ≡ x
  same e = let p = some_is e s in ap (λ (y : ℤ). to_z w64 (of_z w64 y)) p.1 ∙ to_z-of_z p.0

  pub fits : {q : ℤ} {r c : ℕ} {h : Bool} → o ≡ Some q → h ≡ holds w (to_z w64 (of_z w64 q)) → h ≡ true
      → c ≡ of_z w64 (to_z w64 (of_z w64 q)) → r ≡ low w c → ok r ≡ fitting w x
  unfolding fitting guard ◌>>=◌
  fits e k h ec er =
      let yes : holds w x ≡ true = ap (holds w) (sym (same e)) ∙ sym k ∙ h in
      simp yes (ap ok (er ∙ ap (low w) (ec ∙ ap (of_z w64) (same e)) ∙ low_of_z t x (held yes)))

  pub unfit : {q : ℤ} {h : Bool} → o ≡ Some q → h ≡ holds w (to_z w64 (of_z w64 q)) → h ≡ false → bad 33 ≡ fitting w x
  unfit e k h = over w x (ap (holds w) (sym (same e)) ∙ sym k ∙ h)

  pub unfit_wide : o ≡ None → bad 33 ≡ fitting w x
  unfit_wide e = over w x (unheld t x (none_is x e s))

-- ---- Quotients

-- a cell is 0 where its number's bits are
zero_cell : {w : Width} → OfCell w → (b : ℕ) → of_z w64 (to_z w (low w b)) ≡ 0 → low w b ≡ 0
zero_cell {w} t b e =
    let back = to_z-of_z (widen t (sfits_to_z (Fits-wrap w b))) in
    sym (of_z-to_z (Fits-wrap w b)) ∙ ap (of_z w) (sym back ∙ ap (to_z w64) e)

some : {w : Width} → OfCell w → (b : ℕ) → (low w b ≡ 0 → ⊥) → 0 < of_z w64 (to_z w (low w b))
some t b n = pos_of_ne-zero (λ q. n (zero_cell t b q))

module _ {w : Width} (t : OfCell w) (a b : ℕ) where
  abbrev quotient : ℤ
  quotient = quot_z (to_z w (low w a)) (to_z w (low w b))

  read_back : {x y : ℤ} → x ≡ to_z w (low w a) → y ≡ to_z w (low w b) → quot_z (to_z w64 (of_z w64 x)) (to_z w64 (of_z w64 y)) ≡ quotient
  read_back ex ey = λ i. quot_z (read t a ex i) (read t b ey i)

  pub by_zero : {d : ℕ} → d ≡ low w b → d ≡ 0 → bad 31 ≡ quotient_of w (low w a) (low w b)
  unfolding quotient_of guard ◌>>=◌
  by_zero e z = simp (eq-eqb (low w b) 0 (sym e ∙ z))

  module _ {d : ℕ} (ed : d ≡ low w b) (n : d ≡ 0 → ⊥) where
    divides : holds w quotient ≡ true → ok quotient ≡ quotient_of w (low w a) (low w b)
    unfolding quotient_of guard ◌>>=◌
    divides h = simp (ne_eqb (low w b) 0 (λ e. n (ed ∙ e)), h)

    refuses : holds w quotient ≡ false → bad 32 ≡ quotient_of w (low w a) (low w b)
    unfolding quotient_of guard ◌>>=◌
    refuses h = simp (ne_eqb (low w b) 0 (λ e. n (ed ∙ e)), h)

    module _ {x y : ℤ} (ex : x ≡ to_z w (low w a)) (ey : y ≡ to_z w (low w b)) {o : Option ℤ}
        (s : SomeIff o (CanDivide w64 (to_z w64 (of_z w64 x)) (to_z w64 (of_z w64 y))) (quot_z (to_z w64 (of_z w64 x)) (to_z w64 (of_z w64 y)))) where
      same_quotient : {q : ℤ} → o ≡ Some q → to_z w64 (of_z w64 q) ≡ quotient
      same_quotient e = let p = some_is e s in ap (λ (z : ℤ). to_z w64 (of_z w64 z)) p.1 ∙ to_z-of_z p.0.1 ∙ read_back ex ey

      pub quotient_held : {q : ℤ} {h : Bool} → o ≡ Some q → h ≡ holds w (to_z w64 (of_z w64 q)) → h ≡ true
          → ok (to_z w64 (of_z w64 q)) ≡ quotient_of w (low w a) (low w b)
      quotient_held e k h = ap ok (same_quotient e) ∙ divides (ap (holds w) (sym (same_quotient e)) ∙ sym k ∙ h)

      pub quotient_over : {q : ℤ} {h : Bool} → o ≡ Some q → h ≡ holds w (to_z w64 (of_z w64 q)) → h ≡ false → bad 32 ≡ quotient_of w (low w a) (low w b)
      quotient_over e k h = refuses (ap (holds w) (sym (same_quotient e)) ∙ sym k ∙ h)

      pub no_quotient : o ≡ None → bad 32 ≡ quotient_of w (low w a) (low w b)
      no_quotient e =
          refuses (unheld t quotient (λ f. none_is _ e s
          (subst (λ (z : ℤ). 0 < of_z w64 z) (sym (read t b ey)) (some t b (λ z. n (ed ∙ z))), subst (SFits w64) (sym (read_back ex ey)) f)))

-- ---- What a quotient that was refused, or given, makes of a division

apart : {e : ℕ} {z : ℤ} → ◌≡◌ {A = Answer ℕ ℤ} (bad e) (ok z) → ⊥
apart e = let k : ◌≡◌ {A = ℕ} 0 1 = cc in absurd (omega arith)

abbrev pair : {A : Type 0} → Bool → Bool → A → Answer ℕ A
pair p q a = guard p 31 >>= λ _. guard q 32 >>= λ _. ok a

refuse : (p q : Bool) {e : ℕ} (n : ℕ) (z : ℤ) → bad e ≡ pair p q z → bad e ≡ pair p q n
unfolding guard ◌>>=◌
refuse true true n z e = absurd (apart e)
refuse true false n z e = ap bad cc
refuse false q n z e = ap bad cc

allow : (p q : Bool) {x z : ℤ} → ok x ≡ pair (not p) q z → (p ≡ false) × ((q ≡ true) × (x ≡ z))
unfolding guard ◌>>=◌
allow true q e = absurd (apart (sym e))
allow false true e = (refl, (refl, cc))
allow false false e = absurd (apart (sym e))

module _ (w : Width) (a b : ℕ) where
  pub refused : {e : ℕ} (f : ℤ → ℤ → ℤ) → bad e ≡ quotient_of w a b → bad e ≡ divided w f a b
  unfolding quotient_of divided
  refused f e = refuse (not (eqb b 0)) (holds w (quot_z (to_z w a) (to_z w b))) _ _ e

  pub allowed : {q : ℤ} → ok q ≡ quotient_of w a b → (eqb b 0 ≡ false) × ((holds w (quot_z (to_z w a) (to_z w b)) ≡ true) × (q ≡ quot_z (to_z w a) (to_z w b)))
  unfolding quotient_of
  allowed e = allow (eqb b 0) (holds w (quot_z (to_z w a) (to_z w b))) e

  -- the numbers divide, and what the division gives is written in 64 bits
  pub done : {q : ℤ} {r : ℕ} (f : ℤ → ℤ → ℤ) → ok q ≡ quotient_of w a b → r ≡ of_z w (f (to_z w a) (to_z w b)) → ok r ≡ divided w f a b
  unfolding divided guard ◌>>=◌
  done f e er = let p = allowed e in simp (p.0, p.1.0) (ap ok er)

module _ {w : Width} (t : OfCell w) (a b : ℕ) {q : ℤ} (e : ok q ≡ quotient_of w (low w a) (low w b)) where
  pub quotient_fits : SFits w (quot_z (to_z w (low w a)) (to_z w (low w b)))
  quotient_fits = held (allowed w (low w a) (low w b) e).1.0

  pub divisible : {x y : ℤ} → x ≡ to_z w (low w a) → y ≡ to_z w (low w b)
      → (0 < of_z w64 y) × SFits w64 (quot_z (to_z w64 (of_z w64 x)) (to_z w64 (of_z w64 y)))
  divisible ex ey = (
    subst (λ (z : ℤ). 0 < of_z w64 z) (sym ey) (some t b (eqb-false _ _ (allowed w (low w a) (low w b) e).0)),
    subst (SFits w64) (sym (read_back t a b ex ey)) (widen t quotient_fits),
  )
