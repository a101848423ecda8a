-- What is decoded lies in the code, and the next instruction begins after it.
use mathlib.Core.Path.{◌≡◌, refl, sym, ap, ◌∙◌}
use mathlib.Core.Bool.{Bool, true, false}
use mathlib.Core.Option.{Option, none, some}
use mathlib.Core.List.{List}
use Prim.Native.Nat.{ℕ, ◌+◌, ◌≤◌, ◌<◌}
use native.Mathlib.Omega.{arith}
use borrow.Author.Tests.{ltb-true, ltb-false}
use lib.Dec.{ltb}
use lib.ListN.{length, get_or}
use Rattle.model.specs.Answer.{map_option}
use Rattle.model.specs.Code.{Ins, Form, length_of, instructions, form_of, as_form, full_form, and_then, Decoded, decode}
use Rattle.code.proofs.Forms.{not_kept}
use Rattle.code.proofs.Decoding.{rest, past, said, whole, cut, unknown}

next_of : Option Decoded → ℕ
next_of none = 0
next_of (some d) = d.next

clash : (d : Decoded) → ◌≡◌ {A = Option Decoded} none (some d) → ⊥
clash d e = let z : ◌≡◌ {A = ℕ} 0 1 = cc in omega arith

module _ (r : List ℕ) (next : ℕ) (d : Decoded) where
  mapped : (i : Option Ins) → map_option (λ i. record { ins = i; next = next }) i ≡ some d → d.next ≡ next
  unfolding map_option next_of
  mapped none e = absurd (clash d e)
  mapped (some i) e = sym (ap next_of e)

  formed : (g : Option Form) → and_then g (λ g. map_option (λ i. record { ins = i; next = next }) (as_form g r next)) ≡ some d → d.next ≡ next
  unfolding and_then
  formed none e = absurd (clash d e)
  formed (some g) e = mapped (as_form g r next) e

  said_next : (F : Option Form) → said F r next ≡ some d → d.next ≡ next
  unfolding said and_then
  said_next none e = absurd (clash d e)
  said_next (some f) e = formed (full_form f r) e

module _ (code : List ℕ) (o : ℕ) (d : Decoded) (e : decode code o ≡ some d) where
  pub inside : o < length code
  inside = go (ltb o (length code)) refl
    where
      go : (t : Bool) → ltb o (length code) ≡ t → o < length code
      go true h = ltb-true _ _ h
      go false h = absurd (clash d (sym (past code o (ltb-false _ _ h)) ∙ e))

  pub within : o + length_of (get_or code o 0) ≤ length code
  within = go (ltb (length code) (o + length_of (get_or code o 0))) refl
    where
      go : (t : Bool) → ltb (length code) (o + length_of (get_or code o 0)) ≡ t → o + length_of (get_or code o 0) ≤ length code
      go true h = absurd (clash d (sym (cut code o inside (ltb-true _ _ h)) ∙ e))
      go false h = ltb-false _ _ h

  pub next_is : d.next ≡ o + length_of (get_or code o 0)
  next_is = said_next (rest code o) _ d (form_of instructions (get_or code o 0)) (sym (whole code o inside within) ∙ e)

  pub next_within : d.next ≤ length code
  next_within = rw next_is within

  pub onward : get_or code o 0 < 256 → o < d.next
  onward byte = rw next_is (go (ltb 0 (length_of (get_or code o 0))) refl)
    where
      go : (t : Bool) → ltb 0 (length_of (get_or code o 0)) ≡ t → o < o + length_of (get_or code o 0)
      go true h = omega (arith, ltb-true 0 (length_of (get_or code o 0)) h)
      go false h =
          let z : length_of (get_or code o 0) ≡ 0 = omega (arith, ltb-false 0 (length_of (get_or code o 0)) h) in
          absurd (clash d (sym (unknown code o inside (not_kept (get_or code o 0) z)) ∙ e))
