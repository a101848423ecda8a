-- The length of the instruction at an offset, by what is decoded there and by its first byte.
use mathlib.Core.Path.{◌≡◌, refl, sym, ap, ◌∙◌}
use mathlib.Core.Bool.{not}
use mathlib.Core.Option.{Option, none, some}
use mathlib.Core.List.{List}
use Prim.Native.Nat.{ℕ, zero, suc, ◌+◌, ◌-◌, ◌≤◌, ◌<◌}
use native.Mathlib.Nat.{add-sub_cancel_left}
use native.Mathlib.Numerals.{add-one}
use native.Mathlib.Omega.{arith}
use lib.Dec.{T}
use lib.ListN.{length, get_or}
use Rattle.model.specs.Answer.{or_else, map_option, is_none}
use Rattle.model.specs.Code.{Form, length_of, instructions, after_fE, form_of, Decoded, decode}
use Rattle.code.specs.Insn.{meant, size_at}
use Rattle.code.proofs.Forms.{not_kept, is_kept, length_FE}
use Rattle.code.proofs.Decoding.{unknown, plainly, after_FE, second_byte, second_unknown}
use Rattle.code.proofs.Onward.{next_is, onward}

-- what is decoded where an instruction has a length
pub record Decodes (code : List ℕ) (o : ℕ) : Type 0 where
  pub found : Decoded
  pub is : decode code o ≡ some found
  pub next : found.next ≡ o + size_at code o

module _ (code : List ℕ) (o : ℕ) where
  pub size_none : decode code o ≡ none → size_at code o ≡ 0
  unfolding size_at or_else map_option
  size_none e = rw e

  pub size_some : (d : Decoded) → decode code o ≡ some d → size_at code o ≡ d.next - o
  unfolding size_at or_else map_option
  size_some d e = rw e

  pub size_is : (d : Decoded) → decode code o ≡ some d → size_at code o ≡ length_of (get_or code o 0)
  size_is d e = size_some d e ∙ rw (next_is code o d e) (add-sub_cancel_left o _)

  pub no_size : get_or code o 0 < 256 → size_at code o ≡ 0 → decode code o ≡ none
  no_size byte z = go (decode code o) refl
    where
      go : (D : Option Decoded) → decode code o ≡ D → decode code o ≡ none
      go none e = e
      go (some d) e = absurd (omega (arith, onward code o d e byte, size_some d e))

  pub a_size : 0 < size_at code o → Decodes code o
  a_size h = go (decode code o) refl
    where
      go : (D : Option Decoded) → decode code o ≡ D → Decodes code o
      go none e = absurd (omega (arith, size_none e))
      go (some d) e = record { found = d; is = e; next = omega (arith, next_is code o d e, size_is d e) }

  by_form : (F : Option Form) (n next : ℕ) → decode code o ≡ map_option (meant n next) F → T (not (is_none F)) → size_at code o ≡ next - o
  unfolding map_option meant is_none
  by_form none n next e t = absurd t
  by_form (some f) n next e t = size_some _ e

  module _ (s : ℕ) (inside : o < length code) (by_length : s ≡ length_of (get_or code o 0)) (within : o + s ≤ length code) where
    -- every byte but FE
    pub plain_size : get_or code o 0 < 256 → (get_or code o 0 ≡ 0xFE → ⊥) → s ≡ size_at code o
    plain_size byte ne = go s refl
      where
        go : (n : ℕ) → s ≡ n → s ≡ size_at code o
        go zero e = e ∙ sym (size_none (unknown code o inside (not_kept (get_or code o 0) (sym by_length ∙ e))))
        go (suc n) e =
            let kept = is_kept (get_or code o 0) (λ z. omega (arith, by_length)) in
            let size = by_form (form_of instructions (get_or code o 0)) _ _ (plainly code o inside byte ne (omega (arith, by_length))) kept in
            by_length ∙ sym (size ∙ add-sub_cancel_left o _)

    module _ (first : get_or code o 0 ≡ 0xFE) where
      pub two : s ≡ 2
      two = by_length ∙ ap length_of first ∙ length_FE

      -- FE and a byte that is not kept after it
      pub second_none : form_of after_fE (get_or code (o + 1) 0) ≡ none → 0 ≡ size_at code o
      second_none f = sym (size_none (second_unknown code o inside first (rw add-one at f) (omega (arith, two))))

      pub second_size : T (not (is_none (form_of after_fE (get_or code (o + 1) 0)))) → s ≡ size_at code o
      second_size t =
          let next = second_byte code o inside ∙ ap (λ (k : ℕ). get_or code k 0) (sym (add-one o)) in
          let whole = after_FE code o inside first (omega (arith, two)) ∙ ap (λ (k : ℕ). map_option (meant 0 (o + 2)) (form_of after_fE k)) next in
          two ∙ sym (by_form (form_of after_fE (get_or code (o + 1) 0)) 0 (o + 2) whole t ∙ add-sub_cancel_left o 2)
