-- What is read is what decoding finds.
use mathlib.Core.Path.{◌≡◌, refl, sym, ap, ◌∙◌}
use mathlib.Core.Bool.{not}
use mathlib.Core.Option.{Option, none, some}
use mathlib.Core.List.{List}
use Prim.Native.Nat.{ℕ, ◌+◌, ◌-◌, ◌≤◌, ◌<◌}
use native.Mathlib.Nat.{add-sub_cancel_left}
use native.Mathlib.Omega.{arith}
use borrow.Author.Tests.{lt-ltb, le-ltb}
use lib.Dec.{T}
use lib.ListN.{length, get_or}
use Rattle.model.specs.Answer.{pick, or_else, map_option, is_none}
use Rattle.model.specs.Loading.{little}
use Rattle.model.specs.Code.{plain, nop, Form, length_of, instructions, after_fE, form_of, Decoded, decode}
use Rattle.code.specs.Insn.{Length, form_by, with_operand, meant, ins_of, size_at}
use Rattle.code.proofs.Forms.{a_length, is_kept, length_FE}
use Rattle.code.proofs.Decoding.{rest, plainly, after_FE}
use Rattle.code.proofs.Onward as onward
use Rattle.code.proofs.Sizes.{Decodes, a_size, size_is}

-- an opcode of one byte
pub by_byte : (b : ℕ) → b < 256 → form_by b ≡ form_of instructions b
unfolding form_by pick
by_byte b h = simp (lt-ltb b 0xFE00 (omega arith))

-- an opcode after FE
pub by_second : (k : ℕ) → form_by (0xFE00 + k) ≡ form_of after_fE k
unfolding form_by pick
by_second k = simp (le-ltb (0xFE00 + k) 0xFE00 (omega arith)) (ap (form_of after_fE) (add-sub_cancel_left 0xFE00 k))

found : (F : Option Form) (n next : ℕ) → T (not (is_none F))
    → ◌≡◌ {A = Option Decoded} (some (record { ins = or_else (map_option (with_operand n next) F) (plain nop); next = next })) (map_option (meant n next) F)
unfolding is_none or_else map_option meant
found none n next t = absurd t
found (some f) n next t = refl

pub read_as : (o n next : ℕ) (F : Option Form) → form_by o ≡ F → T (not (is_none F))
    → ◌≡◌ {A = Option Decoded} (some (record { ins = ins_of (record { op = o; operand = n; next = next }); next = next })) (map_option (meant n next) F)
unfolding ins_of
read_as o n next F e t = rw e (found F n next t)

mapped : {A B : Type 0} (f : A → B) (F : Option A) (b : B) → map_option f F ≡ some b → T (not (is_none F))
unfolding map_option is_none
mapped f none b e = let z : ◌≡◌ {A = ℕ} 0 1 = cc in absurd (omega arith)
mapped f (some a) b e = tt

-- an instruction by its length
module _ (code : List ℕ) (o s : ℕ) (size-known : s ≡ size_at code o) (some_bytes : 0 < s) where
  decodes : Decodes code o
  decodes = a_size code o (omega arith)

  pub inside : o < length code
  inside = onward.inside code o decodes.found decodes.is

  pub within : o + s ≤ length code
  within = omega (arith, onward.next_within code o decodes.found decodes.is, decodes.next)

  pub by_length : s ≡ length_of (get_or code o 0)
  by_length = size-known ∙ size_is code o decodes.found decodes.is

  pub of_length : Length s
  of_length = rw by_length (a_length (get_or code o 0))

  pub two : get_or code o 0 ≡ 0xFE → s ≡ 2
  two e = by_length ∙ ap length_of e ∙ length_FE

  pub known_second : (k : ℕ) → get_or code o 0 ≡ 0xFE → k ≡ little 1 (rest code o)
      → decode code o ≡ some (record { ins = ins_of (record { op = 0xFE00 + k; operand = 0; next = o + s }); next = o + s })
  known_second k e q =
      let whole : decode code o ≡ map_option (meant 0 (o + s)) (form_of after_fE k) = rw (q, two e) (after_FE code o inside e (omega (arith, within, two e))) in
      whole ∙ sym (read_as (0xFE00 + k) 0 (o + s) (form_of after_fE k) (by_second k) (mapped (meant 0 (o + s)) (form_of after_fE k) decodes.found (sym whole ∙ decodes.is)))

  pub known_plain : (n : ℕ) → get_or code o 0 < 256 → (get_or code o 0 ≡ 0xFE → ⊥) → n ≡ little (s - 1) (rest code o)
      → decode code o ≡ some (record { ins = ins_of (record { op = get_or code o 0; operand = n; next = o + s }); next = o + s })
  known_plain n byte e v =
      rw (v, by_length)
      (plainly code o inside byte e (omega (arith, within, by_length))
      ∙ sym (read_as (get_or code o 0) _ _ (form_of instructions (get_or code o 0)) (by_byte (get_or code o 0) byte) (is_kept (get_or code o 0) (λ z. omega (arith, by_length)))))
