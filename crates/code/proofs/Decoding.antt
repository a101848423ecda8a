-- Decoding, over the form of the first byte.
use mathlib.Core.Path.{◌≡◌, refl, ap, ◌∙◌}
use mathlib.Core.Bool.{Bool, true, false}
use mathlib.Core.Option.{Option, none, some}
use mathlib.Core.List.{List}
use Prim.Native.Nat.{ℕ, suc, ◌+◌, ◌-◌, ◌≤◌, ◌<◌}
use native.Mathlib.Omega.{arith}
use borrow.Author.Tests.{le-leb, lt-leb}
use lib.Dec.{T, leb}
use lib.ListN.{length, get_or, drop, length-drop, drop_of_length-le}
use lib.Seq.{drop-cons, get_or-drop}
use native.Mathlib.Nat.{add-zero}
use Rattle.model.specs.Answer.{only_if, map_option}
use Rattle.model.specs.Loading.{little}
use Rattle.model.specs.Code.{Ins, Jump, jump, target, Form, bare, short, long, double, near, far, second, length_of, instructions, after_fE, form_of, as_form, full_form, and_then, Decoded, decode_byte, decode_at, decode, size_of, length_by}
use Rattle.code.specs.Insn.{with_operand, meant}
use Rattle.code.proofs.Bytes.{one}
use Rattle.code.proofs.Forms.{is_second, is_bare, not_second, after_bare, length_FE, form_FE}

-- the bytes after the opcode
abbrev pub rest : List ℕ → ℕ → List ℕ
rest code o = drop (suc o) code

pub at_byte : (code : List ℕ) (o : ℕ) → o < length code → decode code o ≡ decode_byte (get_or code o 0) (rest code o) o
unfolding decode decode_at
at_byte code o h = rw (drop-cons code o 0 h)

pub past : (code : List ℕ) (o : ℕ) → length code ≤ o → decode code o ≡ none
unfolding decode decode_at
past code o h = rw (drop_of_length-le code h)

-- what the form says, where the bytes suffice
unfoldable pub said : Option Form → List ℕ → ℕ → Option Decoded
said F r next = and_then F (λ f. and_then (full_form f r) (λ g. map_option (λ i. record { ins = i; next = next }) (as_form g r next)))

said_plain : (F : Option Form) (r : List ℕ) (next : ℕ) → is_second F ≡ false → said F r next ≡ map_option (meant (little (length_by F - 1) r) next) F
unfolding said is_second length_by size_of and_then full_form map_option as_form meant with_operand
said_plain none r next e = refl
said_plain (some (bare i)) r next e = refl
said_plain (some (short f)) r next e = refl
said_plain (some (long f)) r next e = refl
said_plain (some (double f)) r next e = refl
said_plain (some (near j)) r next e = refl
said_plain (some (far j)) r next e = refl
said_plain (some second) r next e = let z : ◌≡◌ {A = ℕ} 0 1 = cc in absurd (omega arith)

said_second : (G : Option Form) (next : ℕ) (r : List ℕ) → T (is_bare G)
    → and_then G (λ g. map_option (λ i. record { ins = i; next = next }) (as_form g r next)) ≡ map_option (meant 0 next) G
unfolding is_bare and_then map_option as_form meant with_operand
said_second none next r t = refl
said_second (some (bare i)) next r t = refl
said_second (some (short f)) next r t = absurd t
said_second (some (long f)) next r t = absurd t
said_second (some (double f)) next r t = absurd t
said_second (some (near j)) next r t = absurd t
said_second (some (far j)) next r t = absurd t
said_second (some second) next r t = absurd t

only_none : (t : Bool) → ◌≡◌ {A = Option Decoded} (only_if t none) none
unfolding only_if
only_none true = refl
only_none false = refl

module _ (code : List ℕ) (o : ℕ) (inside : o < length code) where
  -- the bytes that are left, with the opcode
  left : suc (length (rest code o)) ≡ length code - o
  left = rw (length-drop (suc o) code) (omega arith)

  by_test : (t : Bool) → leb (length_of (get_or code o 0)) (suc (length (rest code o))) ≡ t
      → decode code o ≡ only_if t (said (form_of instructions (get_or code o 0)) (rest code o) (o + length_of (get_or code o 0)))
  unfolding decode_byte said
  by_test t e =
      at_byte code o inside
      ∙ ap (λ (x : Bool). only_if x (said (form_of instructions (get_or code o 0)) (rest code o) (o + length_of (get_or code o 0)))) e

  pub whole : o + length_of (get_or code o 0) ≤ length code
      → decode code o ≡ said (form_of instructions (get_or code o 0)) (rest code o) (o + length_of (get_or code o 0))
  unfolding only_if
  whole h = by_test true (le-leb (length_of (get_or code o 0)) (suc (length (rest code o))) (rw left (omega arith)))

  -- the bytes don't suffice
  pub cut : length code < o + length_of (get_or code o 0) → decode code o ≡ none
  unfolding only_if
  cut h = by_test false (lt-leb (length_of (get_or code o 0)) (suc (length (rest code o))) (rw left (omega arith)))

  -- the byte is not kept
  pub unknown : form_of instructions (get_or code o 0) ≡ none → decode code o ≡ none
  unfolding said and_then
  unknown e =
      by_test (leb (length_of (get_or code o 0)) (suc (length (rest code o)))) refl
      ∙ ap (λ (F : Option Form). only_if (leb (length_of (get_or code o 0)) (suc (length (rest code o)))) (said F (rest code o) (o + length_of (get_or code o 0)))) e
      ∙ only_none (leb (length_of (get_or code o 0)) (suc (length (rest code o))))

  -- FE and the byte after it
  pub after_FE : get_or code o 0 ≡ 0xFE → o + 2 ≤ length code → decode code o ≡ map_option (meant 0 (o + 2)) (form_of after_fE (little 1 (rest code o)))
  unfolding said and_then full_form
  after_FE e h =
      let l : length_of (get_or code o 0) ≡ 2 = ap length_of e ∙ length_FE in
      whole (rw l h)
      ∙ ap (λ (k : ℕ). said (form_of instructions (get_or code o 0)) (rest code o) (o + k)) l
      ∙ ap (λ (F : Option Form). said F (rest code o) (o + 2)) (ap (form_of instructions) e ∙ form_FE)
      ∙ said_second (form_of after_fE (little 1 (rest code o))) (o + 2) (rest code o) (after_bare (little 1 (rest code o)))

  pub second_byte : little 1 (rest code o) ≡ get_or code (suc o) 0
  second_byte = one (rest code o) ∙ get_or-drop (suc o) code 0 0 ∙ ap (λ (k : ℕ). get_or code k 0) (add-zero (suc o))

  pub second_at : (i : Ins) → get_or code o 0 ≡ 0xFE → form_of after_fE (get_or code (suc o) 0) ≡ some (bare i) → o + 2 ≤ length code
      → decode code o ≡ some (record { ins = i; next = o + 2 })
  unfolding map_option meant with_operand
  second_at i e f h = after_FE e h ∙ ap (map_option (meant 0 (o + 2))) (ap (form_of after_fE) second_byte ∙ f)

  pub second_unknown : get_or code o 0 ≡ 0xFE → form_of after_fE (get_or code (suc o) 0) ≡ none → o + 2 ≤ length code → decode code o ≡ none
  unfolding map_option
  second_unknown e f h = after_FE e h ∙ ap (map_option (meant 0 (o + 2))) (ap (form_of after_fE) second_byte ∙ f)

  module _ (byte : get_or code o 0 < 256) where
    -- every byte but FE
    pub plainly : (get_or code o 0 ≡ 0xFE → ⊥) → o + length_of (get_or code o 0) ≤ length code
        → decode code o ≡ map_option (meant (little (length_of (get_or code o 0) - 1) (rest code o)) (o + length_of (get_or code o 0))) (form_of instructions (get_or code o 0))
    unfolding length_of
    plainly e h =
        whole h
        ∙ said_plain (form_of instructions (get_or code o 0)) (rest code o) (o + length_of (get_or code o 0)) (not_second (get_or code o 0) byte e)

    -- the length of an instruction of a form
    pub length_by_lem : (f : Form) → form_of instructions (get_or code o 0) ≡ some f → length_of (get_or code o 0) ≡ size_of f
    unfolding length_of length_by
    length_by_lem f e = ap length_by e

    -- an instruction of a form that is not FE's, where the bytes suffice
    pub by_form : (f : Form) → form_of instructions (get_or code o 0) ≡ some f → is_second (some f) ≡ false → o + size_of f ≤ length code
        → decode code o ≡ some (meant (little (size_of f - 1) (rest code o)) (o + size_of f) f)
    unfolding length_by map_option
    by_form f e n h =
        whole (rw (length_by_lem f e) h)
        ∙ ap (λ (k : ℕ). said (form_of instructions (get_or code o 0)) (rest code o) (o + k)) (length_by_lem f e)
        ∙ ap (λ (F : Option Form). said F (rest code o) (o + size_of f)) e
        ∙ said_plain (some f) (rest code o) (o + size_of f) n

    -- and where they don't
    pub too_short : (f : Form) → form_of instructions (get_or code o 0) ≡ some f → length code < o + size_of f → decode code o ≡ none
    too_short f e h = cut (rw (length_by_lem f e) h)

    pub bare_at : (i : Ins) → form_of instructions (get_or code o 0) ≡ some (bare i) → decode code o ≡ some (record { ins = i; next = o + 1 })
    unfolding is_second size_of meant with_operand
    bare_at i e = by_form (bare i) e refl (omega arith)

    pub short_at : (f : ℕ → Ins) → form_of instructions (get_or code o 0) ≡ some (short f) → o + 2 ≤ length code
        → decode code o ≡ some (record { ins = f (little 1 (rest code o)); next = o + 2 })
    unfolding is_second size_of meant with_operand
    short_at f e h = by_form (short f) e refl h

    pub long_at : (f : ℕ → Ins) → form_of instructions (get_or code o 0) ≡ some (long f) → o + 5 ≤ length code
        → decode code o ≡ some (record { ins = f (little 4 (rest code o)); next = o + 5 })
    unfolding is_second size_of meant with_operand
    long_at f e h = by_form (long f) e refl h

    pub double_at : (f : ℕ → Ins) → form_of instructions (get_or code o 0) ≡ some (double f) → o + 9 ≤ length code
        → decode code o ≡ some (record { ins = f (little 8 (rest code o)); next = o + 9 })
    unfolding is_second size_of meant with_operand
    double_at f e h = by_form (double f) e refl h

    pub near_at : (j : Jump) → form_of instructions (get_or code o 0) ≡ some (near j) → o + 2 ≤ length code
        → decode code o ≡ some (record { ins = jump j (target 0x100 (o + 2) (little 1 (rest code o))); next = o + 2 })
    unfolding is_second size_of meant with_operand
    near_at j e h = by_form (near j) e refl h

    pub far_at : (j : Jump) → form_of instructions (get_or code o 0) ≡ some (far j) → o + 5 ≤ length code
        → decode code o ≡ some (record { ins = jump j (target 0x100000000 (o + 5) (little 4 (rest code o))); next = o + 5 })
    unfolding is_second size_of meant with_operand
    far_at j e h = by_form (far j) e refl h
