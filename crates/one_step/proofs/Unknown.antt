-- A byte that is no opcode: one test over all bytes.
use Prim.Native.Nat.{ℕ, ◌<◌}
use mathlib.Core.Path.{◌≡◌, refl, sym, ap, ◌∙◌, subst}
use mathlib.Core.Logic.{inl, inr}
use mathlib.Core.Bool.{Bool, true, false, ◌||◌}
use mathlib.Core.Option.{Option, none, some}
use mathlib.Core.List.{List, [], ◌∷◌}
use native.Mathlib.Omega.{arith}
use lib.Dec.{T, eqb}
use borrow.Author.Tests.{ne_eqb}
use types.Run.{OneOf}
use Rattle.model.specs.Answer.{bad, need, ◌>>=◌, pick, is_none}
use Rattle.model.specs.Code.{Form, ◌is◌, op, un, const, branches, loads, operators, objects, instructions, form_of}
use Rattle.state.specs.declared.Stay.{Stay}
use Rattle.state.specs.View.{Work}
use Rattle.state.specs.Work.{Tables, acts_w}
use Rattle.code.proofs.Table.{under}
use Rattle.code.proofs.Decoding.{unknown as undecoded}
use Rattle.in_frame.specs.Tries.{Reads, Others}
use Rattle.operator_steps.proofs.Second.{by, acts_by}

-- every opcode, the last one first
abbrev pub opcodes : List ℕ
opcodes =
    0xFE ∷ 0xDA ∷ 0xD8 ∷ 0xD6 ∷ 0x80 ∷ 0x7E ∷ 0x7D ∷ 0x7B ∷ 0x75 ∷ 0x74 ∷ 0x73 ∷ 0x6F ∷ 0x6C ∷ 0x6A ∷ 0x69 ∷ 0x66 ∷ 0x65 ∷ 0x64 ∷ 0x63 ∷ 0x62
    ∷ 0x61 ∷ 0x60 ∷ 0x5F ∷ 0x5E ∷ 0x5D ∷ 0x5C ∷ 0x5B ∷ 0x5A ∷ 0x59 ∷ 0x58 ∷ 0x44 ∷ 0x43 ∷ 0x42 ∷ 0x41 ∷ 0x40 ∷ 0x3F ∷ 0x3E ∷ 0x3D ∷ 0x3C ∷ 0x3B
    ∷ 0x3A ∷ 0x39 ∷ 0x38 ∷ 0x37 ∷ 0x36 ∷ 0x35 ∷ 0x34 ∷ 0x33 ∷ 0x32 ∷ 0x31 ∷ 0x30 ∷ 0x2F ∷ 0x2E ∷ 0x2D ∷ 0x2C ∷ 0x2B ∷ 0x2A ∷ 0x28 ∷ 0x26 ∷ 0x25
    ∷ 0x23 ∷ 0x21 ∷ 0x20 ∷ 0x1F ∷ 0x1E ∷ 0x1D ∷ 0x1C ∷ 0x1B ∷ 0x1A ∷ 0x19 ∷ 0x18 ∷ 0x17 ∷ 0x16 ∷ 0x15 ∷ 0x14 ∷ 0x13 ∷ 0x11 ∷ 0x10 ∷ 0x0E ∷ 0x0D
    ∷ 0x0C ∷ 0x0B ∷ 0x0A ∷ 0x09 ∷ 0x08 ∷ 0x07 ∷ 0x06 ∷ 0x05 ∷ 0x04 ∷ 0x03 ∷ 0x02 ∷ 0x00 ∷ []

-- the even bytes that are no opcode, and the odd ones but for the last
abbrev pub evens : List ℕ
evens =
    0x12 ∷ 0x22 ∷ 0x24 ∷ 0x46 ∷ 0x48 ∷ 0x4A ∷ 0x4C ∷ 0x4E ∷ 0x50 ∷ 0x52 ∷ 0x54 ∷ 0x56 ∷ 0x68 ∷ 0x6E ∷ 0x70 ∷ 0x72 ∷ 0x76 ∷ 0x78 ∷ 0x7A ∷ 0x7C
    ∷ 0x82 ∷ 0x84 ∷ 0x86 ∷ 0x88 ∷ 0x8A ∷ 0x8C ∷ 0x8E ∷ 0x90 ∷ 0x92 ∷ 0x94 ∷ 0x96 ∷ 0x98 ∷ 0x9A ∷ 0x9C ∷ 0x9E ∷ 0xA0 ∷ 0xA2 ∷ 0xA4 ∷ 0xA6 ∷ 0xA8
    ∷ 0xAA ∷ 0xAC ∷ 0xAE ∷ 0xB0 ∷ 0xB2 ∷ 0xB4 ∷ 0xB6 ∷ 0xB8 ∷ 0xBA ∷ 0xBC ∷ 0xBE ∷ 0xC0 ∷ 0xC2 ∷ 0xC4 ∷ 0xC6 ∷ 0xC8 ∷ 0xCA ∷ 0xCC ∷ 0xCE ∷ 0xD0
    ∷ 0xD2 ∷ 0xD4 ∷ 0xDC ∷ 0xDE ∷ 0xE0 ∷ 0xE2 ∷ 0xE4 ∷ 0xE6 ∷ 0xE8 ∷ 0xEA ∷ 0xEC ∷ 0xEE ∷ 0xF0 ∷ 0xF2 ∷ 0xF4 ∷ 0xF6 ∷ 0xF8 ∷ 0xFA ∷ 0xFC ∷ []

abbrev pub odds : List ℕ
odds =
    0x01 ∷ 0x0F ∷ 0x27 ∷ 0x29 ∷ 0x45 ∷ 0x47 ∷ 0x49 ∷ 0x4B ∷ 0x4D ∷ 0x4F ∷ 0x51 ∷ 0x53 ∷ 0x55 ∷ 0x57 ∷ 0x67 ∷ 0x6B ∷ 0x6D ∷ 0x71 ∷ 0x77 ∷ 0x79
    ∷ 0x7F ∷ 0x81 ∷ 0x83 ∷ 0x85 ∷ 0x87 ∷ 0x89 ∷ 0x8B ∷ 0x8D ∷ 0x8F ∷ 0x91 ∷ 0x93 ∷ 0x95 ∷ 0x97 ∷ 0x99 ∷ 0x9B ∷ 0x9D ∷ 0x9F ∷ 0xA1 ∷ 0xA3 ∷ 0xA5
    ∷ 0xA7 ∷ 0xA9 ∷ 0xAB ∷ 0xAD ∷ 0xAF ∷ 0xB1 ∷ 0xB3 ∷ 0xB5 ∷ 0xB7 ∷ 0xB9 ∷ 0xBB ∷ 0xBD ∷ 0xBF ∷ 0xC1 ∷ 0xC3 ∷ 0xC5 ∷ 0xC7 ∷ 0xC9 ∷ 0xCB ∷ 0xCD
    ∷ 0xCF ∷ 0xD1 ∷ 0xD3 ∷ 0xD5 ∷ 0xD7 ∷ 0xD9 ∷ 0xDB ∷ 0xDD ∷ 0xDF ∷ 0xE1 ∷ 0xE3 ∷ 0xE5 ∷ 0xE7 ∷ 0xE9 ∷ 0xEB ∷ 0xED ∷ 0xEF ∷ 0xF1 ∷ 0xF3 ∷ 0xF5
    ∷ 0xF7 ∷ 0xF9 ∷ 0xFB ∷ 0xFD ∷ []

unfoldable formless : ℕ → Bool
formless b = is_none (form_of instructions b)

unfoldable all : (ℕ → Bool) → List ℕ → Bool
all f [] = true
all f (k ∷ ks) = pick (f k) (all f ks) false

both : (s t : Bool) → T (pick s t false) → T s × T t
unfolding pick
both true t h = (tt, h)
both false t h = absurd h

holds : (f : ℕ → Bool) (l : List ℕ) (b : ℕ) → T (all f l) → OneOf l b → T (f b)
unfolding all
holds f [] b h o = absurd o
holds f (k ∷ []) b h e = subst (λ (n : ℕ). T (f n)) (sym e) (both (f k) true h).0
holds f (k ∷ m ∷ l) b h (inl e) = subst (λ (n : ℕ). T (f n)) (sym e) (both (f k) (all f (m ∷ l)) h).0
holds f (k ∷ m ∷ l) b h (inr o) = holds f (m ∷ l) b (both (f k) (all f (m ∷ l)) h).1 o

no_form : (F : Option Form) → T (is_none F) → F ≡ none
unfolding is_none
no_form none h = refl
no_form (some f) h = absurd h

unfoldable has : List ℕ → ℕ → Bool
has [] b = false
has (k ∷ ks) b = eqb b k || has ks b

unlisted : (l : List ℕ) (b : ℕ) → Others l b → has l b ≡ false
unfolding has
unlisted [] b o = refl
unlisted (k ∷ ks) b o = simp (ne_eqb b k o.1, unlisted ks b o.0)

-- the byte is an opcode, or has no form
unfoldable listed : ℕ → Bool
listed b = pick (has opcodes b) true (formless b)

unless : (s t : Bool) → T (pick s true t) → s ≡ false → T t
unfolding pick
unless true t h e = let z : ◌≡◌ {A = ℕ} 0 1 = cc in absurd (omega arith)
unless false t h e = h

pub no_other : (b : ℕ) → b < 256 → Others opcodes b → form_of instructions b ≡ none
unfolding listed has formless pick is_none ◌is◌ op un const branches loads operators objects instructions form_of
no_other b h o = no_form (form_of instructions b) (unless (has opcodes b) (formless b) (under listed 256 tt b h) (unlisted opcodes b o))

one_of : (l : List ℕ) (b : ℕ) → T (all formless l) → OneOf l b → form_of instructions b ≡ none
unfolding formless
one_of l b h o = no_form (form_of instructions b) (holds formless l b h o)

pub no_even : (b : ℕ) → OneOf evens b → form_of instructions b ≡ none
unfolding all formless pick is_none ◌is◌ op un const branches loads operators objects instructions form_of
no_even b o = one_of evens b tt o

pub no_odd : (b : ℕ) → OneOf odds b → form_of instructions b ≡ none
unfolding all formless pick is_none ◌is◌ op un const branches loads operators objects instructions form_of
no_odd b o = one_of odds b tt o

-- the run ends there
pub unformed : (P : Tables) (part : List ℕ) (y : Stay) (c : Work) {b : ℕ} → Reads c.regs.at part b → form_of instructions b ≡ none → acts_w P part y c ≡ bad 41
unfolding by need ◌>>=◌
unformed P part y c r e = acts_by P part y c (undecoded part c.regs.at r.inside (ap (form_of instructions) r.byte ∙ e))
