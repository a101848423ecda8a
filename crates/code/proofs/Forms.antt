-- The two tables agree: the length of an instruction by its form and by its first byte.
use mathlib.Core.Path.{◌≡◌, refl}
use mathlib.Core.Bool.{Bool, true, false, not}
use mathlib.Core.Option.{Option, none, some}
use mathlib.Core.List.{List, [], ◌∷◌}
use Prim.Native.Nat.{ℕ, ◌≤◌, ◌<◌}
use native.Mathlib.Omega.{arith}
use lib.Dec.{T, leb, eqb}
use borrow.Author.Tests.{ne_eqb, le-leb, lt-leb}
use Rattle.model.specs.Answer.{pick, is_none}
use Rattle.model.specs.Code.{Form, bare, short, long, double, near, far, second, Kept, size_of, length_by, length_of, ◌is◌, op, un, const, branches, loads, operators, objects, instructions, after_fE, form_of}
use Rattle.code.specs.Insn.{Length, no_bytes, one_byte, two_bytes, five_bytes, nine_bytes}
use Rattle.code.proofs.Table.{under, both, both_left, both_right}

sized : (f : Form) → 0 < size_of f
unfolding size_of
sized (bare i) = omega arith
sized (short f) = omega arith
sized (long f) = omega arith
sized (double f) = omega arith
sized (near j) = omega arith
sized (far j) = omega arith
sized second = omega arith

no_size : (F : Option Form) → length_by F ≡ 0 → F ≡ none
unfolding length_by
no_size none e = refl
no_size (some f) e = absurd (omega (arith, sized f))

a_size : (F : Option Form) → (length_by F ≡ 0 → ⊥) → T (not (is_none F))
unfolding length_by is_none
a_size none h = h refl
a_size (some f) h = tt

-- the lengths that there are
pub a_length : (b : ℕ) → Length (length_of b)
unfolding length_of length_by size_of
a_length b = cases (form_of instructions b)
  where
    cases : (f : Option Form) → Length (length_by f)
    cases none = no_bytes
    cases (some (bare i)) = one_byte
    cases (some (short f)) = two_bytes
    cases (some (long f)) = five_bytes
    cases (some (double f)) = nine_bytes
    cases (some (near j)) = two_bytes
    cases (some (far j)) = five_bytes
    cases (some second) = two_bytes

pub longest : {n : ℕ} → Length n → n < 10
longest no_bytes = omega arith
longest one_byte = omega arith
longest two_bytes = omega arith
longest five_bytes = omega arith
longest nine_bytes = omega arith

-- one that is none of the others
pub nine : {n : ℕ} → Length n → 1 < n → (n ≡ 2 → ⊥) → (n ≡ 5 → ⊥) → n ≡ 9
nine no_bytes h two five = absurd (omega arith)
nine one_byte h two five = absurd (omega arith)
nine two_bytes h two five = absurd (two refl)
nine five_bytes h two five = absurd (five refl)
nine nine_bytes h two five = refl

pub at_most_nine : (b : ℕ) → length_of b < 10
at_most_nine b = longest (a_length b)

-- whether it is FE's form
unfoldable pub is_second : Option Form → Bool
is_second none = false
is_second (some (bare i)) = false
is_second (some (short f)) = false
is_second (some (long f)) = false
is_second (some (double f)) = false
is_second (some (near j)) = false
is_second (some (far j)) = false
is_second (some second) = true

-- a byte is not kept where its length is 0
pub not_kept : (b : ℕ) → length_of b ≡ 0 → form_of instructions b ≡ none
unfolding length_of
not_kept b e = no_size (form_of instructions b) e

pub is_kept : (b : ℕ) → (length_of b ≡ 0 → ⊥) → T (not (is_none (form_of instructions b)))
unfolding length_of
is_kept b e = a_size (form_of instructions b) e

-- FE alone has its form
unfoldable alone : ℕ → Bool
alone b = pick (eqb b 0xFE) true (not (is_second (form_of instructions b)))

otherwise : (t s : Bool) → T (pick t true (not s)) → t ≡ false → s ≡ false
unfolding pick
otherwise true true h e = e
otherwise true false h e = refl
otherwise false true h e = absurd h
otherwise false false h e = refl

pub not_second : (b : ℕ) → b < 256 → (b ≡ 0xFE → ⊥) → is_second (form_of instructions b) ≡ false
unfolding alone is_second pick ◌is◌ op un const branches loads operators objects instructions form_of
not_second b h e = otherwise (eqb b 0xFE) (is_second (form_of instructions b)) (under alone 256 tt b h) (ne_eqb b 0xFE e)

pub length_FE : length_of 0xFE ≡ 2
unfolding pick ◌is◌ op un const branches loads operators objects instructions form_of size_of length_by length_of
length_FE = refl

pub form_FE : form_of instructions 0xFE ≡ some second
unfolding pick ◌is◌ op un const branches loads operators objects instructions form_of
form_FE = refl

-- the forms after FE have no operand
unfoldable pub is_bare : Option Form → Bool
is_bare none = true
is_bare (some (bare i)) = true
is_bare (some (short f)) = false
is_bare (some (long f)) = false
is_bare (some (double f)) = false
is_bare (some (near j)) = false
is_bare (some (far j)) = false
is_bare (some second) = false

all_bare : List Kept → Bool
all_bare [] = true
all_bare (k ∷ ks) = both (is_bare (some k.form)) (all_bare ks)

either : (b : Bool) (f g : Option Form) → T (is_bare f) → T (is_bare g) → T (is_bare (pick b f g))
unfolding pick
either true f g x y = x
either false f g x y = y

bare_in : (ks : List Kept) → T (all_bare ks) → (b : ℕ) → T (is_bare (form_of ks b))
unfolding all_bare is_bare form_of
bare_in [] t b = tt
bare_in (k ∷ ks) t b =
    either (eqb k.opcode b) (some k.form) (form_of ks b) (both_left (is_bare (some k.form)) (all_bare ks) t)
    (bare_in ks (both_right (is_bare (some k.form)) (all_bare ks) t) b)

pub after_bare : (b : ℕ) → T (is_bare (form_of after_fE b))
unfolding all_bare is_bare after_fE ◌is◌ op
after_bare b = bare_in after_fE tt b

-- after FE, 01 to 05 are kept
unfoldable from_one_to_five : ℕ → Bool
from_one_to_five k =
    pick (leb 1 k) (pick (leb k 5) (not (is_none (form_of after_fE k))) (is_none (form_of after_fE k))) (is_none (form_of after_fE k))

tested : (k : ℕ) → k < 256 → T (from_one_to_five k)
unfolding from_one_to_five pick is_none after_fE form_of ◌is◌ op
tested k h = under from_one_to_five 256 tt k h

nothing : (F : Option Form) → T (is_none F) → F ≡ none
unfolding is_none
nothing none t = refl
nothing (some f) t = absurd t

pub after_zero : (k : ℕ) → k < 1 → k < 256 → form_of after_fE k ≡ none
unfolding from_one_to_five pick
after_zero k l h = nothing (form_of after_fE k) (rw (lt-leb 1 k l) at (tested k h))

pub after_six : (k : ℕ) → 5 < k → k < 256 → form_of after_fE k ≡ none
unfolding from_one_to_five pick
after_six k l h =
    let o : 1 ≤ k = omega arith in nothing (form_of after_fE k) (rw (le-leb 1 k o, lt-leb k 5 l) at (tested k h))

pub after_kept : (k : ℕ) → 1 ≤ k → k ≤ 5 → k < 256 → T (not (is_none (form_of after_fE k)))
unfolding from_one_to_five pick
after_kept k l m h = rw (le-leb 1 k l, le-leb k 5 m) at (tested k h)
