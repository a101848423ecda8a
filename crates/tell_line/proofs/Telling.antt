-- The parts of a line in their order, and how long it can be.
use mathlib.Core.Path.{◌≡◌, refl, sym, ap, ◌∙◌}
use mathlib.Core.Bool.{Bool, true, false}
use mathlib.Core.List.{List, [], ◌∷◌, ◌++◌, append_assoc, append-nil}
use Prim.Native.Nat.{ℕ, ◌+◌, ◌*◌, ◌≤◌, ◌<◌}
use native.Mathlib.Numerals.{add-one}
use native.Mathlib.Omega.{arith}
use lib.ListN.{length, take, get_or, length-append, length-take}
use lib.Seq.{sets, take-suc}
use Rattle.model.specs.Operators.{flag}
use Rattle.model.specs.Turn.{decimal, space}
use Rattle.line.specs.Append.{appended, Appended}
use Rattle.line.specs.declared.text.Text.{Text}
use Rattle.std.specs.Int.{from_bool}
use Rattle.line.proofs.Appending.{added_then, same}
use Rattle.line.proofs.Spelling.{decimal_length}
use Rattle.std.specs.Prelude.{Option, Result}
use Rattle.loaded.specs.declared.Fault.{Fault}
use Rattle.checker.specs.declared.tell.Found.{Found}
use Rattle.loitsupar.specs.Public.{numbered}
use Rattle.tell_line.specs.Shapes.{spaced, seen, line_of}

-- ---- Numbers after spaces

spaced_append : (l m : List ℕ) → spaced (l ++ m) ≡ spaced l ++ spaced m
unfolding spaced
spaced_append [] m = refl
spaced_append (n ∷ l) m = rw (spaced_append l m) (simp append_assoc)

one : (n : ℕ) → space ++ decimal n ≡ spaced (n ∷ [])
unfolding spaced
one n = simp append-nil

-- the next of the numbers
pub further : (a b c d : Text) (l : List ℕ) (i : ℕ) → i < length l → b ≡ appended a (spaced (take i l)) → c ≡ appended b space
    → d ≡ appended c (decimal (get_or l i 0)) → d ≡ appended a (spaced (take (i + 1) l))
further a b c d l i h p q r =
    let e = ap (λ (k : ℕ). spaced (take k l)) (add-one i) ∙ ap spaced (take-suc l i 0 h) ∙ spaced_append (take i l) (get_or l i 0 ∷ []) in
    same a d _ _ (added_then a b d _ _ p (added_then b c d _ _ q r)) (ap (λ (m : List ℕ). spaced (take i l) ++ m) (one (get_or l i 0)) ∙ sym e)

-- ---- The line

-- what is written of an answer
abbrev pub Told : Type 0
Told = Result (Option Found) Fault

flag_is : (b : Bool) → flag b ≡ from_bool b
unfolding flag
flag_is true = refl
flag_is false = refl

pub in_order : (t : Told) {f : Fault} {s : Bool × ℕ × List ℕ} → f ≡ numbered t → s ≡ seen t
    → ((((((decimal f.number ++ space) ++ (decimal f.method ++ space)) ++ (decimal f.offset ++ space))
    ++ (decimal (from_bool s.0) ++ space)) ++ decimal s.1) ++ spaced (take s.1 s.2)) ++ (10 ∷ [])
    ≡ line_of t
unfolding line_of spaced
in_order t {f} {s} e q = rw (e, q, flag_is (seen t).0) (simp append_assoc)

spaced_length : (l : List ℕ) → length (spaced l) ≤ 21 * length l
unfolding spaced space
spaced_length [] = omega arith
spaced_length (n ∷ l) = simp length-append (omega (arith, decimal_length n, spaced_length l))

-- 37 numbers at most
line_length : (t : Told) → length (seen t).2 ≡ 32 → length (line_of t) ≤ 1024
unfolding line_of
line_length t e =
    let n : length (take (seen t).1 (seen t).2) ≤ 32 = omega (arith, length-take (seen t).1 (seen t).2) in
    simp length-append
    (omega (
      arith,
      decimal_length (numbered t).number,
      spaced_length ((numbered t).method ∷ (numbered t).offset ∷ flag (seen t).0 ∷ (seen t).1 ∷ take (seen t).1 (seen t).2),
    ))

-- a buffer of 1,024 bytes has room
pub alone : {s s' : List ℕ} {r : ℕ} (t u : Told) → t ≡ u → length (seen t).2 ≡ 32 → length s ≡ 1024 → Appended s 0 (line_of t) s' r
    → (s' ≡ sets s 0 (line_of u)) × ((r ≡ length (line_of u)) × (r ≤ 1024))
alone {s} {s'} {r} t u e n k a =
    let h = a.held (omega (arith, line_length t n)) in
    let z : r ≡ length (line_of t) = omega (arith, h.0) in
    (a.bytes ∙ ap (λ (x : Told). sets s 0 (line_of x)) e, (z ∙ ap (λ (x : Told). length (line_of x)) e, omega (arith, line_length t n)))
