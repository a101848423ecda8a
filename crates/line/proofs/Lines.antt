-- How long a line can be.
use mathlib.Core.Path.{◌≡◌}
use mathlib.Core.Option.{Option, none, some}
use mathlib.Core.List.{List}
use Prim.Native.Nat.{ℕ, ◌≤◌}
use native.Mathlib.Omega.{arith}
use lib.ListN.{length, length-append}
use mir.Syntax.{w32, w64}
use mir.Val.{to_z}
use Rattle.model.specs.State.{Value, vint32, vint64, v_f, vnull, vobject}
use Rattle.model.specs.Turn.{space, dash, text_of, Line, print}
use Rattle.line.specs.Append.{Appended, Alone}
use Rattle.line.proofs.Spelling.{decimal_length, signed_length, hex_length}

text_length : (v : Option Value) → length (text_of v) ≤ 21
unfolding text_of dash
text_length none = omega arith
text_length (some (vint32 n)) = signed_length (to_z w32 n)
text_length (some (vint64 n)) = signed_length (to_z w64 n)
text_length (some (v_f n)) = omega (arith, hex_length 16 n)
text_length (some vnull) = omega arith
text_length (some (vobject n)) = omega arith

pub line_length : (l : Line) → length (print l) ≤ 128
unfolding print space
line_length l =
    simp length-append
    (omega (arith, decimal_length l.ending, decimal_length l.method, decimal_length l.offset, decimal_length l.steps, text_length l.value))

-- a buffer of 128 bytes has room
pub alone : {s s' : List ℕ} {r : ℕ} (l : Line) → length s ≡ 128 → Appended s 0 (print l) s' r → Alone s (print l) s' r
alone l e a =
    let h = a.held (omega (arith, line_length l)) in
    record { bytes = a.bytes; size = omega (arith, h.0); room = omega (arith, h.0, line_length l) }
