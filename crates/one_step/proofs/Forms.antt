-- The forms of the opcodes.
use Prim.Native.Nat.{ℕ, ◌+◌}
use mathlib.Core.Path.{◌≡◌, refl}
use mathlib.Core.Option.{some}
use Rattle.model.specs.Answer.{pick}
use Rattle.model.specs.Tables.{int32, null}
use Rattle.model.specs.Code.{Ins, Jump, plain, nop, pop, dup, ldc, ldarg, ldloc, stloc, Form, bare, near, far, ◌is◌, op, un, const, branches, loads, operators, objects, instructions, form_of}
use Rattle.model.specs.Code as code
use Rattle.model.specs.Code.{add, sub, mul, div, rem, div_un, rem_un, and, or, xor, add_ovf, mul_ovf, sub_ovf, shl, shr, shr_un, eq, ne, lt, le, gt, ge, lt_un, le_un, gt_un, ge_un, number, whole, shift, neg, not_bits, conv_i4, conv_i8, conv_r8, always, iftrue, iffalse, when}

-- the opcode b is an instruction by itself
abbrev pub Bare : ℕ → Ins → Type 0
Bare b i = form_of instructions b ≡ some (bare i)

-- from b on, an opcode for each number below 4
abbrev Fours : ℕ → (ℕ → Ins) → Type 0
Fours b f = Bare b (f 0) × Bare (b + 1) (f 1) × Bare (b + 2) (f 2) × Bare (b + 3) (f 3)

pub ldargs : Fours 0x02 ldarg
unfolding pick ◌is◌ op un const branches loads operators objects instructions form_of
ldargs = (refl, refl, refl, refl)

pub ldlocs : Fours 0x06 ldloc
unfolding pick ◌is◌ op un const branches loads operators objects instructions form_of
ldlocs = (refl, refl, refl, refl)

pub stlocs : Fours 0x0A stloc
unfolding pick ◌is◌ op un const branches loads operators objects instructions form_of
stlocs = (refl, refl, refl, refl)

-- an int32 constant
abbrev Int : ℕ → ℕ → Type 0
Int b n = Bare b (plain (ldc int32 n))

pub ints : Int 0x15 0xFFFFFFFF × Int 0x16 0 × Int 0x17 1 × Int 0x18 2 × Int 0x19 3 × Int 0x1A 4 × Int 0x1B 5 × Int 0x1C 6 × Int 0x1D 7 × Int 0x1E 8
unfolding pick ◌is◌ op un const branches loads operators objects instructions form_of
ints = (refl, refl, refl, refl, refl, refl, refl, refl, refl, refl)

pub null_form : Bare 0x14 (plain (ldc null 0))
unfolding pick ◌is◌ op un const branches loads operators objects instructions form_of
null_form = refl

pub nop_form : Bare 0x00 (plain nop)
unfolding pick ◌is◌ op un const branches loads operators objects instructions form_of
nop_form = refl

pub dup_form : Bare 0x25 (plain dup)
unfolding pick ◌is◌ op un const branches loads operators objects instructions form_of
dup_form = refl

pub pop_form : Bare 0x26 (plain pop)
unfolding pick ◌is◌ op un const branches loads operators objects instructions form_of
pop_form = refl

-- ---- The branches, by the form of their distance and from an opcode on

abbrev Branch : (Jump → Form) → ℕ → Jump → Type 0
Branch f b j = form_of instructions b ≡ some (f j)

abbrev Branches : (Jump → Form) → ℕ → Type 0
Branches f b =
    Branch f b always × Branch f (b + 1) iffalse × Branch f (b + 2) iftrue × Branch f (b + 3) (when eq) × Branch f (b + 4) (when ge) × Branch f (b + 5) (when gt) × Branch f (b + 6) (when le)
    × Branch f (b + 7) (when lt) × Branch f (b + 8) (when ne) × Branch f (b + 9) (when ge_un) × Branch f (b + 10) (when gt_un) × Branch f (b + 11) (when le_un) × Branch f (b + 12) (when lt_un)

pub nears : Branches near 0x2B
unfolding pick ◌is◌ op un const branches loads operators objects instructions form_of
nears = (refl, refl, refl, refl, refl, refl, refl, refl, refl, refl, refl, refl, refl)

pub fars : Branches far 0x38
unfolding pick ◌is◌ op un const branches loads operators objects instructions form_of
fars = (refl, refl, refl, refl, refl, refl, refl, refl, refl, refl, refl, refl, refl)

-- ---- The operators

-- the opcode b is the operator o
abbrev pub Binary : ℕ → code.Binary → Type 0
Binary b o = form_of instructions b ≡ some (op o)

abbrev pub Unary : ℕ → code.Unary → Type 0
Unary b o = form_of instructions b ≡ some (un o)

-- add, sub, mul, div, div.un, rem, rem.un
pub numbers : Binary 0x58 (number add) × Binary 0x59 (number sub) × Binary 0x5A (number mul) × Binary 0x5B (number div) × Binary 0x5C (whole div_un) × Binary 0x5D (whole rem) × Binary 0x5E (whole rem_un)
unfolding pick ◌is◌ op un const branches loads operators objects instructions form_of
numbers = (refl, refl, refl, refl, refl, refl, refl)

-- and, or, xor, shl, shr, shr.un
pub bits : Binary 0x5F (whole and) × Binary 0x60 (whole or) × Binary 0x61 (whole xor) × Binary 0x62 (shift shl) × Binary 0x63 (shift shr) × Binary 0x64 (shift shr_un)
unfolding pick ◌is◌ op un const branches loads operators objects instructions form_of
bits = (refl, refl, refl, refl, refl, refl)

-- add.ovf, mul.ovf, sub.ovf
pub overflows : Binary 0xD6 (whole add_ovf) × Binary 0xD8 (whole mul_ovf) × Binary 0xDA (whole sub_ovf)
unfolding pick ◌is◌ op un const branches loads operators objects instructions form_of
overflows = (refl, refl, refl)

-- neg, not, conv.i4, conv.i8, conv.r8
pub unaries : Unary 0x65 neg × Unary 0x66 not_bits × Unary 0x69 conv_i4 × Unary 0x6A conv_i8 × Unary 0x6C conv_r8
unfolding pick ◌is◌ op un const branches loads operators objects instructions form_of
unaries = (refl, refl, refl, refl, refl)
