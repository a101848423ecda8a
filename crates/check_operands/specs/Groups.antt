-- Groups of instructions that the check treats alike.
use Rattle.std.specs.Prelude.{ℕ, ◌+◌, ◌%◌, ◌-◌, Bool, List, [], ◌∷◌, get_or, ltb, eqb}
use Rattle.std.proofs.Math.Option.{Option}
use Rattle.model.specs.Answer.{pick}
use Rattle.model.specs.Tables.{int32, int64, F, null, Sort}
use Rattle.model.specs.Code.{Ins, plain, nop, pop, dup, ret, ldc, binary, unary, number, add, whole, rem, shift, shl, compare, eq, lt, ldarg, starg, ldloc}
use Rattle.model.specs.Code.{stloc, jump, Jump, always, iftrue, when, call, callvirt, newobj, castclass, ldfld, stfld, ldsfld, stsfld, target, callable}
use Rattle.model.specs.Code.{dispatched, constructs, Unary, neg, not_bits, conv_i4, conv_i8, conv_r8}

-- the group of each first byte
unfoldable pub groups : List ℕ
groups =
    0 ∷ 0 ∷ 8 ∷ 8 ∷ 8 ∷ 8 ∷ 11 ∷ 11 ∷ 11 ∷ 11 ∷ 12 ∷ 12 ∷ 12 ∷ 12 ∷ 9 ∷ 0 ∷
    10 ∷ 13 ∷ 0 ∷ 14 ∷ 4 ∷ 5 ∷ 5 ∷ 5 ∷ 5 ∷ 5 ∷ 5 ∷ 5 ∷ 5 ∷ 5 ∷ 5 ∷ 5 ∷
    5 ∷ 6 ∷ 0 ∷ 7 ∷ 0 ∷ 2 ∷ 1 ∷ 0 ∷ 25 ∷ 0 ∷ 3 ∷ 33 ∷ 34 ∷ 34 ∷ 35 ∷ 36 ∷
    36 ∷ 36 ∷ 36 ∷ 35 ∷ 36 ∷ 36 ∷ 36 ∷ 36 ∷ 33 ∷ 34 ∷ 34 ∷ 35 ∷ 36 ∷ 36 ∷ 36 ∷ 36 ∷
    35 ∷ 36 ∷ 36 ∷ 36 ∷ 36 ∷ 0 ∷ 0 ∷ 0 ∷ 0 ∷ 0 ∷ 0 ∷ 0 ∷ 0 ∷ 0 ∷ 0 ∷ 0 ∷
    0 ∷ 0 ∷ 0 ∷ 0 ∷ 0 ∷ 0 ∷ 0 ∷ 0 ∷ 15 ∷ 15 ∷ 15 ∷ 15 ∷ 16 ∷ 16 ∷ 16 ∷ 16 ∷
    16 ∷ 16 ∷ 17 ∷ 17 ∷ 17 ∷ 19 ∷ 20 ∷ 0 ∷ 0 ∷ 21 ∷ 22 ∷ 0 ∷ 23 ∷ 0 ∷ 0 ∷ 26 ∷
    0 ∷ 0 ∷ 0 ∷ 27 ∷ 28 ∷ 28 ∷ 0 ∷ 0 ∷ 0 ∷ 0 ∷ 0 ∷ 29 ∷ 0 ∷ 30 ∷ 31 ∷ 0 ∷
    32 ∷ 0 ∷ 0 ∷ 0 ∷ 0 ∷ 0 ∷ 0 ∷ 0 ∷ 0 ∷ 0 ∷ 0 ∷ 0 ∷ 0 ∷ 0 ∷ 0 ∷ 0 ∷
    0 ∷ 0 ∷ 0 ∷ 0 ∷ 0 ∷ 0 ∷ 0 ∷ 0 ∷ 0 ∷ 0 ∷ 0 ∷ 0 ∷ 0 ∷ 0 ∷ 0 ∷ 0 ∷
    0 ∷ 0 ∷ 0 ∷ 0 ∷ 0 ∷ 0 ∷ 0 ∷ 0 ∷ 0 ∷ 0 ∷ 0 ∷ 0 ∷ 0 ∷ 0 ∷ 0 ∷ 0 ∷
    0 ∷ 0 ∷ 0 ∷ 0 ∷ 0 ∷ 0 ∷ 0 ∷ 0 ∷ 0 ∷ 0 ∷ 0 ∷ 0 ∷ 0 ∷ 0 ∷ 0 ∷ 0 ∷
    0 ∷ 0 ∷ 0 ∷ 0 ∷ 0 ∷ 0 ∷ 0 ∷ 0 ∷ 0 ∷ 0 ∷ 0 ∷ 0 ∷ 0 ∷ 0 ∷ 0 ∷ 0 ∷
    0 ∷ 0 ∷ 0 ∷ 0 ∷ 0 ∷ 0 ∷ 16 ∷ 0 ∷ 16 ∷ 0 ∷ 16 ∷ 0 ∷ 0 ∷ 0 ∷ 0 ∷ 0 ∷
    0 ∷ 0 ∷ 0 ∷ 0 ∷ 0 ∷ 0 ∷ 0 ∷ 0 ∷ 0 ∷ 0 ∷ 0 ∷ 0 ∷ 0 ∷ 0 ∷ 0 ∷ 0 ∷
    0 ∷ 0 ∷ 0 ∷ 0 ∷ 0 ∷ 0 ∷ 0 ∷ 0 ∷ 0 ∷ 0 ∷ 0 ∷ 0 ∷ 0 ∷ 0 ∷ 0 ∷ 0 ∷ []

-- the group of an opcode
unfoldable pub group_of : ℕ → ℕ
group_of op = pick (ltb op 256) (get_or groups op 0) (pick (eqb op 0xFE01) 18 (pick (ltb op 0xFE02) 0 (pick (ltb op 0xFE06) 24 0)))

-- the branch of a group
unfoldable pub jump_by : ℕ → Jump
jump_by g = pick (eqb g 33) always (pick (eqb g 34) iftrue (pick (eqb g 35) (when eq) (when lt)))

-- the target of a branch, by its opcode
unfoldable pub target_by : ℕ → ℕ → ℕ → Option ℕ
target_by op next d = pick (ltb op 0x38) (target 0x100 next d) (target 0x100000000 next d)

-- the number in the opcodes of ldarg.0, ldloc.0 and stloc.0 to 3
unfoldable pub in_opcode : ℕ → ℕ
in_opcode op = (op + 2) % 4

unfoldable pub call_by : ℕ → ℕ → Ins
call_by w t = pick (eqb w 0) (call t) (pick (eqb w 1) (callvirt t) (newobj t))

unfoldable pub may_call : ℕ → Sort → Bool
may_call w s = pick (eqb w 0) (callable s) (pick (eqb w 1) (dispatched s) (constructs s))

unfoldable pub field_by : ℕ → ℕ → Ins
field_by g t = pick (eqb g 29) (ldfld t) (pick (eqb g 30) (stfld t) (pick (eqb g 31) (ldsfld t) (stsfld t)))

-- the operators of one operand
unfoldable pub unary_by : ℕ → Unary
unary_by g = pick (eqb g 19) neg (pick (eqb g 23) conv_r8 (pick (eqb g 20) not_bits (pick (eqb g 21) conv_i4 conv_i8)))

-- an instruction of a group without tokens, by opcode and operand
unfoldable pub plain_by : ℕ → ℕ → ℕ → Ins
plain_by g op n =
    pick (eqb g 0) (plain nop) (pick (eqb g 1) (plain pop) (pick (eqb g 2) (plain dup) (pick (eqb g 3) (plain ret)
    (pick (eqb g 4) (plain (ldc null 0)) (pick (eqb g 5) (plain (ldc int32 0)) (pick (eqb g 6) (plain (ldc int64 0)) (pick (eqb g 7) (plain (ldc F 0))
    (pick (eqb g 8) (ldarg (in_opcode op)) (pick (eqb g 9) (ldarg n) (pick (eqb g 10) (starg n)
    (pick (eqb g 11) (ldloc (in_opcode op)) (pick (eqb g 12) (stloc (in_opcode op)) (pick (eqb g 13) (ldloc n) (pick (eqb g 14) (stloc n)
    (pick (eqb g 15) (plain (binary (number add))) (pick (eqb g 16) (plain (binary (whole rem))) (pick (eqb g 17) (plain (binary (shift shl)))
    (pick (eqb g 18) (plain (binary (compare eq))) (pick (eqb g 24) (plain (binary (compare lt)))
    (plain (unary (unary_by g))))))))))))))))))))))

-- an instruction that stands for all of its group: by opcode, operand and where the next one begins
unfoldable pub ins_by : ℕ → ℕ → ℕ → ℕ → Ins
ins_by g op n next =
    pick (ltb g 25) (plain_by g op n)
    (pick (ltb g 28) (call_by (g - 25) n)
    (pick (eqb g 28) (castclass n)
    (pick (ltb g 33) (field_by g n)
    (jump (jump_by g) (target_by op next n)))))
