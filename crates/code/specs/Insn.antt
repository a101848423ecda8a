-- What an instruction as it is read means.
use Rattle.std.specs.Prelude.{ℕ, ◌-◌, List, ltb}
use Rattle.std.proofs.Math.Option.{Option}
use Rattle.model.specs.Answer.{pick, or_else, map_option}
use Rattle.model.specs.Code.{Ins, plain, nop, jump, Form, bare, short, long, double, near, far, second, instructions, after_fE, form_of, target, Decoded, decode}
use Rattle.code.specs.declared.insn.Insn.{Insn}

-- the form of an opcode of one byte, or of FE00 and the byte after FE
unfoldable pub form_by : ℕ → Option Form
form_by op = pick (ltb op 0xFE00) (form_of instructions op) (form_of after_fE (op - 0xFE00))

-- the instruction of a form, by its operand and where the next one begins
unfoldable pub with_operand : ℕ → ℕ → Form → Ins
with_operand n next (bare i) = i
with_operand n next (short f) = f n
with_operand n next (long f) = f n
with_operand n next (double f) = f n
with_operand n next (near j) = jump j (target 0x100 next n)
with_operand n next (far j) = jump j (target 0x100000000 next n)
with_operand n next second = plain nop

-- the same, decoded
unfoldable pub meant : ℕ → ℕ → Form → Decoded
meant n next f = record { ins = with_operand n next f; next = next }

-- the instruction that was read; an opcode that is not kept never is
unfoldable pub ins_of : Insn → Ins
ins_of i = or_else (map_option (with_operand i.operand i.next) (form_by i.op)) (plain nop)

-- the lengths that instructions have, and 0
pub data Length : ℕ → Type 0 where
  no_bytes : Length 0
  one_byte : Length 1
  two_bytes : Length 2
  five_bytes : Length 5
  nine_bytes : Length 9

-- the length of the instruction at an offset, 0 where none can be read
unfoldable pub size_at : List ℕ → ℕ → ℕ
size_at code o = or_else (map_option (λ d. d.next - o) (decode code o)) 0
