-- What the answers on operands mean.
use Rattle.std.specs.Prelude.{ℕ, ◌-◌, ◌^◌, ltb, Option, Some, None}
use Rattle.std.proofs.Math.Option as model
use Rattle.model.specs.Answer.{pick}
use Rattle.code.specs.declared.operand.Distance.{Distance}
use Rattle.code.specs.declared.operand.Distance.TheVariants.{Byte, Word}

-- an offset as 64 bits hold it: one that is too large is the largest, which no code reaches
unfoldable pub held : ℕ → ℕ
held t = pick (ltb t (2 ^ 64)) t (2 ^ 64 - 1)

-- how many values a distance has
abbrev pub values : Distance → ℕ
values Byte = 0x100
values Word = 0x100000000

-- what the model says where a value may be missing
abbrev pub maybe : {A : Type 0} → Option A → model.Option A
maybe None = model.none
maybe (Some a) = model.some a
