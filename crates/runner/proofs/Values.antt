-- Values as they are handed out.
use Prim.Native.Nat.{ℕ, zero, suc, ◌+◌, ◌-◌, ◌%◌, ◌<◌}
use mathlib.Core.Path.{◌≡◌, refl, sym, ap, ◌∙◌}
use mathlib.Core.Bool.{Bool, true, false}
use mathlib.Core.Option.{none, some}
use native.Mathlib.Omega.{arith}
use native.Mathlib.Nat.{add-zero}
use lib.ListN.{get_or}
use lib.Dec.{ltb, eqb}
use lib.IntN.{pos, negsuc}
use mir.Syntax.{w32, w64}
use mir.Val.{to_z, of_z, sel}
use Rattle.model.specs.Answer.{pick}
use Rattle.model.specs.State as Model
use Rattle.integers.specs.Cells.{low}
use Rattle.state.specs.View.{Work, refer_to, value_by, cell}
use Rattle.state.specs.Work.{due_of_byte, value_due}
use Rattle.state.specs.Layout.{signed32}
use Rattle.begin_end.proofs.Signing.{signed_low}
use Rattle.line.specs.Values.{value_of}
use Rattle.line.specs.declared.line.Value.TheVariants.{Int32, Int64, Real, Null, Object}
use Rattle.runner.specs.Answers.{value_in}
use Rattle.runner.specs.Playing.{returned}

-- ---- An int32 with its sign

signed_twice : (b : ℕ) → signed32 (b % 4294967296) ≡ signed32 b
unfolding signed32
signed_twice b = let z : b % 4294967296 % 4294967296 ≡ b % 4294967296 = omega arith in rw z

low_signed : (b : ℕ) → signed32 b % 4294967296 ≡ b % 4294967296
unfolding signed32 pick
low_signed b = go (ltb (b % 4294967296) 2147483648) where
  go : (t : Bool) → pick t (b % 4294967296) (b % 4294967296 + 18446744069414584320) % 4294967296 ≡ b % 4294967296
  go true = omega arith
  go false = omega arith

-- ---- A value by its kind

module _ (k b : ℕ) where
  pub null_value : k ≡ 0 → b ≡ 0 → Null ≡ value_in (some (value_by k b))
  unfolding value_in value_by refer_to
  null_value e z = rw (e, z)

  pub int32_value : (n : ℕ) → k ≡ 1 → n ≡ of_z w64 (to_z w32 (low w32 b)) → Int32 n ≡ value_in (some (value_by k b))
  unfolding value_in value_by
  int32_value n e z = rw (e, z) (ap Int32 (signed_low b ∙ sym (signed_twice b)))

  pub int64_value : k ≡ 2 → Int64 b ≡ value_in (some (value_by k b))
  unfolding value_in value_by
  int64_value e = rw e

pub object_value : (k b : ℕ) → k ≡ 0 → (b ≡ 0 → ⊥) → Object b ≡ value_in (some (value_by k b))
unfolding value_in value_by refer_to
object_value k zero e z = absurd (z refl)
object_value k (suc b) e z = rw e

pub real_value : (k b : ℕ) → (k ≡ 0 → ⊥) → (k ≡ 1 → ⊥) → (k ≡ 2 → ⊥) → Real b ≡ value_in (some (value_by k b))
unfolding value_in value_by
real_value zero b h i j = absurd (h refl)
real_value (suc zero) b h i j = absurd (i refl)
real_value (suc (suc zero)) b h i j = absurd (j refl)
real_value (suc (suc (suc k))) b h i j = refl

-- ---- The value handed out is the model's

value_back : (k b : ℕ) → value_of (value_in (some (value_by k b))) ≡ some (value_by k b)
unfolding value_in value_by refer_to
value_back zero zero = refl
value_back zero (suc b) = refl
value_back (suc zero) b =
    let z : b % 4294967296 % 4294967296 ≡ b % 4294967296 = omega arith in
    ap (λ (n : ℕ). some (Model.vint32 n)) (low_signed (b % 4294967296) ∙ z)
value_back (suc (suc zero)) b = refl
value_back (suc (suc (suc k))) b = refl

module _ (c : Work) (byte : ℕ) where
  -- what is due stands in the first cell of the stack
  pub due_returned : value_due c (due_of_byte byte) ≡ returned byte (get_or c.kinds (c.regs.fp + 24) 0) (get_or c.cells (c.regs.fp + 24) 0)
  unfolding returned value_due due_of_byte pick cell
  due_returned = go (eqb byte 0) where
    go : (t : Bool) → value_due c (pick t 0 1) ≡ pick t none (some (value_by (get_or c.kinds (c.regs.fp + 24) 0) (get_or c.cells (c.regs.fp + 24) 0)))
    go true = refl
    go false = rw (add-zero (c.regs.fp + 24))

  pub due_back : value_of (value_in (value_due c (due_of_byte byte))) ≡ value_due c (due_of_byte byte)
  unfolding value_in value_due due_of_byte pick cell
  due_back = go (eqb byte 0) where
    go : (t : Bool) → value_of (value_in (value_due c (pick t 0 1))) ≡ value_due c (pick t 0 1)
    go true = refl
    go false = value_back (get_or c.kinds (c.regs.fp + 24 + 0) 0) (get_or c.cells (c.regs.fp + 24 + 0) 0)
