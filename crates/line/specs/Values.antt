-- The value that is printed.
use Rattle.std.proofs.Math.Option.{Option, none, some}
use Rattle.std.specs.Int.{w32}
use Rattle.model.specs.State as state
use Rattle.integers.specs.Cells.{low}
use Rattle.line.specs.declared.line.Value.{Value}
use Rattle.line.specs.declared.line.Value.TheVariants.{None, Int32, Int64, Real, Null, Object}

-- of an int32 the low 32 bits count
abbrev pub value_of : Value → Option state.Value
value_of None = none
value_of (Int32 n) = some (state.vint32 (low w32 n))
value_of (Int64 n) = some (state.vint64 n)
value_of (Real n) = some (state.v_f n)
value_of Null = some state.vnull
value_of (Object n) = some (state.vobject n)
