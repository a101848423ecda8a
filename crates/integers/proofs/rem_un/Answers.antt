use Rattle.std.proofs.Common.{◌%◌}
use Rattle.model.specs.Operators.{whole_of}
use Rattle.integers.proofs.Unsigned.{unless_zero}
use Rattle.integers.proofs.rem_un.Goals as goal

pub returns : goal.returns
unfolding whole_of
returns g c = unless_zero ◌%◌ _ c.low.ensures c.low-2.ensures c.checked_rem.ensures c.ok_or.ensures.value
