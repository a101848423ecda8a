use native.Mathlib.Omega.{arith}
use Rattle.prepare.proofs.Asking.{unasked_all, unasked_past}
use Rattle.prepare.proofs.sets.first_asked.Goals as goal

pub returns-then-c-classes : goal.returns-then-c-classes
returns-then-c-classes c = record { result_range = omega arith; unasked = λ ps e. unasked_all ps _ }

pub returns-else-c-classes : goal.returns-else-c-classes
returns-else-c-classes c = record { result_range = omega arith; unasked = λ ps e. unasked_past ps _ (omega arith) }
