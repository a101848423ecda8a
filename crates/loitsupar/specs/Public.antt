-- The answers of the public functions, by the model's.
use Rattle.std.proofs.Math.Option.{Option as ModelOption}
use Rattle.std.specs.Prelude.{List, Option, Result, Ok, Err, ⊤}
use Rattle.model.specs.Answer.{Answer, bad, ok}
use Rattle.model.specs.Check.{Shape, Shapes, Fault as ModelFault}
use Rattle.loaded.specs.declared.Fault.{Fault}
use Rattle.checker.specs.Answers.{fault_of}
use Rattle.checker.specs.Told.{told}
use Rattle.checker.specs.declared.tell.Found.{Found}

-- the first fault, or none
unfoldable pub checked : Answer ModelFault (List Shapes) → Result ⊤ Fault
checked (bad f) = Err (fault_of f)
checked (ok found) = Ok tt

-- what was found, or the fault
unfoldable pub told_of : Answer ModelFault (ModelOption Shape) → Result (Option Found) Fault
told_of (bad f) = Err (fault_of f)
told_of (ok s) = Ok (told s)

-- the fault of an answer by its numbers: all 0 where there is none
unfoldable pub numbered : {A : Type 0} → Result A Fault → Fault
numbered (Ok a) = record { number = 0; method = 0; offset = 0 }
numbered (Err f) = f
