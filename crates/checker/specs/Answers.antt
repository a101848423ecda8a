-- What the check answers: the first fault, with its number, method row and offset.
use Rattle.std.specs.Prelude.{ℕ, ◌<◌, ◌≡◌, List, Result, Ok, Err, ⊤}
use Rattle.model.specs.Answer.{Answer, bad, ok}
use Rattle.model.specs.Check.{Shapes, Fault as ModelFault}
use Rattle.loaded.specs.declared.Fault.{Fault}
use Rattle.loaded.specs.declared.Loaded.{Loaded}

unfoldable pub fault_of : ModelFault → Fault
fault_of f = record { number = f.number; method = f.method; offset = f.offset }

-- the model's first fault, with a number from 11 to 17, or none
unfoldable pub Answers : Answer ModelFault (List Shapes) → Result ⊤ Fault → Type 0
Answers (bad f) a = (a ≡ Err (fault_of f)) × (10 < f.number) × (f.number < 18)
Answers (ok l) a = a ≡ Ok tt

-- the module that is lent, with any initialisers: the check does not read them
abbrev pub lent : Loaded → List ℕ → Loaded
lent L initialisers =
    record { counts = L.counts; parents = L.parents; initialisers = initialisers; fields = L.fields; methods = L.methods; parts = L.parts }
