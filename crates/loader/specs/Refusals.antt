-- A refusal's number, and the fault that it is at a place.
use Rattle.std.specs.Prelude.{ℕ}
use Rattle.model.specs.Loading.{Refusal as Refused}
use Rattle.loaded.specs.declared.Fault.{Fault}
use Rattle.loader.specs.declared.refusal.Refusal.{Refusal}
use Rattle.loader.specs.declared.refusal.Refusal.TheVariants.{TooLong, BadRecord, Order, Range, TooMany, Rule, Override}

abbrev pub number_of : Refusal → ℕ
number_of TooLong = 1
number_of BadRecord = 2
number_of Order = 3
number_of Range = 4
number_of TooMany = 5
number_of Rule = 6
number_of Override = 7

-- a refusal has its place in the tables as offset
abbrev pub fault_of : Refused → Fault
fault_of f = record { number = f.number; method = 0; offset = f.place }
