-- What an input announces.
use Rattle.std.specs.Prelude.{ℕ, ◌+◌, ◌-◌, List, Result, Ok, Err, leb, length, take, drop}
use Rattle.model.specs.Answer.{Answer, bad, pick}
use Rattle.model.specs.Tables.{most_tables, most_code}
use Rattle.model.specs.Loading.{refusal, little}
use Rattle.model.specs.Check.{Fault, fault_in}
use Rattle.model.specs.Run.{Ended}
use Rattle.model.specs.Turn.{play}
use Rattle.line.specs.declared.input.Refused.{Refused}
use Rattle.line.specs.declared.input.Refused.TheVariants.{Cut, TooLong}

-- where the code begins: the tests in their order
unfoldable pub announced_by : List ℕ → Result ℕ Refused
announced_by l =
    pick (leb 2 (length l))
    (pick (leb (little 2 l) most_tables)
    (pick (leb (2 + little 2 l) (length l))
    (pick (leb (length (drop (2 + little 2 l) l)) most_code) (Ok (2 + little 2 l)) (Err TooLong))
    (Err Cut))
    (Err TooLong))
    (Err Cut)

-- the number that is printed for a refusal
abbrev pub number_of : Refused → ℕ
number_of Cut = 9
number_of TooLong = 1

-- the answer to an input: a refusal at place 0, or what the parts give
unfoldable pub answered : Result ℕ Refused → List ℕ → Answer Fault Ended
answered (Err r) l = bad (fault_in 0 (refusal (number_of r) 0))
answered (Ok n) l = play (take (n - 2) (drop 2 l)) (drop n l)
