-- The parts of an answer line.
use Rattle.std.specs.Prelude.{ℕ, Bool, List, [], ◌∷◌, ◌++◌}
use Rattle.std.proofs.Math.Option.{Option, none}
use Rattle.model.specs.Answer.{ok}
use Rattle.model.specs.Tables.{Module}
use Rattle.model.specs.Loading.{within}
use Rattle.model.specs.State.{Value}
use Rattle.model.specs.Check.{check_module}
use Rattle.model.specs.Run.{run_module}
use Rattle.model.specs.Turn.{text_of, space, dash}
use Rattle.model.specs.Replay.{word_load, word_check, word_run, bar, numbers, check_text, run_text}
use Rattle.loaded.specs.declared.Fault.{Fault}
use Rattle.case_line.specs.Case.{line_feed}

-- a bar and the space after it
unfoldable pub strike : List ℕ
strike = 124 ∷ 32 ∷ []

-- load N P, and a space
unfoldable pub load_part : Fault → List ℕ
load_part f = word_load ++ (numbers (f.number ∷ f.offset ∷ []) ++ space)

-- | check N M O, and a space
unfoldable pub check_part : Fault → List ℕ
check_part f = strike ++ (word_check ++ (numbers (f.number ∷ f.method ∷ f.offset ∷ []) ++ space))

-- | run N M O S V |, and a space
unfoldable pub run_part : Fault → ℕ → Option Value → List ℕ
run_part f s v = strike ++ (word_run ++ (numbers (f.number ∷ f.method ∷ f.offset ∷ s ∷ []) ++ (space ++ (text_of v ++ bar))))

-- what follows `load N P ` where loading refused: the fault passed on, and no state
unfoldable pub refused_rest : Fault → List ℕ
refused_rest f = check_part f ++ (run_part f 0 none ++ (dash ++ line_feed))

-- and where it took a module
unfoldable pub loaded_rest : Module → List ℕ → ℕ → List ℕ
loaded_rest M arguments budget =
    strike ++ (word_check ++ (check_text (check_module M) ++ (bar ++ (word_run ++ (run_text (ok M) (run_module M arguments budget) ++ line_feed)))))

-- the numbers of a refusal; 0 is a return from the entry, and 31 and those above are endings
unfoldable pub refuses : ℕ → Bool
refuses n = within 1 30 n
