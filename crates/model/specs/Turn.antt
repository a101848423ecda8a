-- The program `turn`: what it prints for a whole input.
use Rattle.std.specs.Prelude.{ℕ, zero, suc, ◌+◌, ◌/◌, ◌%◌, List, [], ◌∷◌, ◌++◌, length, take, drop, leb, ltb, ℤ, pos, negsuc}
use Rattle.std.proofs.Math.Option.{Option, none, some}
use Rattle.std.specs.Int.{w32, w64}
use Rattle.std.proofs.Common.{to_z}
use Rattle.model.specs.Answer.{Answer, bad, ok, ◌>>=◌, ◌>>◌, guard, blame, pick}
use Rattle.model.specs.Tables.{most_tables, most_code}
use Rattle.model.specs.Loading.{refusal, little, load}
use Rattle.model.specs.State.{Value, vint32, vint64, v_f, vnull, vobject}
use Rattle.model.specs.Run.{Ended, run_module}
use Rattle.model.specs.Check.{Fault, fault_in, check_module}

-- ---- Numbers as text, in ASCII

-- the decimal digits of n before a text, `most` of them at most
unfoldable pub digits : ℕ → ℕ → List ℕ → List ℕ
digits zero n l = l
digits (suc most) n l = pick (ltb n 10) ((48 + n) ∷ l) (digits most (n / 10) ((48 + n % 10) ∷ l))

unfoldable pub decimal : ℕ → List ℕ
decimal n = digits 20 n []

unfoldable pub signed : ℤ → List ℕ
signed (pos n) = decimal n
signed (negsuc n) = 45 ∷ decimal (suc n)

unfoldable pub hex_digit : ℕ → ℕ
hex_digit n = pick (ltb n 10) (48 + n) (55 + n)

-- the lowest n hexadecimal digits, upper-case
unfoldable pub hex : ℕ → ℕ → List ℕ → List ℕ
hex zero n l = l
hex (suc k) n l = hex k (n / 16) (hex_digit (n % 16) ∷ l)

unfoldable pub dash : List ℕ
dash = 45 ∷ []

-- a value: decimal, F as 16 upper-case hex digits; no class is returned by an entry
unfoldable pub text_of : Option Value → List ℕ
text_of none = dash
text_of (some (vint32 n)) = signed (to_z w32 n)
text_of (some (vint64 n)) = signed (to_z w64 n)
text_of (some (v_f n)) = hex 16 n []
text_of (some vnull) = dash
text_of (some (vobject n)) = dash

-- ---- The line

-- ending, method, offset, steps and value; what an answer lacks is 0, a value `-`
pub record Line : Type 0 where
  pub ending : ℕ
  pub method : ℕ
  pub offset : ℕ
  pub steps : ℕ
  pub value : Option Value

unfoldable pub fault_line : Fault → Line
fault_line f = record { ending = f.number; method = f.method; offset = f.offset; steps = 0; value = none }

unfoldable pub ended_line : Ended → Line
ended_line e = record { ending = e.ending; method = e.method; offset = e.offset; steps = e.steps; value = e.value }

unfoldable pub line_of : Answer Fault Ended → Line
line_of (bad f) = fault_line f
line_of (ok e) = ended_line e

unfoldable pub space : List ℕ
space = 32 ∷ []

-- one line, ended by a line feed
unfoldable pub print : Line → List ℕ
print l =
    decimal l.ending ++ (space ++ (decimal l.method ++ (space ++ (decimal l.offset ++ (space ++ (decimal l.steps
    ++ (space ++ (text_of l.value ++ (10 ∷ [])))))))))

-- ---- A whole input: two bytes of table length, tables, code

abbrev pub turn_budget : ℕ
turn_budget = 100000

-- loads, checks, runs without arguments
unfoldable pub play : List ℕ → List ℕ → Answer Fault Ended
play tables code = do
  M ← blame (fault_in 0) (load tables code)
  check_module M
  blame (fault_in 0) (run_module M [] turn_budget)

-- 9 under two bytes, 1 for an announced length above 8,192, 9 for input shorter than announced, 1 for more than 32,768 code bytes
unfoldable pub answer : List ℕ → Answer Fault Ended
answer input = do
  guard (leb 2 (length input)) (fault_in 0 (refusal 9 0))
  guard (leb (little 2 input) most_tables) (fault_in 0 (refusal 1 0))
  guard (leb (2 + little 2 input) (length input)) (fault_in 0 (refusal 9 0))
  guard (leb (length (drop (2 + little 2 input) input)) most_code) (fault_in 0 (refusal 1 0))
  play (take (little 2 input) (drop 2 input)) (drop (2 + little 2 input) input)

unfoldable pub turn : List ℕ → List ℕ
turn input = print (line_of (answer input))
