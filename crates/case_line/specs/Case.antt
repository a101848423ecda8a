-- A case of `replay` as bytes, and its answer line: the format of vectors/README.md.
use Rattle.std.specs.Prelude.{ℕ, zero, suc, ◌*◌, ◌≡◌, List, [], ◌∷◌, ◌++◌, length, take, drop, leb, eqb}
use Rattle.std.proofs.Math.Option.{Option, none, some}
use Rattle.model.specs.Answer.{only_if}
use Rattle.model.specs.Loading.{little}
use Rattle.model.specs.Replay.{replay}

pub record Case : Type 0 where
  pub tables : List ℕ
  pub code : List ℕ
  pub arguments : List ℕ
  pub budget : ℕ

-- n numbers of eight bytes each
unfoldable pub words : ℕ → List ℕ → List ℕ
words zero l = []
words (suc n) l = little 8 l ∷ words n (drop 8 l)

-- what is made of the bytes after the first n, where there are so many
unfoldable pub beyond : ℕ → List ℕ → (List ℕ → Option Case) → Option Case
beyond n l f = only_if (leb n (length l)) (f (drop n l))

-- two bytes of length and the tables, two bytes of length and the code, a byte with the number of arguments, eight bytes for each, four bytes of budget.
-- There is a case exactly where the bytes end with its last part: none where a part is cut off, and none where bytes are left over.
unfoldable pub case_of : List ℕ → Option Case
case_of l =
    beyond 2 l λ tables.
    beyond (little 2 l) tables λ second.
    beyond 2 second λ code.
    beyond (little 2 second) code λ third.
    beyond 1 third λ arguments.
    beyond (8 * little 1 third) arguments λ budget.
    beyond 4 budget λ rest.
    only_if (eqb (length rest) 0)
    (some (record {
      tables = take (little 2 l) tables;
      code = take (little 2 second) code;
      arguments = words (little 1 third) arguments;
      budget = little 4 budget;
    }))

-- bytes that are a case
pub record Whole (l : List ℕ) : Type 0 where
  pub case_is : Case
  pub is : case_of l ≡ some case_is

unfoldable pub line_feed : List ℕ
line_feed = 10 ∷ []

-- the answer and a line feed, and nothing where there is no case
unfoldable pub answer_to : Option Case → List ℕ
answer_to none = []
answer_to (some c) = replay c.tables c.code c.arguments c.budget ++ line_feed

unfoldable pub line_of : List ℕ → List ℕ
line_of l = answer_to (case_of l)
