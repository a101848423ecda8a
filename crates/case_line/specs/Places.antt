-- Where the parts of a case lie, by the three lengths in it. A byte that is missing counts 0, so there are places for all bytes.
use Rattle.std.specs.Prelude.{ℕ, ◌+◌, ◌*◌, ◌≤◌, ◌≡◌, List, drop}
use Rattle.model.specs.Loading.{little}
use Rattle.case_line.specs.declared.reading.Places.{Places}

-- the lengths of tables and code, and the number of arguments
unfoldable pub places_by : ℕ → ℕ → ℕ → Places
places_by t s n =
    record {
      tables = t;
      code = 2 + t + 2;
      size = s;
      arguments = 2 + t + 2 + s + 1;
      count = n;
      budget = 2 + t + 2 + s + 1 + 8 * n;
      end = 2 + t + 2 + s + 1 + 8 * n + 4;
    }

-- the length of the code after tables of t bytes, and the number of arguments after code of s bytes
unfoldable pub size_after : List ℕ → ℕ → ℕ
size_after l t = little 2 (drop (2 + t) l)

unfoldable pub count_after : List ℕ → ℕ → ℕ → ℕ
count_after l t s = little 1 (drop (2 + t + 2 + s) l)

unfoldable pub places_of : List ℕ → Places
places_of l =
    places_by (little 2 l) (size_after l (little 2 l)) (count_after l (little 2 l) (size_after l (little 2 l)))

-- how long a case is by its first bytes
unfoldable pub announced_by : List ℕ → ℕ
announced_by l = (places_of l).end

-- the places, with as many arguments as a byte can say
pub record Found (l : List ℕ) (p : Places) : Type 0 where
  pub exact : p ≡ places_of l
  pub few : p.count ≤ 255
