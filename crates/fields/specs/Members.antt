-- What fields and casts change, and what they ask of registers and tables.
use Rattle.std.specs.Prelude.{ℕ, ◌≤◌, ◌<◌, ◌≡◌, List, set, Option, Some, None}
use Rattle.model.specs.Answer.{Answer, ok}
use Rattle.loaded.specs.Holds.{field_cell}
use Rattle.state.specs.declared.Stay.{Stay}
use Rattle.state.specs.View.{Work}
use Rattle.state.specs.Meets.{Stays, Topped, Few}
use Rattle.state.specs.Work.{Tables, Went, waits, moved_to, starting_w}

-- the work with what such an instruction may change; the classes of objects are only read
abbrev pub on_member : Work → ℕ → ℕ → List ℕ → List ℕ → List ℕ → List ℕ → List ℕ → List ℕ → Work
on_member c o s cells kinds marks classes heap statics =
    record { regs = moved_to c.regs o s; cells = cells; kinds = kinds; statics = statics; marks = marks; classes = classes; heap = heap }

-- columns of a field's row that are used as indexes
pub record FieldRanges (fields : List ℕ) : Type 0 where
  pub owner_few : (r : ℕ) → field_cell fields r 0 ≤ 32
  pub cell_few : (r : ℕ) → field_cell fields r 1 ≡ 0 → field_cell fields r 3 < 8
  pub static_few : (r : ℕ) → field_cell fields r 3 < 64

-- what an instruction on the field row r asks of registers and tables
pub record Reaches (y : Stay) (sp at r : ℕ) (fields initialisers : List ℕ) : Type 0 where
  pub stays : Stays y
  pub topped : Topped y sp
  pub at_few : at ≤ 1024
  pub row_few : r ≤ 128
  pub ranges : FieldRanges fields
  pub initialiser_few : Few 128 initialisers

-- the tables that the lent arrays are
pub record LendsFields (P : Tables) (count : ℕ) (fields initialisers ancestors : List ℕ) : Type 0 where
  pub same_count : P.field_count ≡ count
  pub same_fields : P.fields ≡ fields
  pub same_initialisers : P.initialisers ≡ initialisers
  pub same_ancestors : P.ancestors ≡ ancestors

-- the initialiser comes first, or the class is marked
unfoldable pub first_or : Option ℕ → Answer ℕ Went → Answer ℕ Went
first_or None marked = marked
first_or (Some e) marked = ok (waits e)

-- what comes before the class k is used: its initialiser, or nothing, and the class is marked
pub record Starts (initialisers marks : List ℕ) (k : ℕ) (first : Option ℕ) : Type 0 where
  pub few : (e : ℕ) → first ≡ Some e → e ≤ 128
  pub says : (c : Work) (then : List ℕ → Answer ℕ Went) → c.marks ≡ marks → starting_w initialisers c k then ≡ first_or first (then (set marks k 1))
