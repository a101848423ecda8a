-- What the arrays of a loaded module hold: each cell the model's value, 0 where there is none.
use Rattle.std.specs.Prelude.{ℕ, ◌+◌, ◌*◌, ◌<◌, ◌≡◌, List, length, get_or, replicate}
use Rattle.std.proofs.Math.Option.{Option, none, some}
use Rattle.model.specs.Answer.{or_else, at, row, those}
use Rattle.model.specs.Tables.{Ty, byte_of, sort_byte, Field, Method, Module, part_of, method_at, arguments, parent_of, is_static_field, slot, root, initialiser_of}
use Rattle.model.specs.Operators.{flag}
use Rattle.loaded.specs.declared.Counts.{Counts}
use Rattle.loaded.specs.declared.Loaded.{Loaded}

-- the byte of a type that may be missing: 0
unfoldable pub byte_at : Option Ty → ℕ
byte_at none = 0
byte_at (some t) = byte_of t

-- a number of what is there, 0 where nothing is
unfoldable pub from_row : {A : Type 0} → (A → ℕ) → Option A → ℕ
from_row f none = 0
from_row f (some a) = f a

-- ---- Cells of a row

-- of the method row r, what stands at a column; the type of its variable i, the locals after 8 arguments, stands at column i
abbrev pub method_cell : List ℕ → ℕ → ℕ → ℕ
method_cell methods r k = get_or methods (r * 32 + k) 0

abbrev pub field_cell : List ℕ → ℕ → ℕ → ℕ
field_cell fields r k = get_or fields (r * 4 + k) 0

abbrev pub part_offset : List ℕ → ℕ → ℕ
part_offset parts r = get_or parts (r * 2) 0

abbrev pub part_length : List ℕ → ℕ → ℕ
part_length parts r = get_or parts (r * 2 + 1) 0

-- ---- What they hold

-- by class row
pub record HoldsClasses (parents : List ℕ) (methods : List Method) (L : Loaded) : Type 0 where
  pub parent : (c : ℕ) → get_or L.parents c 0 ≡ parent_of parents c
  pub initialiser : (c : ℕ) → get_or L.initialisers c 0 ≡ or_else (initialiser_of methods c) 0

-- by field row
pub record HoldsFields (parents : List ℕ) (fields : List Field) (L : Loaded) : Type 0 where
  pub owner : (r : ℕ) → field_cell L.fields r 0 ≡ from_row (λ (d : Field). d.owner) (row fields r)
  pub static : (r : ℕ) → field_cell L.fields r 1 ≡ from_row (λ (d : Field). flag d.is_static) (row fields r)
  pub type : (r : ℕ) → field_cell L.fields r 2 ≡ from_row (λ (d : Field). byte_of d.type) (row fields r)
  pub slot_at : (r : ℕ) → field_cell L.fields r 3 ≡ from_row (slot parents fields r) (row fields r)

-- by method row
pub record HoldsMethods (methods : List Method) (code : List ℕ) (L : Loaded) : Type 0 where
  pub argument_type : (r i : ℕ) → i < 8 → method_cell L.methods r i ≡ byte_at (at (arguments (method_at methods r)) i)
  pub local_type_lem : (r i : ℕ) → i < 16 → method_cell L.methods r (8 + i) ≡ byte_at (at (method_at methods r).locals i)
  pub sort : (r : ℕ) → method_cell L.methods r 24 ≡ sort_byte (method_at methods r).sort
  pub owner : (r : ℕ) → method_cell L.methods r 25 ≡ (method_at methods r).owner
  pub returns : (r : ℕ) → method_cell L.methods r 26 ≡ byte_at (method_at methods r).returns
  pub stack : (r : ℕ) → method_cell L.methods r 27 ≡ (method_at methods r).max_stack
  pub argument_count : (r : ℕ) → method_cell L.methods r 28 ≡ length (arguments (method_at methods r))
  pub local_count_lem : (r : ℕ) → method_cell L.methods r 29 ≡ length (method_at methods r).locals
  pub root_at_lem : (r : ℕ) → method_cell L.methods r 30 ≡ from_row (λ (m : Method). root methods r) (row methods r)
  pub overridden : (r : ℕ) → method_cell L.methods r 31 ≡ (method_at methods r).overridden
  pub offset : (r : ℕ) → part_offset L.parts r ≡ (method_at methods r).offset
  pub size : (r : ℕ) → part_length L.parts r ≡ length (method_at methods r).code
  pub part : (r : ℕ) → (method_at methods r).code ≡ part_of code (part_offset L.parts r) (part_length L.parts r)

-- how long the arrays are
pub record HoldsLengths (L : Loaded) : Type 0 where
  pub parents : length L.parents ≡ 33
  pub initialisers : length L.initialisers ≡ 33
  pub fields : length L.fields ≡ 516
  pub methods : length L.methods ≡ 4128
  pub parts : length L.parts ≡ 258

-- the arrays are a module's
pub record Holds (M : Module) (code : List ℕ) (L : Loaded) : Type 0 where
  pub class_count : L.counts.classes ≡ length M.parents
  pub field_count : L.counts.fields ≡ length M.fields
  pub static_count : L.counts.statics ≡ length (those is_static_field M.fields)
  pub method_count : L.counts.methods ≡ length M.methods
  pub entry_row : L.counts.entry ≡ M.entry
  pub lengths : HoldsLengths L
  pub by_class : HoldsClasses M.parents M.methods L
  pub by_field : HoldsFields M.parents M.fields L
  pub by_method : HoldsMethods M.methods code L

-- ---- Nothing loaded

abbrev pub zeros : ℕ → List ℕ
zeros n = replicate n 0

unfoldable pub no_counts : Counts
no_counts = record { classes = 0; fields = 0; statics = 0; methods = 0; entry = 0 }

-- a module in which all is 0
unfoldable pub nothing : Loaded
nothing = record { counts = no_counts; parents = zeros 33; initialisers = zeros 33; fields = zeros 516; methods = zeros 4128; parts = zeros 258 }
