-- What the arrays hold while loading goes on: each cell the model's value, 0 where there is none.
use Rattle.std.specs.Prelude.{ℕ, ◌+◌, ◌-◌, ◌*◌, ◌≤◌, ◌<◌, ◌≡◌, List, [], ◌∷◌, length, get_or, set, ltb, eqb, None, Result, Ok, Err, ⊤}
use Rattle.std.proofs.Math.Option.{some}
use Rattle.model.specs.Answer.{Answer, bad, ok, pick, or_else, is_none, at, row, those, last_of}
use Rattle.model.specs.Tables.{byte_of, virtual, sort_byte, Field, Method, part_of, method_at, arguments}
use Rattle.model.specs.Tables.{is_own, is_static_field, slot, root, initialiser_of}
use Rattle.model.specs.Loading.{Loading, Read, no_field}
use Rattle.model.specs.Operators.{flag}
use Rattle.loaded.specs.Holds.{byte_at, from_row, zeros}
use Rattle.ancestor.specs.Parents.{Falls}
use Rattle.loaded.specs.declared.Counts.{Counts}
use Rattle.loaded.specs.declared.Loaded.{Loaded}
use Rattle.loader.specs.declared.notes.Notes.{Notes}
use Rattle.loader.specs.declared.refusal.Refusal.{Refusal}
use Rattle.loader.specs.Refusals.{number_of}
use Rattle.loader.specs.Kinds.{last_byte}
use Rattle.loader.specs.Goes.{Goes}
use Rattle.loader.specs.declared.method.Body.{Body}

-- ---- Arrays

-- an array that has at each row what stands there in a list, 0 where nothing does
pub record Column (size : ℕ) (rows : List ℕ) (a : List ℕ) : Type 0 where
  pub long : length a ≡ size
  pub each : (r : ℕ) → get_or a r 0 ≡ or_else (row rows r) 0

-- an array of rows of so many cells, that has at each row and column what f says
pub record Grid (width size : ℕ) (f : ℕ → ℕ → ℕ) (a : List ℕ) : Type 0 where
  pub long : length a ≡ size
  pub each : (r k : ℕ) → k < width → get_or a (r * width + k) 0 ≡ f r k

-- a value for a column
pub record Cell : Type 0 where
  pub column : ℕ
  pub value : ℕ

abbrev pub put : ℕ → ℕ → Cell
put k v = record { column = k; value = v }

-- the array after one store for each of these, in their order, in one row
unfoldable pub stored : ℕ → ℕ → List ℕ → List Cell → List ℕ
stored width r a [] = a
stored width r a (c ∷ cs) = stored width r (set a (r * width + c.column) c.value) cs

-- ---- Classes

pub record ClassRows (ps parents : List ℕ) : Type 0 where
  pub parent : Column 33 ps parents
  pub falls : Falls ps
  pub few : length ps ≤ 32

-- ---- Fields

-- what stands at a column of a field's row
unfoldable pub field_column : ℕ → Field → ℕ → ℕ
field_column s d k = pick (eqb k 0) d.owner (pick (eqb k 1) (flag d.is_static) (pick (eqb k 2) (byte_of d.type) s))

unfoldable pub field_at : List ℕ → List Field → ℕ → ℕ → ℕ
field_at ps fs r k = from_row (λ (d : Field). field_column (slot ps fs r d) d k) (row fs r)

-- a field's row
abbrev pub field_cells : ℕ → ℕ → ℕ → ℕ → List Cell
field_cells o flag t s = put 0 o ∷ put 1 flag ∷ put 2 t ∷ put 3 s ∷ []

-- by field row; `own` has how many instance fields are a class's own
pub record FieldRows (ps : List ℕ) (fs : List Field) (own fields : List ℕ) : Type 0 where
  pub own_long : length own ≡ 33
  pub own_each : (c : ℕ) → get_or own c 0 ≡ length (those (is_own c) fs)
  pub cell : Grid 4 516 (field_at ps fs) fields
  pub rising : (r : ℕ) (d : Field) → row fs r ≡ some d → (1 ≤ d.owner) × (d.owner ≤ (last_of no_field fs).owner)
  pub few : length fs ≤ 128

-- ---- Methods

-- what stands at a column of a method's row: the types of 8 arguments with `this` and of 16 locals, then 8 columns, its root q among them
unfoldable pub method_column : ℕ → Method → ℕ → ℕ
method_column q m k =
    pick (ltb k 8) (byte_at (at (arguments m) k))
    (pick (ltb k 24) (byte_at (at m.locals (k - 8)))
    (pick (eqb k 24) (sort_byte m.sort)
    (pick (eqb k 25) m.owner
    (pick (eqb k 26) (byte_at m.returns)
    (pick (eqb k 27) m.max_stack
    (pick (eqb k 28) (length (arguments m))
    (pick (eqb k 29) (length m.locals)
    (pick (eqb k 30) q m.overridden))))))))

unfoldable pub root_at : List Method → ℕ → ℕ
root_at ms r = from_row (λ (m : Method). root ms r) (row ms r)

unfoldable pub method_cell : List Method → ℕ → ℕ → ℕ
method_cell ms r k = method_column (root_at ms r) (method_at ms r) k

unfoldable pub part_cell : List Method → ℕ → ℕ → ℕ
part_cell ms r k = pick (eqb k 0) (method_at ms r).offset (length (method_at ms r).code)

abbrev pub MethodCells : List Method → List ℕ → Type 0
MethodCells ms methods = Grid 32 4128 (method_cell ms) methods

-- a method's row, from its record, the type byte of `this` and its root
unfoldable pub method_cells : Body → ℕ → ℕ → ℕ → List Cell
method_cells b count this q =
    put 24 b.sort ∷ put 25 b.owner ∷ put 26 b.returns ∷ put 27 b.stack ∷ put 28 count ∷ put 30 q ∷ put 31 b.overridden ∷ put 0 this ∷ []

-- its part of the code
abbrev pub part_cells : ℕ → ℕ → List Cell
part_cells offset size = put 0 offset ∷ put 1 size ∷ []

-- the initialisers' array after a method of that sort, owner and row
unfoldable pub marked : List ℕ → ℕ → ℕ → ℕ → List ℕ
marked a sort o r = pick (eqb sort 4) (set a o r) a

-- the type byte of `this` by the sort's byte and the owner, 0 where there is no `this`; and how many it is
unfoldable pub this_byte : ℕ → ℕ → ℕ
this_byte sort o = pick (eqb sort 0) 0 (pick (eqb sort 4) 0 (32 + o))

unfoldable pub one_if : ℕ → ℕ
one_if b = pick (eqb b 0) 0 1

-- the root of the method at a row that overrides v, from the rows so far
unfoldable pub root_in : List ℕ → ℕ → ℕ → ℕ
root_in methods r v = pick (eqb v 0) r (get_or methods (v * 32 + 30) 0)

pub record InitialiserRows (ms : List Method) (a : List ℕ) : Type 0 where
  pub long : length a ≡ 33
  pub each : (c : ℕ) → get_or a c 0 ≡ or_else (initialiser_of ms c) 0

-- what is known of the methods themselves: each overrides an earlier one, virtual as it is, its code is a part of the
-- lent code, it has at most 8 arguments, and 0 stands for no return type alone
pub record Sound (code : List ℕ) (ms : List Method) : Type 0 where
  pub earlier : (r : ℕ) → 0 < r → (method_at ms r).overridden < r
  pub dispatched : (r : ℕ) → 0 < (method_at ms r).overridden → ((method_at ms r).sort ≡ virtual) × ((method_at ms (method_at ms r).overridden).sort ≡ virtual)
  pub part : (r : ℕ) → (method_at ms r).code ≡ part_of code (method_at ms r).offset (length (method_at ms r).code)
  pub narrow : (r : ℕ) → length (arguments (method_at ms r)) ≤ 8
  pub void : (r : ℕ) → is_none (method_at ms r).returns ≡ eqb (byte_at (method_at ms r).returns) 0

pub record MethodRows (code : List ℕ) (ms : List Method) (initialisers methods parts : List ℕ) : Type 0 where
  pub initialiser : InitialiserRows ms initialisers
  pub cell : MethodCells ms methods
  pub part : Grid 2 258 (part_cell ms) parts
  pub sound : Sound code ms
  pub few : length ms ≤ 128

-- ---- All of it

unfoldable pub counts_of : Loading → Counts
counts_of L = record {
  classes = length L.parents;
  fields = length L.fields;
  statics = length (those is_static_field L.fields);
  methods = length L.methods;
  entry = L.entry;
}

pub record Stands (code : List ℕ) (L : Loading) (N : Loaded) (S : Notes) : Type 0 where
  pub counted : N.counts ≡ counts_of L
  pub last : last_byte S.last ≡ L.last
  pub classes : ClassRows L.parents N.parents
  pub fields : FieldRows L.parents L.fields S.own N.fields
  pub methods : MethodRows code L.methods N.initialisers N.methods N.parts
  pub place : Column 129 L.places S.places
  pub placed : length L.places ≡ length L.methods
  -- classes come before any field, and a parameter or local after some method
  pub fieldless : L.last ≤ 1 → L.fields ≡ []
  pub begun : 3 ≤ L.last → L.last ≤ 5 → 0 < length L.methods

-- before the first record
unfoldable pub no_notes : Notes
no_notes = record { last = None; own = zeros 33; places = zeros 129 }

-- a record's end: refused with the model's number, or taken, with a module and notes that hold what the model has then
abbrev pub Leads : List ℕ → Answer ℕ Loading → Result ⊤ Refusal → Loaded → Notes → Type 0
Leads code m r N S = Goes m r (λ K. Stands code K N S)

-- the same of a record at an offset, where what comes back is the offset behind it
unfoldable pub Passes : List ℕ → Answer ℕ Read → ℕ → Result ℕ Refusal → Loaded → Notes → Type 0
Passes code (bad n) at (Err e) N S = (number_of e ≡ n) × (2 ≤ n) × (n ≤ 6)
Passes code (bad n) at (Ok i) N S = ⊥
Passes code (ok R) at (Err e) N S = ⊥
Passes code (ok R) at (Ok i) N S = (i ≡ at + R.size) × Stands code R.loading N S

-- how far the counts go, which keeps every index within its array
pub record Fine (g : Counts) : Type 0 where
  pub classes : g.classes ≤ 32
  pub fields : g.fields ≤ 128
  pub statics : g.statics ≤ 128
  pub methods : g.methods ≤ 128

-- no value of an array passes 128; nor does any row overridden
unfoldable pub Small : List ℕ → Type 0
Small a = (k : ℕ) → get_or a k 0 ≤ 128

unfoldable pub Earlier : List ℕ → Type 0
Earlier methods = (r : ℕ) → get_or methods (r * 32 + 31) 0 ≤ 128
