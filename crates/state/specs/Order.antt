-- What the steps rely on: what loading ensures of a module, the tables made from it, and arrays that are in order.
use Rattle.std.specs.Prelude.{◌≡◌, ℕ, suc, ◌+◌, ◌*◌, ◌%◌, ◌<◌, ◌≤◌, ◌⊎◌, List, [], ◌∷◌, length, ◌==◌, ◌≢◌, slice_index}
use Rattle.std.proofs.Math.Option.{none, some}
use Rattle.model.specs.Answer.{pick, or_else, at, row, those}
use Rattle.model.specs.Tables.{Ty, int32, int64, F, null, class, static, virtual, constructor, initialiser, Field, Method, Module, method_at, arguments, due, parent_of, descends, is_static_field}
use Rattle.model.specs.Code.{Decoded, decode, plain, ldc}
use Rattle.model.specs.Step.{choose_up}
use Rattle.loaded.specs.Holds.{byte_at, method_cell, field_cell, part_offset, part_length}
use Rattle.loaded.specs.declared.Loaded.{Loaded}
use Rattle.state.specs.View.{Work, kind_of_byte, at_of, depth_of, method_of, types_of, static_types}
use Rattle.state.specs.Work.{Tables, in_set}

-- ---- What loading ensures

-- a type that a byte of the tables declares
unfoldable pub Named : Ty → Type 0
Named int32 = Unit
Named int64 = Unit
Named F = Unit
Named null = ⊥
Named (class c) = (0 < c) × (c ≤ 32)

unfoldable pub AllNamed : List Ty → Type 0
AllNamed [] = Unit
AllNamed (t ∷ ts) = Named t × AllNamed ts

-- a method and what it overrides
pub record Overrides (m o : Method) : Type 0 where
  pub sort_virtual : m.sort ≡ virtual
  pub same_sort : o.sort ≡ virtual
  pub same_params : m.params ≡ o.params
  pub same_returns : m.returns ≡ o.returns

pub record FineMethod (M : Module) (r : ℕ) (m : Method) : Type 0 where
  pub owned : (0 < m.owner) × (m.owner ≤ length M.parents)
  pub code_few : length m.code ≤ 1024
  pub stack_few : m.max_stack ≤ 32
  pub arguments_few : length (arguments m) ≤ 8
  pub locals_few : length m.locals ≤ 16
  pub params_named : AllNamed m.params
  pub locals_named : AllNamed m.locals
  pub due_named : AllNamed (due m)
  pub earlier : m.overridden < r
  pub overriding : (m.overridden ≢ 0) → Overrides m (method_at M.methods m.overridden)
  pub initialiser_bare : m.sort ≡ initialiser → (m.params ≡ []) × (m.returns ≡ none)
  pub constructor_void : m.sort ≡ constructor → m.returns ≡ none
  -- an int32 constant has 32 bits
  pub constants : (o n : ℕ) (d : Decoded) → decode m.code o ≡ some d → d.ins ≡ plain (ldc int32 n) → n < 4294967296

pub record FineField (M : Module) (d : Field) : Type 0 where
  pub owned : (0 < d.owner) × (d.owner ≤ length M.parents)
  pub named : Named d.type

pub record Fine (M : Module) : Type 0 where
  -- class 1 is there, and so is the entry
  pub object : 0 < length M.parents
  pub entry : row M.methods M.entry ≡ some (method_at M.methods M.entry)
  pub entry_static : (method_at M.methods M.entry).sort ≡ static
  pub classes_few : length M.parents ≤ 32
  pub fields_few : length M.fields ≤ 128
  pub methods_few : length M.methods ≤ 128
  -- the parent of a class is a smaller row
  pub falling : (c : ℕ) → 0 < c → parent_of M.parents c < c
  pub field : (r : ℕ) (d : Field) → row M.fields r ≡ some d → FineField M d
  pub statics_few : length (those is_static_field M.fields) ≤ 64
  pub cells_few : (c : ℕ) → length (types_of M c) ≤ 8
  pub method : (r : ℕ) (m : Method) → row M.methods r ≡ some m → FineMethod M r m

-- ---- The tables of the steps

-- the arrays of loading with what is made from them
unfoldable pub tables_of : Loaded → List ℕ → List ℕ → List ℕ → Tables
tables_of L variables ancestors chosen =
    record {
      class_count = L.counts.classes;
      field_count = L.counts.fields;
      method_count = L.counts.methods;
      methods = L.methods;
      fields = L.fields;
      parts = L.parts;
      initialisers = L.initialisers;
      variables = variables;
      ancestors = ancestors;
      chosen = chosen;
    }

-- the kind of a variable's type, 4 where there is no such variable
unfoldable pub kind_or_none : ℕ → ℕ
kind_or_none t = pick (t == 0) 4 (kind_of_byte t)

pub record HoldsVariables (n : ℕ) (methods variables : List ℕ) : Type 0 where
  pub kind_at_lem : (r i : ℕ) → 0 < r → r ≤ n → i < 24 → slice_index variables (r * 32 + i) ≡ kind_or_none (method_cell methods r i)

-- the set of a class has each class that it is or descends from, by its row and by the byte of its type
pub record HoldsAncestors (parents ancestors : List ℕ) : Type 0 where
  pub by_row : (c d : ℕ) → c ≤ 32 → 0 < d → d ≤ 32 → in_set (slice_index ancestors c) d ≡ descends parents c d
  pub by_type : (c d : ℕ) → c ≤ 32 → 0 < d → d ≤ 32 → in_set (slice_index ancestors c) ((32 + d) % 64) ≡ descends parents c d

pub record HoldsChosen (M : Module) (chosen : List ℕ) : Type 0 where
  pub row_at : (c q : ℕ) → 0 < c → c ≤ length M.parents → 0 < q → q ≤ length M.methods → slice_index chosen (c * 129 + q) ≡ or_else (choose_up M q c c) 0
  pub there : (i : ℕ) → slice_index chosen i ≤ length M.methods

pub record HoldsMade (M : Module) (L : Loaded) (variables ancestors chosen : List ℕ) : Type 0 where
  pub by_variable : HoldsVariables (length M.methods) L.methods variables
  pub by_class : HoldsAncestors M.parents ancestors
  pub by_root : HoldsChosen M chosen

-- the types of a class's cells at c * 8 and of the static cells, 0 where there is none
pub record HoldsTypes (M : Module) (cellTypes statics : List ℕ) : Type 0 where
  pub cell_type : (c i : ℕ) → c ≤ 32 → i < 8 → slice_index cellTypes (c * 8 + i) ≡ byte_at (at (types_of M c) i)
  pub static_type : (i : ℕ) → i < 64 → slice_index statics i ≡ byte_at (at (static_types M) i)

-- ---- Arrays in order

unfoldable pub due_of : Module → ℕ → ℕ
due_of M r = length (due (method_at M.methods r))

-- the frames: the running one is the frame `top`, a waiting one has room for the value to come
pub record GoodFrames (M : Module) (c : Work) : Type 0 where
  pub top : ℕ
  pub framed : c.regs.fp ≡ top * 64
  pub low : top < 32
  pub bottom : c.regs.fp + 24 ≤ c.regs.sp
  pub deep : c.regs.sp ≤ c.regs.fp + 56
  pub cells_long : length c.cells ≡ 2048
  pub kinds_long : length c.kinds ≡ 2048
  pub kindly : (i : ℕ) → slice_index c.kinds i ≤ 3
  pub running : method_of c.cells top ≡ c.regs.row
  pub room : (f : ℕ) → f < top → depth_of c.cells f + due_of M (method_of c.cells (suc f)) ≤ 32

-- marks are 0 or 1, and 0 where there is no class
pub record GoodMarks (M : Module) (marks : List ℕ) : Type 0 where
  pub marks_long : length marks ≡ 33
  pub marks_few : (i : ℕ) → slice_index marks i ≤ 1
  pub no_class : (i : ℕ) → (i ≡ 0) ⊎ (length M.parents < i) → slice_index marks i ≡ 0

-- the objects made have the lowest places; cells that no object has are 0
pub record GoodHeap (M : Module) (made : ℕ) (classes heap : List ℕ) : Type 0 where
  pub classes_long : length classes ≡ 256
  pub heap_long : length heap ≡ 2048
  pub few : made ≤ 256
  pub taken : (i : ℕ) → i < made → (0 < slice_index classes i) × (slice_index classes i ≤ length M.parents)
  pub unmade : (i : ℕ) → made ≤ i → slice_index classes i ≡ 0
  pub blank : (r i : ℕ) → i < 8 → length (types_of M (slice_index classes r)) ≤ i → slice_index heap (r * 8 + i) ≡ 0

pub record Good (M : Module) (c : Work) : Type 0 where
  pub frames : GoodFrames M c
  pub statics_long : length c.statics ≡ 64
  pub marks : GoodMarks M c.marks
  pub heap : GoodHeap M c.regs.made c.classes c.heap

-- ---- Registers and saved registers in range

-- every frame's saved registers: offsets stay near the code, heights within the stack, rows are there
pub record Saved (n : ℕ) (cells : List ℕ) : Type 0 where
  pub at_few : (f : ℕ) → f < 32 → at_of cells f ≤ 1024
  pub depth_few : (f : ℕ) → f < 32 → depth_of cells f ≤ 32
  pub row_few : (f : ℕ) → f < 32 → method_of cells f ≤ n

pub record Bounded (n : ℕ) (c : Work) : Type 0 where
  pub row_few : c.regs.row ≤ n
  pub at_few : c.regs.at ≤ 1033
  pub saved : Saved n c.cells

-- ---- The tables of the steps in range

pub record Ranges (code : List ℕ) (P : Tables) : Type 0 where
  pub classes_few : P.class_count ≤ 32
  pub fields_few : P.field_count ≤ 128
  pub methods_few : P.method_count ≤ 128
  pub initialiser_there : (c : ℕ) → slice_index P.initialisers c ≤ P.method_count
  -- by field row: 8 cells for an object, 64 static ones
  pub field_owner_few : (r : ℕ) → field_cell P.fields r 0 ≤ 32
  pub cell_few : (r : ℕ) → field_cell P.fields r 1 ≡ 0 → field_cell P.fields r 3 < 8
  pub static_few : (r : ℕ) → field_cell P.fields r 3 < 64
  -- by method row
  pub owner_few : (r : ℕ) → method_cell P.methods r 25 ≤ 32
  pub stack_few : (r : ℕ) → method_cell P.methods r 27 ≤ 32
  pub arguments_few : (r : ℕ) → method_cell P.methods r 28 ≤ 8
  pub locals_few : (r : ℕ) → method_cell P.methods r 29 ≤ 16
  pub root_few : (r : ℕ) → method_cell P.methods r 30 ≤ P.method_count
  pub chosen_there : (i : ℕ) → slice_index P.chosen i ≤ P.method_count
  pub length_few : (r : ℕ) → part_length P.parts r ≤ 1024
  pub part_inside : (r : ℕ) → 0 < part_length P.parts r → part_offset P.parts r + part_length P.parts r ≤ length code
