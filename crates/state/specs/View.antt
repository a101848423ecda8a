-- How a state of the model is seen in the arrays.
use Rattle.std.specs.Prelude.{ℕ, zero, suc, ◌+◌, ◌-◌, ◌*◌, ◌/◌, ◌%◌, Bool, not, List, [], ◌∷◌, length, ◌==◌, nat_lt, slice_index}
use Rattle.std.proofs.Math.Option.{Option, none, some}
use Rattle.model.specs.Answer.{pick, those}
use Rattle.model.specs.Tables.{Ty, Module, method_at, arguments, layout, field_types, is_static_field}
use Rattle.model.specs.Operators.{Kind, k32, k64, k_f, reference, kind, kind_number}
use Rattle.model.specs.State.{Value, vint32, vint64, v_f, vnull, vobject, Object, Heap, Frame, Machine}

-- f at n - 1, .., 0
unfoldable pub down : {A : Type 0} → (ℕ → A) → ℕ → List A
down f zero = []
down f (suc n) = f n ∷ down f n

-- f at i, .., i + n - 1
unfoldable pub span : {A : Type 0} → (ℕ → A) → ℕ → ℕ → List A
span f i zero = []
span f i (suc n) = f i ∷ span f (suc i) n

-- ---- A state at work

-- the registers of the running frame: its first cell, its method's row, the offset of its next instruction, one past its stack's top; and how many objects are made
pub record Regs : Type 0 where
  pub fp : ℕ
  pub row : ℕ
  pub at : ℕ
  pub sp : ℕ
  pub made : ℕ

-- registers and arrays
pub record Work : Type 0 where
  pub regs : Regs
  pub cells : List ℕ
  pub kinds : List ℕ
  pub statics : List ℕ
  pub marks : List ℕ
  pub classes : List ℕ
  pub heap : List ℕ

-- ---- Values

-- the kind of a number: 0 reference, 1 int32, 2 int64, 3 F
unfoldable pub kind_by : ℕ → Kind
kind_by zero = reference
kind_by (suc zero) = k32
kind_by (suc (suc zero)) = k64
kind_by (suc (suc (suc k))) = k_f

-- the number of the kind of a type
unfoldable pub kind_of_type : Ty → ℕ
kind_of_type t = kind_number (kind t)

-- and of a type's byte: a class is a reference
unfoldable pub kind_of_byte : ℕ → ℕ
kind_of_byte t = pick (nat_lt 3 t) 0 t

unfoldable pub refer_to : ℕ → Value
refer_to zero = vnull
refer_to (suc n) = vobject (suc n)

-- the value of a kind in 64 bits: of an int32 the low 32 count
unfoldable pub value_by : ℕ → ℕ → Value
value_by zero b = refer_to b
value_by (suc zero) b = vint32 (b % 4294967296)
value_by (suc (suc zero)) b = vint64 b
value_by (suc (suc (suc k))) b = v_f b

-- the bits of that value
unfoldable pub shown : ℕ → ℕ → ℕ
shown k b = pick (k == 1) (b % 4294967296) b

-- ---- Cells

-- cells from i on, of declared types
unfoldable pub seen : List Ty → List ℕ → ℕ → List Value
seen [] l i = []
seen (t ∷ ts) l i = value_by (kind_of_type t) (slice_index l i) ∷ seen ts l (suc i)

-- the value in a stack cell, counted from the stack's bottom
unfoldable pub cell : List ℕ → List ℕ → ℕ → ℕ → Value
cell kinds cells bottom j = value_by (slice_index kinds (bottom + j)) (slice_index cells (bottom + j))

-- ---- Frames of 64 cells: 8 arguments, 16 locals, 32 of the stack, then offset, height of the stack and method that it waits with

-- the frame whose first cell is p, of a method's row, at an offset, its stack d high
unfoldable pub frame_at : Module → Work → ℕ → ℕ → ℕ → ℕ → Frame
frame_at M c p r o d =
    record {
      method = r;
      offset = o;
      args = seen (arguments (method_at M.methods r)) c.cells p;
      locals = seen (method_at M.methods r).locals c.cells (p + 8);
      stack = down (cell c.kinds c.cells (p + 24)) d;
    }

-- what is saved of frame f
abbrev pub at_of : List ℕ → ℕ → ℕ
at_of cells f = slice_index cells (f * 64 + 56)

abbrev pub depth_of : List ℕ → ℕ → ℕ
depth_of cells f = slice_index cells (f * 64 + 57)

abbrev pub method_of : List ℕ → ℕ → ℕ
method_of cells f = slice_index cells (f * 64 + 58)

-- the index of the running frame, and the height of its stack
unfoldable pub top_of : Work → ℕ
top_of c = c.regs.fp / 64

unfoldable pub height_of : Work → ℕ
height_of c = c.regs.sp - (c.regs.fp + 24)

unfoldable pub running_of : Module → Work → Frame
running_of M c = frame_at M c c.regs.fp c.regs.row c.regs.at (height_of c)

-- a waiting frame
unfoldable pub waits_of : Module → Work → ℕ → Frame
waits_of M c f = frame_at M c (f * 64) (method_of c.cells f) (at_of c.cells f) (depth_of c.cells f)

-- ---- Objects, marks

-- the types of a class's cells
unfoldable pub types_of : Module → ℕ → List Ty
types_of M c = field_types (layout M.parents M.fields c)

unfoldable pub static_types : Module → List Ty
static_types M = field_types (those is_static_field M.fields)

-- the place r of the heap: free where it has no class
unfoldable pub place_in : Module → List ℕ → List ℕ → ℕ → Option Object
place_in M classes heap r =
    pick (slice_index classes r == 0)
    none
    (some (record { class = slice_index classes r; cells = seen (types_of M (slice_index classes r)) heap (r * 8) }))

unfoldable pub heap_of : Module → Work → Heap
heap_of M c = span (place_in M c.classes c.heap) 0 256

unfoldable pub mark_in : List ℕ → ℕ → Bool
mark_in marks i = not (slice_index marks (suc i) == 0)

unfoldable pub marks_of : Module → List ℕ → List Bool
marks_of M marks = span (mark_in marks) 0 (length M.parents)

unfoldable pub view : Module → Work → Machine
view M c =
    record {
      top = running_of M c;
      below = down (waits_of M c) (top_of c);
      statics = seen (static_types M) c.statics 0;
      marks = marks_of M c.marks;
      heap = heap_of M c;
    }
