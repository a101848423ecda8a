-- The state that is handed back, cell by cell, and the first work of a run.
use Rattle.std.specs.Prelude.{ℕ, zero, suc, ◌+◌, ◌-◌, ◌*◌, ◌/◌, ◌%◌, Bool, List, [], ◌∷◌, length, replicate, ◌==◌, nat_lt, slice_index, slice_index_or, slice_set}
use Rattle.std.proofs.Math.Option.{Option, none, some}
use Rattle.model.specs.Answer.{pick, at}
use Rattle.model.specs.Loading.{within}
use Rattle.model.specs.Operators.{flag}
use Rattle.model.specs.State.{Value, vint32, vint64, v_f, vnull, vobject, Object, Frame}
use Rattle.model.specs.State as Model
use Rattle.loaded.specs.Holds.{method_cell}
use Rattle.state.specs.declared.State.{State}
use Rattle.state.specs.View.{Regs, Work, span, depth_of, method_of}
use Rattle.state.specs.Work.{Tables, with_cells, copy_of, entered}

-- ---- How a state of the model lies in the arrays

-- the element of a list that has j behind it
unfoldable pub bottom : {A : Type 0} → List A → ℕ → Option A
bottom [] j = none
bottom (x ∷ l) j = pick (length l == j) (some x) (bottom l j)

-- a number of what is there, 0 where nothing is
unfoldable pub from : {A : Type 0} → (A → ℕ) → Option A → ℕ
from f none = 0
from f (some a) = f a

-- the low 32 bits of a cell as an int32 in 64 bits, with its sign
unfoldable pub signed32 : ℕ → ℕ
signed32 b = pick (nat_lt (b % 4294967296) 2147483648) (b % 4294967296) (b % 4294967296 + 18446744069414584320)

-- the cell of a value: an int32 has its sign
unfoldable pub cell_in : Value → ℕ
cell_in (vint32 n) = signed32 n
cell_in (vint64 n) = n
cell_in (v_f n) = n
cell_in vnull = 0
cell_in (vobject n) = n

unfoldable pub kind_in : Value → ℕ
kind_in (vint32 n) = 1
kind_in (vint64 n) = 2
kind_in (v_f n) = 3
kind_in vnull = 0
kind_in (vobject n) = 0

-- cell j of a frame's 64
unfoldable pub frame_cell : ℕ → Frame → ℕ
frame_cell j f =
    pick (nat_lt j 8) (from cell_in (at f.args j))
    (pick (nat_lt j 24) (from cell_in (at f.locals (j - 8)))
    (pick (nat_lt j 56) (from cell_in (bottom f.stack (j - 24)))
    (pick (j == 56) f.offset
    (pick (j == 57) (length f.stack)
    (pick (j == 58) f.method 0)))))

-- and its kind: only a stack cell has one
unfoldable pub frame_kind : ℕ → Frame → ℕ
frame_kind j f = pick (within 24 55 j) (from kind_in (bottom f.stack (j - 24))) 0

-- cell j of an object
unfoldable pub object_cell : ℕ → Object → ℕ
object_cell j o = from cell_in (at o.cells j)

-- the mark of a class row
unfoldable pub mark_at : List Bool → ℕ → ℕ
mark_at marks zero = 0
mark_at marks (suc i) = from flag (at marks i)

-- every cell that the model's state does not have is 0
unfoldable pub lay_out : Model.State → State
lay_out s =
    record {
      live = length s.frames;
      cells = span (λ i. from (frame_cell (i % 64)) (bottom s.frames (i / 64))) 0 2048;
      kinds = span (λ i. from (frame_kind (i % 64)) (bottom s.frames (i / 64))) 0 2048;
      statics = span (λ i. from cell_in (at s.statics i)) 0 64;
      marks = span (mark_at s.marks) 0 33;
      classes = span (λ r. from (λ (o : Object). o.class) (slice_index_or s.heap r none)) 0 256;
      heap = span (λ i. from (object_cell (i % 8)) (slice_index_or s.heap (i / 8) none)) 0 2048;
    }

-- the work that the arrays of a state are, at these registers
abbrev pub work_of : Regs → State → Work
work_of g s = record { regs = g; cells = s.cells; kinds = s.kinds; statics = s.statics; marks = s.marks; classes = s.classes; heap = s.heap }

-- no state: where nothing was run
unfoldable pub no_state : State
no_state =
    record {
      live = 0;
      cells = replicate 2048 0;
      kinds = replicate 2048 0;
      statics = replicate 64 0;
      marks = replicate 33 0;
      classes = replicate 256 0;
      heap = replicate 2048 0;
    }

-- ---- What the code does at the end

-- the running frame saved like a waiting one
unfoldable pub save : Work → Work
save c =
    with_cells c
    (slice_set (slice_set c.cells (c.regs.fp + 56) c.regs.at) (c.regs.fp + 57) (c.regs.sp - (c.regs.fp + 24)))
    c.kinds

-- a cell of a kind, an int32 with its sign
unfoldable pub tidy_bits : ℕ → ℕ → ℕ
tidy_bits k b = pick (k == 1) (signed32 b) b

-- a cell of the type of a byte: 0 where there is none
unfoldable pub tidy_byte : ℕ → ℕ → ℕ
tidy_byte t b = pick (t == 0) 0 (tidy_bits t b)

-- cell j of the live frame f
unfoldable pub tidy_cell : List ℕ → List ℕ → List ℕ → ℕ → ℕ → ℕ
tidy_cell methods cells kinds f j =
    pick (nat_lt j 24) (tidy_byte (method_cell methods (method_of cells f) j) (slice_index cells (f * 64 + j)))
    (pick (nat_lt j 56) (pick (nat_lt (j - 24) (depth_of cells f)) (tidy_bits (slice_index kinds (f * 64 + j)) (slice_index cells (f * 64 + j))) 0)
    (pick (nat_lt j 59) (slice_index cells (f * 64 + j)) 0))

unfoldable pub tidy_kind : List ℕ → List ℕ → ℕ → ℕ → ℕ
tidy_kind cells kinds f j = pick (within 24 55 j) (pick (nat_lt (j - 24) (depth_of cells f)) (slice_index kinds (f * 64 + j)) 0) 0

-- the arrays of frames with dead cells wiped and int32 cells signed
unfoldable pub tidy_cells : List ℕ → List ℕ → List ℕ → ℕ → List ℕ
tidy_cells methods cells kinds live = span (λ i. pick (nat_lt (i / 64) live) (tidy_cell methods cells kinds (i / 64) (i % 64)) 0) 0 2048

unfoldable pub tidy_kinds : List ℕ → List ℕ → ℕ → List ℕ
tidy_kinds cells kinds live = span (λ i. pick (nat_lt (i / 64) live) (tidy_kind cells kinds (i / 64) (i % 64)) 0) 0 2048

unfoldable pub tidy_statics : List ℕ → List ℕ → List ℕ
tidy_statics types statics = span (λ i. tidy_byte (slice_index types i) (slice_index statics i)) 0 64

unfoldable pub tidy_heap : List ℕ → List ℕ → List ℕ → List ℕ
tidy_heap types classes heap = span (λ i. tidy_byte (slice_index types (slice_index classes (i / 8) * 8 + i % 8)) (slice_index heap i)) 0 2048

-- the state of the work, `live` of its frames being live; the tables are the methods' rows and the types of objects' cells and of static ones
unfoldable pub tidy : List ℕ → List ℕ → List ℕ → Work → ℕ → State
tidy methods cellTypes static_types c live =
    record {
      live = live;
      cells = tidy_cells methods c.cells c.kinds live;
      kinds = tidy_kinds c.cells c.kinds live;
      statics = tidy_statics static_types c.statics;
      marks = c.marks;
      classes = c.classes;
      heap = tidy_heap cellTypes c.classes c.heap;
    }

-- ---- The beginning

-- the entry's frame with arguments in bits; Object and the entry's class are marked
unfoldable pub entry_w : Tables → ℕ → List ℕ → Work
entry_w P entry bits =
    record {
      regs = record { fp = 0; row = entry; at = 0; sp = 24; made = 0 };
      cells = slice_set (copy_of (method_cell P.methods entry 28) bits 0 0 (replicate 2048 0)) 58 entry;
      kinds = replicate 2048 0;
      statics = replicate 64 0;
      marks = slice_set (slice_set (replicate 33 0) 1 1) (method_cell P.methods entry 25) 1;
      classes = replicate 256 0;
      heap = replicate 2048 0;
    }

-- with the frame of its class's initialiser r, if any, above it
unfoldable pub started_w : Tables → Work → ℕ → Work
started_w P c r = pick (r == 0) c (entered P.methods c r 24)

unfoldable pub first_w : Tables → ℕ → List ℕ → Work
first_w P entry bits = started_w P (entry_w P entry bits) (slice_index P.initialisers (method_cell P.methods entry 25))
