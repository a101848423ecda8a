-- What is read from the arrays of a State and of its module, and its text. A reading where there is no cell gives 0.
use Rattle.std.specs.Prelude.{ℕ, zero, suc, ◌+◌, ◌*◌, ◌≡◌, Bool, true, false, List, [], ◌∷◌, ◌++◌, get_or, ltb, eqb}
use Rattle.std.proofs.Math.Option.{Option, none, some}
use Rattle.model.specs.Answer.{pick}
use Rattle.model.specs.Tables.{Module}
use Rattle.model.specs.State.{Value, Frame, Object, Heap}
use Rattle.model.specs.State as Model
use Rattle.model.specs.Turn.{decimal}
use Rattle.model.specs.Replay.{cell_text, commas, frames_text, heap_text, word_frames, word_statics, word_marks, word_heap, state_text}
use Rattle.loaded.specs.Holds.{Holds}
use Rattle.loaded.specs.declared.Loaded.{Loaded}
use Rattle.state.specs.declared.State.{State}
use Rattle.state.specs.View.{down, span, kind_of_byte, value_by}
use Rattle.state.specs.Order.{Fine, HoldsTypes}
use Rattle.state.specs.Layout.{lay_out}
use Rattle.line.specs.Append.{appended, Appended}
use Rattle.line.specs.declared.text.Text.{Text}
use Rattle.state_text.specs.Keeps.{Keeps}

-- ---- Cells

-- number i of n
unfoldable pub one_of : ℕ → List ℕ → ℕ → ℕ
one_of n l i = pick (ltb i n) (get_or l i 0) 0

-- cell i of block r, of n blocks of w cells
unfoldable pub cell_of : ℕ → ℕ → List ℕ → ℕ → ℕ → ℕ
cell_of n w l r i = pick (ltb r n) (pick (ltb i w) (get_or l (r * w + i) 0) 0) 0

-- number i of the k that block r has from its cell a on
unfoldable pub part_of : ℕ → ℕ → ℕ → ℕ → List ℕ → ℕ → ℕ → ℕ
part_of n w a k l r i = pick (ltb i k) (cell_of n w l r (i + a)) 0

-- the value of a kind or of a type's byte
unfoldable pub value_in : ℕ → ℕ → Value
value_in k b = value_by (kind_of_byte k) b

-- a comma before every one but the first
unfoldable pub comma : Bool → List ℕ
comma true = []
comma false = 44 ∷ []

-- the texts of the rows below n, of which some have none
unfoldable pub up_to : (ℕ → List (List ℕ)) → ℕ → List (List ℕ)
up_to f zero = []
up_to f (suc n) = up_to f n ++ f n

-- ---- Frames

-- the types of locals follow those of 8 arguments, and so do the cells
unfoldable pub local_type : List ℕ → ℕ → ℕ → ℕ
local_type methods r i = part_of 129 32 8 16 methods r i

unfoldable pub argument_in : List ℕ → ℕ → List ℕ → ℕ → ℕ → Value
argument_in methods r cells f i = value_in (cell_of 129 32 methods r i) (cell_of 32 64 cells f i)

unfoldable pub local_in : List ℕ → ℕ → List ℕ → ℕ → ℕ → Value
local_in methods r cells f i = value_in (local_type methods r i) (part_of 32 64 8 16 cells f i)

unfoldable pub stack_in : List ℕ → List ℕ → ℕ → ℕ → Value
stack_in kinds cells f i = value_in (part_of 32 64 24 32 kinds f i) (part_of 32 64 24 32 cells f i)

unfoldable pub arguments_in : List ℕ → ℕ → List ℕ → ℕ → List Value
arguments_in methods r cells f = span (argument_in methods r cells f) 0 (cell_of 129 32 methods r 28)

unfoldable pub locals_in : List ℕ → ℕ → List ℕ → ℕ → List Value
locals_in methods r cells f = span (local_in methods r cells f) 0 (cell_of 129 32 methods r 29)

-- the frame f, of a method's row
unfoldable pub frame_in : List ℕ → List ℕ → List ℕ → ℕ → ℕ → Frame
frame_in methods cells kinds f r =
    record {
      method = r;
      offset = cell_of 32 64 cells f 56;
      args = arguments_in methods r cells f;
      locals = locals_in methods r cells f;
      stack = down (stack_in kinds cells f) (cell_of 32 64 cells f 57);
    }

unfoldable pub one_frame : List ℕ → List ℕ → List ℕ → ℕ → Frame
one_frame methods cells kinds f = frame_in methods cells kinds f (cell_of 32 64 cells f 58)

unfoldable pub frames_in : List ℕ → ℕ → List ℕ → List ℕ → List Frame
frames_in methods live cells kinds = down (one_frame methods cells kinds) live

-- ---- Static fields, marks, objects

-- ROW:CELL where the flag is 1
unfoldable pub static_text : ℕ → ℕ → ℕ → ℕ → List (List ℕ)
static_text flag r k b = pick (eqb flag 1) ((decimal r ++ (58 ∷ cell_text (value_in k b))) ∷ []) []

unfoldable pub static_at : List ℕ → List ℕ → ℕ → List (List ℕ)
static_at fields bits r = static_text (cell_of 129 4 fields r 1) r (cell_of 129 4 fields r 2) (one_of 64 bits (cell_of 129 4 fields r 3))

unfoldable pub mark_text : ℕ → ℕ → List (List ℕ)
mark_text flag r = pick (eqb flag 1) (decimal r ∷ []) []

unfoldable pub mark_row : List ℕ → ℕ → List (List ℕ)
mark_row started r = mark_text (one_of 33 started r) r

unfoldable pub field_in : List ℕ → ℕ → List ℕ → ℕ → ℕ → Value
field_in types k heap r i = value_in (cell_of 33 8 types k i) (cell_of 256 8 heap r i)

-- one more where there is a type
unfoldable pub counted : ℕ → ℕ → ℕ
counted n t = pick (eqb t 0) n (suc n)

-- how many of the first n cells of a class have a type
unfoldable pub size_of : List ℕ → ℕ → ℕ → ℕ
size_of types k zero = 0
size_of types k (suc n) = counted (size_of types k n) (cell_of 33 8 types k n)

-- the place r, where an object of class k is or none, for class 0
unfoldable pub place_of : List ℕ → List ℕ → ℕ → ℕ → Option Object
place_of types heap r k = pick (eqb k 0) none (some (record { class = k; cells = span (field_in types k heap r) 0 (size_of types k 8) }))

unfoldable pub place_in : List ℕ → List ℕ → List ℕ → ℕ → Option Object
place_in classes types heap r = place_of types heap r (one_of 256 classes r)

unfoldable pub heap_in : List ℕ → List ℕ → List ℕ → Heap
heap_in classes types heap = span (place_in classes types heap) 0 256

-- ---- The whole

unfoldable pub whole_text : List ℕ → List ℕ → List ℕ → State → List ℕ
whole_text methods fields types s =
    word_frames ++ (frames_text (frames_in methods s.live s.cells s.kinds) []
    ++ (word_statics ++ (commas (up_to (static_at fields s.statics) 129)
    ++ (word_marks ++ (commas (up_to (mark_row s.marks) 33)
    ++ (word_heap ++ heap_text (heap_in s.classes types s.heap)))))))

-- A state's text after another, over the arrays and, where they are the layout of a state that keeps to a module, with that module's tables, as the model's
-- text of that state.
pub record Says (methods fields types : List ℕ) (s : State) (before after : Text) : Type 0 where
  pub same_buffer : after.out.ghost_name ≡ before.out.ghost_name
  pub text : after ≡ appended before (whole_text methods fields types s)
  pub model : (M : Module) (code : List ℕ) (L : Loaded) (statics : List ℕ) (e : Model.State) → Holds M code L → L.methods ≡ methods → L.fields ≡ fields
      → Fine M → HoldsTypes M types statics → Keeps M e → s ≡ lay_out e → after ≡ appended before (state_text M e)

-- What is appended: for all arrays the text of what is read from them, and where they are the layout of a state that keeps to a module, with that module's
-- tables, the model's text of that state.
pub record Told (methods fields types : List ℕ) (s : State) (before : List ℕ) (at : ℕ) (after : List ℕ) (at' : ℕ) : Type 0 where
  pub text : Appended before at (whole_text methods fields types s) after at'
  pub model : (M : Module) (code : List ℕ) (L : Loaded) (statics : List ℕ) (e : Model.State) → Holds M code L → L.methods ≡ methods → L.fields ≡ fields
      → Fine M → HoldsTypes M types statics → Keeps M e → s ≡ lay_out e → Appended before at (state_text M e) after at'
