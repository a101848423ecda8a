-- What the functions for a host write to the cells that it lends.
use Rattle.std.specs.Prelude.{Bool, ◌&&◌, List, [], ◌∷◌, ◌++◌, ℕ, ◌+◌, ◌-◌, ◌*◌, ◌/◌, ◌%◌, ltb, leb, length, get_or, drop, Option, None, Some, Result, Ok, Err}
use Rattle.model.specs.Answer.{Answer, bad, ok, pick}
use Rattle.model.specs.Loading.{Refusal}
use Rattle.model.specs.Run as Run
use Rattle.loaded.specs.declared.Fault.{Fault}
use Rattle.state.specs.View.{span}
use Rattle.state.specs.declared.State.{State}
use Rattle.checker.specs.declared.tell.Found.{Found}
use Rattle.line.specs.declared.line.Value.{Value}
use Rattle.line.specs.declared.line.Value.TheVariants.{Int32, Int64, Real, Null, Object}
use Rattle.line.specs.declared.line.Value.TheVariants as Values
use Rattle.runner.specs.Answers.{told, refused_by}
use Rattle.runner.specs.declared.Ended.{Ended}

-- ---- Cells that are lent

-- whether a host lends so many cells
unfoldable pub lends : ℕ → List ℕ → Bool
lends n cells = leb n (length cells)

-- enough for a fault
abbrev pub enough_to_check : List ℕ → Bool
enough_to_check fault = lends 3 fault

-- for an answer and a state
abbrev pub enough_to_run : List ℕ → List ℕ → Bool
enough_to_run answer state = lends 6 answer && lends 5314 state

-- for a fault and a shape
abbrev pub enough_to_tell : List ℕ → List ℕ → Bool
enough_to_tell fault shape = lends 3 fault && lends 34 shape

-- 0 with enough cells, else 1
unfoldable pub status : Bool → ℕ
status enough = pick enough 0 1

-- the first cells are the answer's, the others as before
unfoldable pub over : List ℕ → List ℕ → List ℕ
over answer cells = answer ++ drop (length answer) cells

-- with too few cells every one is as before
unfoldable pub written : Bool → List ℕ → List ℕ → List ℕ
written enough answer cells = pick enough (over answer cells) cells

-- ---- A fault, and the answer of a run

-- number, method row, offset
unfoldable pub fault_cells : Fault → List ℕ
fault_cells f = f.number ∷ f.method ∷ f.offset ∷ []

-- a value's sort: 0 none, 1 int32, 2 int64, 3 F
unfoldable pub sort_of : Value → ℕ
sort_of Values.None = 0
sort_of (Int32 b) = 1
sort_of (Int64 b) = 2
sort_of (Real b) = 3
sort_of Null = 0
sort_of (Object b) = 0

unfoldable pub bits_of : Value → ℕ
bits_of Values.None = 0
bits_of (Int32 b) = b
bits_of (Int64 b) = b
bits_of (Real b) = b
bits_of Null = 0
bits_of (Object b) = 0

-- ending, method row, offset, steps, the value's sort and bits
unfoldable pub told_cells : Fault → ℕ → Value → List ℕ
told_cells end steps value = fault_cells end ++ (steps ∷ sort_of value ∷ bits_of value ∷ [])

unfoldable pub answer_cells : Ended → List ℕ
answer_cells e = told_cells e.end e.steps e.value

-- a refusal, or how the run ended
unfoldable pub ended_by : Answer Refusal Run.Ended → Ended
ended_by (bad f) = refused_by f
ended_by (ok e) = told e

-- ---- A state

-- the place among the frames' cells, 64 to a frame, of cell i of a part that begins at a column of each frame and is so many cells wide
unfoldable pub place_of : ℕ → ℕ → ℕ → ℕ
place_of column width i = i / width * 64 + column + i % width

-- that of cell i of a state: stacks, arguments, locals, offsets, heights, methods
unfoldable pub frame_place : ℕ → ℕ
frame_place i =
    pick (ltb i 2049) (place_of 24 32 (i - 1025))
    (pick (ltb i 2305) (place_of 0 8 (i - 2049))
    (pick (ltb i 2817) (place_of 8 16 (i - 2305))
    (pick (ltb i 2849) (place_of 56 1 (i - 2817))
    (pick (ltb i 2881) (place_of 57 1 (i - 2849)) (place_of 58 1 (i - 2881))))))

-- cell i: how many frames are live, the kinds of the stacks, the rest of the frames, statics, marks, the objects' classes, their cells
unfoldable pub state_cell : State → ℕ → ℕ
state_cell s i =
    pick (ltb i 1) s.live
    (pick (ltb i 1025) (get_or s.kinds (place_of 24 32 (i - 1)) 0)
    (pick (ltb i 2913) (get_or s.cells (frame_place i) 0)
    (pick (ltb i 2977) (get_or s.statics (i - 2913) 0)
    (pick (ltb i 3010) (get_or s.marks (i - 2977) 0)
    (pick (ltb i 3266) (get_or s.classes (i - 3010) 0) (get_or s.heap (i - 3266) 0))))))

unfoldable pub state_cells : State → List ℕ
state_cells s = span (state_cell s) 0 5314

-- ---- A shape

-- the shape found in an answer: none behind a fault
unfoldable pub found_in : Result (Option Found) Fault → Option Found
found_in (Ok shape) = shape
found_in (Err f) = None

-- cell i: whether an instruction starts there, the depth, the types as bytes; all 0 where none starts
unfoldable pub shape_cell : Option Found → ℕ → ℕ
shape_cell None i = 0
shape_cell (Some f) i = pick (ltb i 1) 1 (pick (ltb i 2) f.depth (get_or f.types (i - 2) 0))

unfoldable pub shape_cells : Option Found → List ℕ
shape_cells s = span (shape_cell s) 0 34
