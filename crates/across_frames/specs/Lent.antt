-- The work that the lent arrays are parts of, the tables that they are, and the ranges that the steps keep.
use Rattle.std.specs.Prelude.{ℕ, ◌+◌, ◌*◌, ◌≤◌, ◌<◌, ◌≡◌, Bool, not, List, get_or, eqb, Result, Ok, Err, Option, None, Some}
use Rattle.model.specs.Answer.{Answer, bad, ok, ◌>>=◌, guard, pick}
use Rattle.loaded.specs.Holds.{method_cell}
use Rattle.state.specs.declared.Stay.{Stay}
use Rattle.state.specs.declared.Moved.{Moved}
use Rattle.across_frames.specs.declared.calls.Way.{Way}
use Rattle.across_frames.specs.declared.calls.Way.TheVariants.{Call, Callvirt}
use Rattle.across_frames.specs.declared.change.Change.{Change}
use Rattle.across_frames.specs.declared.change.Change.TheVariants.{Moves, Over, Waits}
use Rattle.state.specs.declared.ending.Ending.{Ending}
use Rattle.state.specs.Steps.{number}
use Rattle.across_frames.specs.declared.registers.Registers.{Registers}
use Rattle.across_frames.specs.declared.tables.Tables.{Tables as Lists}
use Rattle.state.specs.View.{Regs, Work}
use Rattle.state.specs.Meets.{Stays, Topped, Few}
use Rattle.state.specs.Work.{Tables, Went, waits, place_of, call_row, chosen_row, callvirt_row, newobj_row, call_sort, callvirt_sort, newobj_sort}

-- ---- Registers and arrays in place

-- the registers of a stay
abbrev pub regs_at : Stay → ℕ → ℕ → ℕ → ℕ → Regs
regs_at y row at sp made = record { fp = y.fp; row = row; at = at; sp = sp; made = made }

-- what a step that leaves its frame touches; static fields and the cells of objects are left alone
abbrev pub on_leave : Work → Regs → List ℕ → List ℕ → List ℕ → List ℕ → Work
on_leave c g cells kinds marks classes = record { regs = g; cells = cells; kinds = kinds; statics = c.statics; marks = marks; classes = classes; heap = c.heap }

-- a step that ends in its frame, or waits
abbrev pub stays_at : ℕ → Stay → ℕ → ℕ → ℕ → ℕ → Moved
stays_at how y at sp made row = record { how = how; at = at; sp = sp; fp = y.fp; row = row; made = made }

abbrev pub stays_in : Registers → ℕ → ℕ → Moved
stays_in g how row = stays_at how g.stay g.at g.sp g.made row

-- the registers of a stay, and the work with them
abbrev pub regs_in : Registers → Regs
regs_in g = regs_at g.stay g.row g.at g.sp g.made

-- the run goes on
abbrev pub going : Moved → Moved
going m = record { how = 0; at = m.at; sp = m.sp; fp = m.fp; row = m.row; made = m.made }

-- the registers after a step: 1 is a return from the entry, 2 lets an initialiser come first, and a step that is refused ends in its frame
abbrev pub moved : Registers → Result Change Ending → Moved
moved g (Ok (Moves m)) = going m
moved g (Ok Over) = stays_in g 1 g.row
moved g (Ok (Waits first)) = stays_in g 2 first
moved g (Err e) = stays_in g (number e) g.row

-- what comes where nothing is refused
abbrev pub unless : {A B : Type 0} → Result A Ending → (A → Answer ℕ B) → Answer ℕ B
unless (Ok a) then = then a
unless (Err e) then = bad (number e)

-- and where no initialiser comes first
abbrev pub unless_due : Option ℕ → Answer ℕ Went → Answer ℕ Went
unless_due None then = then
unless_due (Some first) then = ok (waits first)

-- one that goes on in the caller
abbrev pub back_to : ℕ → ℕ → ℕ → ℕ → ℕ → Moved
back_to fp row at sp made = record { how = 0; at = at; sp = sp; fp = fp; row = row; made = made }

-- the tables that the lent arrays are
pub record Lends (P : Tables) (count : ℕ) (methods initialisers ancestors chosen : List ℕ) : Type 0 where
  pub same_count : P.method_count ≡ count
  pub same_methods : P.methods ≡ methods
  pub same_initialisers : P.initialisers ≡ initialisers
  pub same_ancestors : P.ancestors ≡ ancestors
  pub same_chosen : P.chosen ≡ chosen

-- the opcode of the number of a step that changes the frame
unfoldable pub opcode_of : ℕ → ℕ
opcode_of next = pick (eqb next 3) 0x2A (pick (eqb next 6) 0x73 (pick (eqb next 5) 0x6F 0x28))

-- ---- call and callvirt by one function, callvirt by an object

unfoldable pub named_sort : Way → ℕ → Bool
named_sort Callvirt = callvirt_sort
named_sort Call = call_sort

unfoldable pub named_row : Way → List ℕ → List ℕ → List ℕ → List ℕ → Stay → Work → ℕ → Answer ℕ Went
named_row Callvirt methods initialisers ancestors chosen y c r = callvirt_row methods initialisers ancestors chosen y c r
named_row Call methods initialisers ancestors chosen y c r = call_row methods initialisers ancestors y c r

-- the instruction, where r is a row that is there
unfoldable pub named_w : Way → List ℕ → List ℕ → List ℕ → List ℕ → Stay → Work → ℕ → Answer ℕ Went
named_w by methods initialisers ancestors chosen y c r =
    guard (named_sort by (method_cell methods r 24)) 42 >>= λ _.
    named_row by methods initialisers ancestors chosen y c r

unfoldable pub newobj_w : List ℕ → List ℕ → List ℕ → Stay → Work → ℕ → Answer ℕ Went
newobj_w methods initialisers ancestors y c r =
    guard (newobj_sort (method_cell methods r 24)) 42 >>= λ _.
    newobj_row methods initialisers ancestors y c r

-- the row that is taken where r is named: callvirt needs an object
unfoldable pub taken_by : Way → List ℕ → List ℕ → List ℕ → ℕ → ℕ → (ℕ → Answer ℕ Went) → Answer ℕ Went
taken_by Callvirt methods chosen classes object r then =
    guard (not (eqb object 0)) 34 >>= λ _.
    then (chosen_row methods chosen r (get_or classes (place_of object) 0))
taken_by Call methods chosen classes object r then = then r

-- ---- Ranges

-- the tables that are lent together
abbrev pub LendsAll : Tables → Lists → Type 0
LendsAll P T = Lends P T.count T.methods.now T.initialisers.now T.ancestors.now T.chosen.now

-- what a frame is pushed by
pub record RowRanges (methods : List ℕ) : Type 0 where
  pub owner_few : (r : ℕ) → method_cell methods r 25 ≤ 32
  pub arguments_few : (r : ℕ) → method_cell methods r 28 ≤ 8
  pub locals_few : (r : ℕ) → method_cell methods r 29 ≤ 16

-- what callvirt chooses a method by
pub record ChoiceRanges (methods chosen : List ℕ) : Type 0 where
  pub root_few : (r : ℕ) → method_cell methods r 30 ≤ 128
  pub chosen_few : Few 128 chosen

-- what a call takes its method by
pub record CallRanges (count : ℕ) (methods initialisers chosen : List ℕ) : Type 0 where
  pub rows : RowRanges methods
  pub count_few : count ≤ 128
  pub root_few : (r : ℕ) → method_cell methods r 30 ≤ 128
  pub initialiser_few : Few 128 initialisers
  pub chosen_few : Few 128 chosen

-- the first cell of one of the 32 frames
pub record Framed (fp : ℕ) : Type 0 where
  pub top : ℕ
  pub low : top < 32
  pub framed : fp ≡ top * 64

-- the registers of a stay in range, `row` its method's
pub record InFrame (y : Stay) (sp row : ℕ) : Type 0 where
  pub stays : Stays y
  pub topped : Topped y sp
  pub frame : Framed y.fp
  pub row_few : row ≤ 128

abbrev pub Standing : Registers → Type 0
Standing g = InFrame g.stay g.sp g.row

abbrev pub InRange : Lists → Type 0
InRange T = CallRanges T.count T.methods.now T.initialisers.now T.chosen.now

-- the registers after a step that may leave its frame
pub record Landed (r : Moved) : Type 0 where
  pub frame : Framed r.fp
  pub row : r.row ≤ 128
  pub bottom : r.fp + 24 ≤ r.sp
