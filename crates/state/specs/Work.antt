-- A step on the arrays: the tests in the written order, and what it does to registers and arrays.
use Rattle.std.specs.Prelude.{ℕ, zero, suc, ◌+◌, ◌-◌, ◌*◌, ◌/◌, ◌%◌, ◌^◌, Bool, true, false, not, ◌&&◌, ◌||◌, List, [], length, set, ◌==◌, nat_le, nat_lt, slice_index, slice_set}
use Rattle.std.proofs.Math.Option.{Option, none, some}
use Rattle.model.specs.Answer.{Answer, bad, ok, ◌>>=◌, guard, need, pick}
use Rattle.model.specs.Tables.{Module, part_of}
use Rattle.model.specs.Loading.{within}
use Rattle.model.specs.Code.{Plain, nop, pop, dup, ret, ldc, binary, unary, Binary, Unary, Relation, Jump, always, iftrue, iffalse, when, Ins, plain, ldarg, starg, ldloc, stloc, jump, call, callvirt, newobj, castclass, isinst, ldfld, stfld, ldsfld, stsfld, decode}
use Rattle.model.specs.Operators.{binary_of, unary_of, comparison}
use Rattle.model.specs.State.{Value, value, bits_in, state_of, frames_gone}
use Rattle.model.specs.Run.{Ended}
use Rattle.model.specs.State as Model
use Rattle.loaded.specs.Holds.{method_cell, field_cell, part_offset, part_length}
use Rattle.state.specs.declared.Stay.{Stay}
use Rattle.state.specs.View.{Regs, Work, kind_by, kind_of_type, kind_of_byte, shown, cell, view}

-- the tables that the steps read: counts of rows, the arrays of loading, and what is made from them once
pub record Tables : Type 0 where
  pub class_count : ℕ
  pub field_count : ℕ
  pub method_count : ℕ
  pub methods : List ℕ
  pub fields : List ℕ
  pub parts : List ℕ
  pub initialisers : List ℕ
  -- 32 for each method row: the kind of variable i at column i, 4 where there is none
  pub variables : List ℕ
  -- for each class a set of rows and type bytes
  pub ancestors : List ℕ
  -- the row that callvirt takes for class c and root q at c * 129 + q
  pub chosen : List ℕ

-- a step goes on, the run is over with the value, or an initialiser, by its row, comes first
pub data Went : Type 0 where
  runs : Work → Went
  over : Option Value → Went
  waits : ℕ → Went

-- ---- Work with one part changed

abbrev pub with_regs : Work → Regs → Work
with_regs c g = record { regs = g; cells = c.cells; kinds = c.kinds; statics = c.statics; marks = c.marks; classes = c.classes; heap = c.heap }

-- the running frame at an offset, its stack up to s
abbrev pub moved_to : Regs → ℕ → ℕ → Regs
moved_to g o s = record { fp = g.fp; row = g.row; at = o; sp = s; made = g.made }

abbrev pub with_cells : Work → List ℕ → List ℕ → Work
with_cells c l k = record { regs = c.regs; cells = l; kinds = k; statics = c.statics; marks = c.marks; classes = c.classes; heap = c.heap }

abbrev pub with_statics : Work → List ℕ → Work
with_statics c l = record { regs = c.regs; cells = c.cells; kinds = c.kinds; statics = l; marks = c.marks; classes = c.classes; heap = c.heap }

abbrev pub with_marks : Work → List ℕ → Work
with_marks c l = record { regs = c.regs; cells = c.cells; kinds = c.kinds; statics = c.statics; marks = l; classes = c.classes; heap = c.heap }

abbrev pub with_heap : Work → List ℕ → List ℕ → Work
with_heap c k h = record { regs = c.regs; cells = c.cells; kinds = c.kinds; statics = c.statics; marks = c.marks; classes = k; heap = h }

-- ---- The stack of the running frame, by index

abbrev pub sp_of : Work → ℕ
sp_of c = c.regs.sp

abbrev pub kind_at : Work → ℕ → ℕ
kind_at c i = slice_index c.kinds i

abbrev pub bits_at : Work → ℕ → ℕ
bits_at c i = slice_index c.cells i

-- the bits of the value at an index
abbrev pub shown_at : Work → ℕ → ℕ
shown_at c i = shown (kind_at c i) (bits_at c i)

-- at an offset, its stack up to s
unfoldable pub goto : Work → ℕ → ℕ → Work
goto c o s = with_regs c (moved_to c.regs o s)

-- at an offset, the kind k and the bits b stored at s, and the stack up to s + 1
unfoldable pub put : Work → ℕ → ℕ → ℕ → ℕ → Work
put c o s k b = with_cells (goto c o (s + 1)) (slice_set c.cells s b) (slice_set c.kinds s k)

-- a push where the method's max stack has room
unfoldable pub push_w : Stay → Work → ℕ → ℕ → ℕ → Answer ℕ Went
push_w y c k b next = guard (nat_lt (sp_of c) y.limit) 44 >>= λ _. ok (runs (put c next (sp_of c) k b))

-- n values are there
unfoldable pub few : Stay → Work → ℕ → Bool
few y c n = nat_le (y.floor + n) (sp_of c)

-- ---- Types of cells

-- the class of the object with a number, 0 where there is none
abbrev pub class_of : List ℕ → ℕ → ℕ
class_of classes n = slice_index classes (n - 1)

-- the place of an object's number, which is at most 256
abbrev pub place_of : ℕ → ℕ
place_of n = (n - 1) % 256

-- whether a set has a number
unfoldable pub in_set : ℕ → ℕ → Bool
in_set s i = (s / 2 ^ i) % 2 == 1

-- whether a reference is null or of a class whose set has t: a class row, or the byte of a type
unfoldable pub refers_w : List ℕ → List ℕ → ℕ → ℕ → Bool
refers_w ancestors classes b t = pick (nat_lt 256 b) false (b == 0 || in_set (slice_index ancestors (class_of classes b)) (t % 64))

-- whether bits of a kind fit the type of a byte
unfoldable pub fits_w : List ℕ → List ℕ → ℕ → ℕ → ℕ → Bool
fits_w ancestors classes k b t = pick (k == t) true (pick (nat_le t 3) false (k == 0 && refers_w ancestors classes b t))

-- whether n cells from index s on fit the types of a method row from its variable i on
unfoldable pub fit_all_w : List ℕ → List ℕ → Work → ℕ → ℕ → ℕ → ℕ → Bool
fit_all_w methods ancestors c r zero i s = true
fit_all_w methods ancestors c r (suc n) i s =
    fits_w ancestors c.classes (kind_at c s) (bits_at c s) (method_cell methods r i) && fit_all_w methods ancestors c r n (suc i) (suc s)

-- ---- Operators and branches

unfoldable pub binary_w : Stay → Work → Binary → ℕ → Answer ℕ Went
binary_w y c o next =
    guard (few y c 2) 43 >>= λ _.
    need (binary_of o (kind_by (kind_at c (sp_of c - 2))) (kind_by (kind_at c (sp_of c - 1)))) 45 >>= λ g.
    g.bits_of (shown_at c (sp_of c - 2)) (shown_at c (sp_of c - 1)) >>= λ n.
    ok (runs (put c next (sp_of c - 2) (kind_of_type g.gives) n))

unfoldable pub unary_w : Stay → Work → Unary → ℕ → Answer ℕ Went
unary_w y c o next =
    guard (few y c 1) 43 >>= λ _.
    need (unary_of o (kind_by (kind_at c (sp_of c - 1)))) 45 >>= λ g.
    ok (runs (put c next (sp_of c - 1) (kind_of_type g.gives) (g.bits_of (shown_at c (sp_of c - 1)))))

unfoldable pub test_w : Stay → Work → ℕ → ℕ → Answer ℕ Went
test_w y c on_zero onOther =
    guard (few y c 1) 43 >>= λ _.
    guard (nat_lt (kind_at c (sp_of c - 1)) 3) 45 >>= λ _.
    ok (runs (goto c (pick (shown_at c (sp_of c - 1) == 0) on_zero onOther) (sp_of c - 1)))

unfoldable pub when_w : Stay → Work → Relation → ℕ → ℕ → Answer ℕ Went
when_w y c r target next =
    guard (few y c 2) 43 >>= λ _.
    need (comparison r (kind_by (kind_at c (sp_of c - 2))) (kind_by (kind_at c (sp_of c - 1)))) 45 >>= λ holds.
    ok (runs (goto c (pick (holds (shown_at c (sp_of c - 2)) (shown_at c (sp_of c - 1))) target next) (sp_of c - 2)))

unfoldable pub jump_w : Stay → Work → Jump → ℕ → ℕ → Answer ℕ Went
jump_w y c always target next = ok (runs (goto c target (sp_of c)))
jump_w y c iftrue target next = test_w y c next target
jump_w y c iffalse target next = test_w y c target next
jump_w y c (when r) target next = when_w y c r target next

-- a target outside the method's code, which is n bytes long, is an operand fault
unfoldable pub branch_w : ℕ → Stay → Work → Jump → Option ℕ → ℕ → Answer ℕ Went
branch_w n y c j target next =
    need target 42 >>= λ o.
    guard (nat_lt o n) 42 >>= λ _.
    jump_w y c j o next

-- ---- Loads and stores

unfoldable pub pop_w : Stay → Work → ℕ → Answer ℕ Went
pop_w y c next = guard (few y c 1) 43 >>= λ _. ok (runs (goto c next (sp_of c - 1)))

unfoldable pub dup_w : Stay → Work → ℕ → Answer ℕ Went
dup_w y c next = guard (few y c 1) 43 >>= λ _. push_w y c (kind_at c (sp_of c - 1)) (bits_at c (sp_of c - 1)) next

-- variable i of the frame: 8 arguments, then 16 locals
unfoldable pub load_w : List ℕ → Stay → Work → ℕ → ℕ → Answer ℕ Went
load_w variables y c i next =
    guard (nat_le (slice_index variables (y.mp + i)) 3) 42 >>= λ _.
    push_w y c (slice_index variables (y.mp + i)) (bits_at c (y.fp + i)) next

unfoldable pub store_w : List ℕ → List ℕ → Stay → Work → ℕ → ℕ → Answer ℕ Went
store_w methods ancestors y c i next =
    guard (not (slice_index methods (y.mp + i) == 0)) 42 >>= λ _.
    guard (few y c 1) 43 >>= λ _.
    guard (fits_w ancestors c.classes (kind_at c (sp_of c - 1)) (bits_at c (sp_of c - 1)) (slice_index methods (y.mp + i))) 45 >>= λ _.
    ok (runs (with_cells (goto c next (sp_of c - 1)) (slice_set c.cells (y.fp + i) (bits_at c (sp_of c - 1))) c.kinds))

unfoldable pub ldarg_w : List ℕ → Stay → Work → ℕ → ℕ → Answer ℕ Went
ldarg_w variables y c i next = guard (nat_lt i 8) 42 >>= λ _. load_w variables y c i next

unfoldable pub ldloc_w : List ℕ → Stay → Work → ℕ → ℕ → Answer ℕ Went
ldloc_w variables y c i next = guard (nat_lt i 16) 42 >>= λ _. load_w variables y c (8 + i) next

unfoldable pub starg_w : List ℕ → List ℕ → Stay → Work → ℕ → ℕ → Answer ℕ Went
starg_w methods ancestors y c i next = guard (nat_lt i 8) 42 >>= λ _. store_w methods ancestors y c i next

unfoldable pub stloc_w : List ℕ → List ℕ → Stay → Work → ℕ → ℕ → Answer ℕ Went
stloc_w methods ancestors y c i next = guard (nat_lt i 16) 42 >>= λ _. store_w methods ancestors y c (8 + i) next

-- ---- Tokens

-- whether a token has a kind and a row that is there
unfoldable pub is_token : ℕ → ℕ → ℕ → Bool
is_token kind count t = t / 0x1000000 == kind && within 1 count (t % 0x1000000)

abbrev pub row_of_token : ℕ → ℕ
row_of_token t = t % 0x1000000

-- ---- Casts

-- on a miss isinst gives null and castclass ends 35
unfoldable pub cast_w : ℕ → List ℕ → Stay → Work → ℕ → Answer ℕ ℕ → ℕ → Answer ℕ Went
cast_w count ancestors y c t miss next =
    guard (is_token 2 count t) 42 >>= λ _.
    guard (few y c 1) 43 >>= λ _.
    guard (kind_at c (sp_of c - 1) == 0) 45 >>= λ _.
    pick (refers_w ancestors c.classes (bits_at c (sp_of c - 1)) (row_of_token t)) (ok (bits_at c (sp_of c - 1))) miss >>= λ b.
    ok (runs (with_cells (goto c next (sp_of c)) (slice_set c.cells (sp_of c - 1) b) c.kinds))

-- ---- The start of a class

-- the instruction is told the marks; a class that is not marked and has an initialiser starts first
unfoldable pub starting_w : List ℕ → Work → ℕ → (List ℕ → Answer ℕ Went) → Answer ℕ Went
starting_w initialisers c k then =
    pick (slice_index c.marks k == 0 && not (slice_index initialisers k == 0)) (ok (waits (slice_index initialisers k))) (then (slice_set c.marks k 1))

-- ---- Fields: r is a field row

-- the heap's cell of a field of the object with a number
abbrev pub heap_cell : List ℕ → ℕ → ℕ → ℕ
heap_cell fields n r = place_of n * 8 + field_cell fields r 3

unfoldable pub ldfld_row : List ℕ → List ℕ → List ℕ → Stay → Work → ℕ → ℕ → Answer ℕ Went
ldfld_row fields initialisers ancestors y c r next =
    guard (few y c 1) 43 >>= λ _.
    guard (kind_at c (sp_of c - 1) == 0 && refers_w ancestors c.classes (bits_at c (sp_of c - 1)) (field_cell fields r 0)) 45 >>= λ _.
    starting_w initialisers c (field_cell fields r 0) λ marks.
    guard (not (bits_at c (sp_of c - 1) == 0)) 34 >>= λ _.
    ok (runs (with_marks (put c next (sp_of c - 1) (kind_of_byte (field_cell fields r 2)) (slice_index c.heap (heap_cell fields (bits_at c (sp_of c - 1)) r))) marks))

unfoldable pub stfld_row : List ℕ → List ℕ → List ℕ → Stay → Work → ℕ → ℕ → Answer ℕ Went
stfld_row fields initialisers ancestors y c r next =
    guard (few y c 2) 43 >>= λ _.
    guard (kind_at c (sp_of c - 2) == 0 && refers_w ancestors c.classes (bits_at c (sp_of c - 2)) (field_cell fields r 0)) 45 >>= λ _.
    guard (fits_w ancestors c.classes (kind_at c (sp_of c - 1)) (bits_at c (sp_of c - 1)) (field_cell fields r 2)) 45 >>= λ _.
    starting_w initialisers c (field_cell fields r 0) λ marks.
    guard (not (bits_at c (sp_of c - 2) == 0)) 34 >>= λ _.
    ok (runs (with_marks (with_heap (goto c next (sp_of c - 2)) c.classes (slice_set c.heap (heap_cell fields (bits_at c (sp_of c - 2)) r) (bits_at c (sp_of c - 1)))) marks))

unfoldable pub ldsfld_row : List ℕ → List ℕ → Stay → Work → ℕ → ℕ → Answer ℕ Went
ldsfld_row fields initialisers y c r next =
    guard (nat_lt (sp_of c) y.limit) 44 >>= λ _.
    starting_w initialisers c (field_cell fields r 0) λ marks.
    ok (runs (with_marks (put c next (sp_of c) (kind_of_byte (field_cell fields r 2)) (slice_index c.statics (field_cell fields r 3))) marks))

unfoldable pub stsfld_row : List ℕ → List ℕ → List ℕ → Stay → Work → ℕ → ℕ → Answer ℕ Went
stsfld_row fields initialisers ancestors y c r next =
    guard (few y c 1) 43 >>= λ _.
    guard (fits_w ancestors c.classes (kind_at c (sp_of c - 1)) (bits_at c (sp_of c - 1)) (field_cell fields r 2)) 45 >>= λ _.
    starting_w initialisers c (field_cell fields r 0) λ marks.
    ok (runs (with_marks (with_statics (goto c next (sp_of c - 1)) (slice_set c.statics (field_cell fields r 3) (bits_at c (sp_of c - 1)))) marks))

-- a field's token, of an instance field or a static one
unfoldable pub is_field : ℕ → List ℕ → ℕ → ℕ → Bool
is_field count fields flag t = is_token 4 count t && field_cell fields (row_of_token t) 1 == flag

-- ---- Frames

-- k cells of src from a place on, laid in dst from a place on
unfoldable pub copy_of : ℕ → List ℕ → ℕ → ℕ → List ℕ → List ℕ
copy_of zero src from to dst = dst
copy_of (suc k) src from to dst = copy_of k src (suc from) (suc to) (slice_set dst to (slice_index src from))

-- k cells cleared
abbrev pub clear : ℕ → ℕ → List ℕ → List ℕ
clear k to dst = copy_of k [] 0 to dst

-- n cells are copied and cleared by fours: what lies past them in the new frame is dead
unfoldable pub fours : ℕ → ℕ
fours n = pick (n == 0) 0 (pick (nat_le n 4) 4 (pick (nat_le n 8) 8 16))

-- a frame of the method row r above the running one, which waits with its stack up to s; the new frame's arguments stand in its cells
unfoldable pub entered : List ℕ → Work → ℕ → ℕ → Work
entered methods c r s =
    with_regs
    (with_cells c
    (clear (fours (method_cell methods r 29)) (c.regs.fp + 72)
    (slice_set (slice_set (slice_set c.cells (c.regs.fp + 56) c.regs.at) (c.regs.fp + 57) (s - (c.regs.fp + 24))) (c.regs.fp + 122) r))
    c.kinds)
    (record { fp = c.regs.fp + 64; row = r; at = 0; sp = c.regs.fp + 88; made = c.regs.made })

-- whether a frame more has room: 32 are live at most
unfoldable pub room_above : Work → Bool
room_above c = nat_lt c.regs.fp 1984

-- the initialiser r comes first: its class is marked and its frame pushed
unfoldable pub start_w : List ℕ → Work → ℕ → Answer ℕ Went
start_w methods c r =
    guard (room_above c) 36 >>= λ _.
    ok (runs (entered methods (with_marks c (slice_set c.marks (method_cell methods r 25) 1)) r (sp_of c)))

-- ---- Calls: r is a method row

-- how many values a return type's byte gives
unfoldable pub due_of_byte : ℕ → ℕ
due_of_byte t = pick (t == 0) 0 1

-- n arguments that fit the types of the row r from its variable i on, then room for what is due
unfoldable pub taking_w : List ℕ → List ℕ → Stay → Work → ℕ → ℕ → ℕ → ℕ → Answer ℕ (Unit {0})
taking_w methods ancestors y c r n i more =
    guard (few y c n) 43 >>= λ _.
    guard (fit_all_w methods ancestors c r n i (sp_of c - n)) 45 >>= λ _.
    guard (nat_le (sp_of c - n + more) y.limit) 44

-- the method row r is entered with n arguments from the stack
unfoldable pub invoke_w : List ℕ → List ℕ → Work → ℕ → ℕ → Answer ℕ Went
invoke_w methods initialisers c r n =
    starting_w initialisers c (method_cell methods r 25) λ marks.
    guard (room_above c) 36 >>= λ _.
    ok (runs (entered methods (with_marks (with_cells c (copy_of (fours n) c.cells (sp_of c - n) (c.regs.fp + 64) c.cells) c.kinds) marks) r (sp_of c - n)))

unfoldable pub call_row : List ℕ → List ℕ → List ℕ → Stay → Work → ℕ → Answer ℕ Went
call_row methods initialisers ancestors y c r =
    taking_w methods ancestors y c r (method_cell methods r 28) 0 (due_of_byte (method_cell methods r 26)) >>= λ _.
    invoke_w methods initialisers c r (method_cell methods r 28)

-- the method that callvirt takes for a class: a sort 1 method is taken as named
unfoldable pub chosen_row : List ℕ → List ℕ → ℕ → ℕ → ℕ
chosen_row methods chosen r k =
    pick (method_cell methods r 24 == 2)
    (pick (slice_index chosen (k * 129 + method_cell methods r 30) == 0) r (slice_index chosen (k * 129 + method_cell methods r 30)))
    r

unfoldable pub callvirt_row : List ℕ → List ℕ → List ℕ → List ℕ → Stay → Work → ℕ → Answer ℕ Went
callvirt_row methods initialisers ancestors chosen y c r =
    taking_w methods ancestors y c r (method_cell methods r 28) 0 (due_of_byte (method_cell methods r 26)) >>= λ _.
    guard (not (bits_at c (sp_of c - method_cell methods r 28) == 0)) 34 >>= λ _.
    invoke_w methods initialisers c
    (chosen_row methods chosen r (slice_index c.classes (place_of (bits_at c (sp_of c - method_cell methods r 28)))))
    (method_cell methods r 28)

-- an object of class k made, n cells of the stack its constructor's arguments after it, and the reference in their place
unfoldable pub made_w : Work → ℕ → ℕ → Work
made_w c k n =
    with_heap
    (with_regs
    (with_cells c
    (set
    (slice_set (copy_of (fours n) c.cells (sp_of c - n) (c.regs.fp + 65) c.cells) (c.regs.fp + 64) (suc c.regs.made))
    (sp_of c - n)
    (suc c.regs.made))
    (slice_set c.kinds (sp_of c - n) 0))
    (record { fp = c.regs.fp; row = c.regs.row; at = c.regs.at; sp = sp_of c - n + 1; made = suc c.regs.made }))
    (slice_set c.classes c.regs.made k)
    c.heap

unfoldable pub newobj_row : List ℕ → List ℕ → List ℕ → Stay → Work → ℕ → Answer ℕ Went
newobj_row methods initialisers ancestors y c r =
    taking_w methods ancestors y c r (method_cell methods r 28 - 1) 1 1 >>= λ _.
    starting_w initialisers c (method_cell methods r 25) λ marks.
    guard (nat_lt c.regs.made 256) 37 >>= λ _.
    guard (room_above c) 36 >>= λ _.
    ok (runs (entered methods (with_marks (made_w c (method_cell methods r 25) (method_cell methods r 28 - 1)) marks) r (sp_of c - (method_cell methods r 28 - 1) + 1)))

-- a method's token, of a sort that the instruction takes
unfoldable pub is_method : ℕ → List ℕ → (ℕ → Bool) → ℕ → Bool
is_method count methods sorts t = is_token 6 count t && sorts (method_cell methods (row_of_token t) 24)

-- ---- Returns

-- the value in the first cell of the running frame's stack, if n is 1
unfoldable pub value_due : Work → ℕ → Option Value
value_due c zero = none
value_due c (suc n) = some (cell c.kinds c.cells (c.regs.fp + 24) 0)

-- the running frame left for the one whose first cell is p: it moves on by some bytes and gets n cells, 0 or 1
unfoldable pub left : Work → ℕ → ℕ → ℕ → Work
left c p bytes n =
    with_regs
    (with_cells c
    (copy_of n c.cells (c.regs.fp + 24) (p + 24 + slice_index c.cells (p + 57)) c.cells)
    (copy_of n c.kinds (c.regs.fp + 24) (p + 24 + slice_index c.cells (p + 57)) c.kinds))
    (record {
      fp = p;
      row = slice_index c.cells (p + 58);
      at = slice_index c.cells (p + 56) + bytes;
      sp = p + 24 + slice_index c.cells (p + 57) + n;
      made = c.regs.made;
    })

-- the caller moves past the call, whose instruction is 5 bytes long; after an initialiser it stays
unfoldable pub return_w : Work → ℕ → ℕ → Answer ℕ Went
return_w c sort n =
    pick (c.regs.fp == 0) (ok (over (value_due c n))) (ok (runs (left c (c.regs.fp - 64) (pick (sort == 4) 0 5) n)))

unfoldable pub ret_w : List ℕ → List ℕ → Stay → Work → Answer ℕ Went
ret_w methods ancestors y c =
    guard (few y c (due_of_byte (slice_index methods (y.mp + 26)))) 43 >>= λ _.
    guard (sp_of c == y.floor + due_of_byte (slice_index methods (y.mp + 26))) 45 >>= λ _.
    guard (slice_index methods (y.mp + 26) == 0 || fits_w ancestors c.classes (kind_at c y.floor) (bits_at c y.floor) (slice_index methods (y.mp + 26))) 45 >>= λ _.
    return_w c (slice_index methods (y.mp + 24)) (due_of_byte (slice_index methods (y.mp + 26)))

-- ---- One step

unfoldable pub plain_w : Tables → Stay → Work → Plain → ℕ → Answer ℕ Went
plain_w P y c nop next = ok (runs (goto c next (sp_of c)))
plain_w P y c pop next = pop_w y c next
plain_w P y c dup next = dup_w y c next
plain_w P y c ret next = ret_w P.methods P.ancestors y c
plain_w P y c (ldc t n) next = push_w y c (kind_of_type t) (bits_in (value t n)) next
plain_w P y c (binary o) next = binary_w y c o next
plain_w P y c (unary o) next = unary_w y c o next

-- a sort that `call` takes: no initialiser; and one that `callvirt` and `newobj` take
abbrev pub call_sort : ℕ → Bool
call_sort s = not (s == 4)

abbrev pub callvirt_sort : ℕ → Bool
callvirt_sort s = within 1 2 s

abbrev pub newobj_sort : ℕ → Bool
newobj_sort s = s == 3

-- the instruction, in code of n bytes
unfoldable pub act_w : Tables → ℕ → Stay → Work → Ins → ℕ → Answer ℕ Went
act_w P n y c (plain p) next = plain_w P y c p next
act_w P n y c (ldarg i) next = ldarg_w P.variables y c i next
act_w P n y c (starg i) next = starg_w P.methods P.ancestors y c i next
act_w P n y c (ldloc i) next = ldloc_w P.variables y c i next
act_w P n y c (stloc i) next = stloc_w P.methods P.ancestors y c i next
act_w P n y c (jump j target) next = branch_w n y c j target next
act_w P n y c (call t) next =
    guard (is_method P.method_count P.methods call_sort t) 42 >>= λ _.
    call_row P.methods P.initialisers P.ancestors y c (row_of_token t)
act_w P n y c (callvirt t) next =
    guard (is_method P.method_count P.methods callvirt_sort t) 42 >>= λ _.
    callvirt_row P.methods P.initialisers P.ancestors P.chosen y c (row_of_token t)
act_w P n y c (newobj t) next =
    guard (is_method P.method_count P.methods newobj_sort t) 42 >>= λ _.
    newobj_row P.methods P.initialisers P.ancestors y c (row_of_token t)
act_w P n y c (castclass t) next = cast_w P.class_count P.ancestors y c t (bad 35) next
act_w P n y c (isinst t) next = cast_w P.class_count P.ancestors y c t (ok 0) next
act_w P n y c (ldfld t) next =
    guard (is_field P.field_count P.fields 0 t) 42 >>= λ _.
    ldfld_row P.fields P.initialisers P.ancestors y c (row_of_token t) next
act_w P n y c (stfld t) next =
    guard (is_field P.field_count P.fields 0 t) 42 >>= λ _.
    stfld_row P.fields P.initialisers P.ancestors y c (row_of_token t) next
act_w P n y c (ldsfld t) next =
    guard (is_field P.field_count P.fields 1 t) 42 >>= λ _.
    ldsfld_row P.fields P.initialisers y c (row_of_token t) next
act_w P n y c (stsfld t) next =
    guard (is_field P.field_count P.fields 1 t) 42 >>= λ _.
    stsfld_row P.fields P.initialisers P.ancestors y c (row_of_token t) next

-- the stay in the running frame
unfoldable pub stay_of : Tables → Regs → Stay
stay_of P g = record { fp = g.fp; mp = g.row * 32; floor = g.fp + 24; limit = g.fp + 24 + method_cell P.methods g.row 27 }

-- the part of the code buffer that is the running method's
unfoldable pub code_of : Tables → List ℕ → ℕ → List ℕ
code_of P code r = part_of code (part_offset P.parts r) (part_length P.parts r)

-- what the instruction at the running frame's offset does, `part` being its method's code
unfoldable pub acts_w : Tables → List ℕ → Stay → Work → Answer ℕ Went
acts_w P part y c = need (decode part c.regs.at) 41 >>= λ d. act_w P (length part) y c d.ins d.next

-- where an initialiser comes first, its frame is pushed
unfoldable pub settle : Tables → Work → Went → Answer ℕ Went
settle P c (runs d) = ok (runs d)
settle P c (over v) = ok (over v)
settle P c (waits r) = start_w P.methods c r

unfoldable pub step_w : Tables → List ℕ → Work → Answer ℕ Went
step_w P code c =
    guard (nat_lt c.regs.at (part_length P.parts c.regs.row)) 46 >>= λ _.
    acts_w P (code_of P code c.regs.row) (stay_of P c.regs) c >>= λ w.
    settle P c w

-- ---- Steps within the budget

-- how a run on the arrays ended: `live` is the number of its frames
pub record EndedW : Type 0 where
  pub ending : ℕ
  pub steps : ℕ
  pub value : Option Value
  pub live : ℕ
  pub work : Work

unfoldable pub halted_w : ℕ → ℕ → Work → EndedW
halted_w e n c = record { ending = e; steps = n; value = none; live = suc (c.regs.fp / 64); work = c }

unfoldable pub finished_w : ℕ → Option Value → Work → EndedW
finished_w n v c = record { ending = 0; steps = n; value = v; live = 0; work = c }

unfoldable pub after_w : (ℕ → Work → EndedW) → ℕ → Work → Answer ℕ Went → EndedW
after_w on n c (bad e) = halted_w e n c
after_w on n c (ok (runs d)) = on (suc n) d
after_w on n c (ok (over v)) = finished_w (suc n) v c
after_w on n c (ok (waits r)) = halted_w 0 n c

-- at most `budget` more steps, n having been made
unfoldable pub run_w : Tables → List ℕ → ℕ → ℕ → Work → EndedW
run_w P code zero n c = halted_w 38 n c
run_w P code (suc budget) n c = after_w (run_w P code budget) n c (step_w P code c)

-- the state seen at the end: no frame where none is live
unfoldable pub state_seen : Module → Work → ℕ → Model.State
state_seen M c zero = frames_gone (view M c)
state_seen M c (suc live) = state_of (view M c)

unfoldable pub ended : Module → EndedW → Ended
ended M r =
    record {
      ending = r.ending;
      method = r.work.regs.row;
      offset = r.work.regs.at;
      steps = r.steps;
      value = r.value;
      state = state_seen M r.work r.live;
    }
