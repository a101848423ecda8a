-- A step: its tests in the written order, and what it does.
use Rattle.std.specs.Prelude.{ℕ, zero, suc, ◌+◌, ◌-◌, Bool, true, not, List, [], ◌∷◌, ◌++◌, length, get_or, set, ltb, eqb}
use Rattle.std.proofs.Math.Option.{Option, none, some}
use Rattle.model.specs.Answer.{Answer, bad, ok, ◌>>=◌, ◌>>◌, guard, need, pick, or_else, or_next, is_nil, at}
use Rattle.model.specs.Tables.{most_frames, Ty, class, virtual, initialiser, is_sort, Field, Method, Module, method_at, arguments, due, parent_of, slot}
use Rattle.model.specs.Tables.{root, of_root, initialiser_of}
use Rattle.model.specs.Code.{Plain, nop, pop, dup, ret, ldc, binary, unary, Binary, Unary, Relation, Jump, always, iftrue, iffalse, when, decode, Act}
use Rattle.model.specs.Code.{operands}
use Rattle.model.specs.Operators.{same, reference, binary_of, unary_of, comparison, testable}
use Rattle.model.specs.State.{Value, vnull, vobject, value, zero_of, bits_in, Object, Heap, store, free, object_at, new_object, fits_value, kind_of}
use Rattle.model.specs.State.{undecodable, operand_fault, wrong_type, stuck_number, pops, pop1, pop2, room, calling, Frame, Machine, enter}

-- a step goes on, or the run is finished with the value
pub data Outcome : Type 0 where
  goes : Machine → Outcome
  ends : Option Value → Outcome

-- ---- Objects: where a new one goes

-- the heap with a new object in it, and its number
pub record Placed : Type 0 where
  pub heap : Heap
  pub number : ℕ

-- an allocator looks at the state before the step; none is 37
abbrev pub Allocator : Type 0
Allocator = Machine → Object → Option Placed

unfoldable pub place_at : Heap → Object → Option ℕ → Option Placed
place_at h o none = none
place_at h o (some n) = some (record { heap = store h n o; number = n })

-- objects are numbered as made, while one of the heap's places is free
unfoldable pub lowest_free : Allocator
lowest_free s o = place_at s.heap o (free s.heap)

-- ---- The running frame

-- at an offset, with a stack
unfoldable pub moved : Frame → ℕ → List Value → Frame
moved f o k = record { method = f.method; offset = o; args = f.args; locals = f.locals; stack = k }

unfoldable pub with_top : Machine → Frame → Machine
with_top s f = record { top = f; below = s.below; statics = s.statics; marks = s.marks; heap = s.heap }

unfoldable pub move : Machine → ℕ → List Value → Answer ℕ Outcome
move s o k = ok (goes (with_top s (moved s.top o k)))

-- the same with other static fields, marks and heap
unfoldable pub move_with : Machine → List Value → List Bool → Heap → ℕ → List Value → Answer ℕ Outcome
move_with s statics marks h o k = ok (goes (record { top = moved s.top o k; below = s.below; statics = statics; marks = marks; heap = h }))

-- a call pushes a frame, and the caller waits at the call's offset with the stack k; 36 where 32 are live
unfoldable pub push : Machine → List Bool → Heap → List Value → Frame → Answer ℕ Outcome
push s marks h k f = do
  guard (ltb (suc (length s.below)) most_frames) 36
  ok (goes (record { top = f; below = moved s.top s.top.offset k ∷ s.below; statics = s.statics; marks = marks; heap = h }))

-- ---- The start of a class

-- the class that an access to a field starts, and that a call of a method starts
unfoldable pub started_by_field : Field → Option ℕ
started_by_field d = some d.owner

unfoldable pub started_by_call : Method → Option ℕ
started_by_call m = some m.owner

unfoldable pub is_marked : Machine → ℕ → Bool
is_marked s c = get_or s.marks (c - 1) true

unfoldable pub mark : Machine → ℕ → List Bool
mark s c = set s.marks (c - 1) true

-- The class is marked first; with an initialiser, a frame for it is pushed and the instruction is carried out later.
-- Without one, marking is part of the instruction.
unfoldable pub start_by : Module → Machine → ℕ → Option ℕ → (List Bool → Answer ℕ Outcome) → Answer ℕ Outcome
start_by M s c none then = then (mark s c)
start_by M s c (some r) then = push s (mark s c) s.heap s.top.stack (enter r (method_at M.methods r) [])

-- the instruction, once the class is started; it is told the marks
unfoldable pub starting : Module → Machine → Option ℕ → (List Bool → Answer ℕ Outcome) → Answer ℕ Outcome
starting M s none then = then s.marks
starting M s (some c) then = pick (is_marked s c) (then s.marks) (start_by M s c (initialiser_of M.methods c) then)

-- ---- Operators and branches

-- the bits of the operands' value, or 31 to 33
unfoldable pub do_binary : Machine → Binary → ℕ → Answer ℕ Outcome
do_binary s o next = do
  p ← pop2 stuck_number s.top.stack
  g ← need (binary_of o (kind_of s.heap p.0) (kind_of s.heap p.1)) (stuck_number wrong_type)
  n ← g.bits_of (bits_in p.0) (bits_in p.1)
  move s next (value g.gives n ∷ p.2)

unfoldable pub do_unary : Machine → Unary → ℕ → Answer ℕ Outcome
do_unary s o next = do
  p ← pop1 stuck_number s.top.stack
  g ← need (unary_of o (kind_of s.heap p.0)) (stuck_number wrong_type)
  move s next (value g.gives (g.bits_of (bits_in p.0)) ∷ p.1)

unfoldable pub do_test : Machine → ℕ → ℕ → Answer ℕ Outcome
do_test s on_zero onOther = do
  p ← pop1 stuck_number s.top.stack
  guard (testable (kind_of s.heap p.0)) (stuck_number wrong_type)
  move s (pick (eqb (bits_in p.0) 0) on_zero onOther) p.1

unfoldable pub do_when : Machine → Relation → ℕ → ℕ → Answer ℕ Outcome
do_when s r target next = do
  p ← pop2 stuck_number s.top.stack
  holds ← need (comparison r (kind_of s.heap p.0) (kind_of s.heap p.1)) (stuck_number wrong_type)
  move s (pick (holds (bits_in p.0) (bits_in p.1)) target next) p.2

unfoldable pub do_jump : Machine → Jump → ℕ → ℕ → Answer ℕ Outcome
do_jump s always target next = move s target s.top.stack
do_jump s iftrue target next = do_test s next target
do_jump s iffalse target next = do_test s target next
do_jump s (when r) target next = do_when s r target next

-- ---- Loads and stores

unfoldable pub do_push : Machine → Method → Value → ℕ → Answer ℕ Outcome
do_push s m v next = do room stuck_number m 1 s.top.stack; move s next (v ∷ s.top.stack)

unfoldable pub do_dup : Machine → Method → ℕ → Answer ℕ Outcome
do_dup s m next = do p ← pop1 stuck_number s.top.stack; do_push s m p.0 next

-- the value of a type on top of the stack, handed on with the stack below it
unfoldable pub popping : Module → Machine → Ty → (Value → List Value → Answer ℕ Outcome) → Answer ℕ Outcome
popping M s t then = do p ← pops stuck_number (fits_value M s.heap) (t ∷ []) s.top.stack; then (get_or p.got 0 vnull) p.rest

unfoldable pub do_starg : Module → Machine → ℕ → Ty → ℕ → Answer ℕ Outcome
do_starg M s i t next =
    popping M s t λ v k.
    ok (goes (with_top s (record { method = s.top.method; offset = next; args = set s.top.args i v; locals = s.top.locals; stack = k })))

unfoldable pub do_stloc : Module → Machine → ℕ → Ty → ℕ → Answer ℕ Outcome
do_stloc M s i t next =
    popping M s t λ v k.
    ok (goes (with_top s (record { method = s.top.method; offset = next; args = s.top.args; locals = set s.top.locals i v; stack = k })))

-- ---- Calls

-- going from the object's class up to the first class with a method of the same root, n rows at most
unfoldable pub choose_up : Module → ℕ → ℕ → ℕ → Option ℕ
choose_up M q zero c = none
choose_up M q (suc n) zero = none
choose_up M q (suc n) (suc c) = or_next (of_root M.methods (suc c) q) (choose_up M q n (parent_of M.parents (suc c)))

-- the method that callvirt takes for an object's class; a sort 1 method is taken as named
unfoldable pub choose : Module → ℕ → Method → ℕ → ℕ
choose M r m c = pick (is_sort m.sort virtual) (or_else (choose_up M (root M.methods r) c c) r) r

-- `call` makes no null test
unfoldable pub do_call : Module → Machine → Method → ℕ → Method → Answer ℕ Outcome
do_call M s m r callee =
    calling stuck_number (fits_value M s.heap) m (arguments callee) (length (due callee)) s.top.stack λ p.
    starting M s (started_by_call callee) λ marks.
    push s marks s.heap p.rest (enter r callee p.got)

-- the null test: an object's number
unfoldable pub not_null : Value → Answer ℕ ℕ
not_null v = do guard (not (eqb (bits_in v) 0)) 34; ok (bits_in v)

-- callvirt makes its null test before the start
unfoldable pub do_callvirt : Module → Machine → Method → ℕ → Method → Answer ℕ Outcome
do_callvirt M s m r named = calling stuck_number (fits_value M s.heap) m (arguments named) (length (due named)) s.top.stack λ p. do
  n ← not_null (get_or p.got 0 vnull)
  let taken = choose M r named (object_at s.heap n).class
  starting M s (started_by_call (method_at M.methods taken)) λ marks.
      push s marks s.heap p.rest (enter taken (method_at M.methods taken) p.got)

-- newobj pops the values of the parameters, pushes the new reference and calls the constructor with it as `this`
unfoldable pub do_newobj : Allocator → Module → Machine → Method → ℕ → Method → Answer ℕ Outcome
do_newobj new M s m r callee =
    calling stuck_number (fits_value M s.heap) m callee.params 1 s.top.stack λ p.
    starting M s (started_by_call callee) λ marks. do
      o ← need (new s (new_object M callee.owner)) 37
      push s marks o.heap (vobject o.number ∷ p.rest) (enter r callee (vobject o.number ∷ p.got))

-- At `ret` the caller gets the return value, if any, and moves past the call, whose instruction is 5 bytes long;
-- after an initialiser it stays and tries its instruction again.
unfoldable pub resumed : Method → Frame → List Value → Frame
resumed m f vs = pick (is_sort m.sort initialiser) f (moved f (f.offset + 5) (vs ++ f.stack))

unfoldable pub return : Machine → Method → List Value → List Frame → Answer ℕ Outcome
return s m vs [] = ok (ends (at vs 0))
return s m vs (f ∷ fs) = ok (goes (record { top = resumed m f vs; below = fs; statics = s.statics; marks = s.marks; heap = s.heap }))

-- `ret` wants exactly the return value on the stack, or nothing for void
unfoldable pub do_ret : Module → Machine → Method → Answer ℕ Outcome
do_ret M s m = do
  p ← pops stuck_number (fits_value M s.heap) (due m) s.top.stack
  guard (is_nil p.rest) (stuck_number wrong_type)
  return s m p.got s.below

-- ---- Casts

-- isinst gives null on a miss and on null; castclass lets null and a fitting object through and ends 35 on a miss
unfoldable pub do_cast : Module → Machine → ℕ → Answer ℕ Value → ℕ → Answer ℕ Outcome
do_cast M s c miss next = do
  p ← pop1 stuck_number s.top.stack
  guard (same (kind_of s.heap p.0) reference) (stuck_number wrong_type)
  v ← pick (fits_value M s.heap p.0 (class c)) (ok p.0) miss
  move s next (v ∷ p.1)

-- ---- Fields

unfoldable pub slot_in : Module → ℕ → Field → ℕ
slot_in M r d = slot M.parents M.fields r d

unfoldable pub do_ldfld : Module → Machine → ℕ → Field → ℕ → Answer ℕ Outcome
do_ldfld M s r d next = do
  p ← pops stuck_number (fits_value M s.heap) (class d.owner ∷ []) s.top.stack
  starting M s (started_by_field d) λ marks. do
    n ← not_null (get_or p.got 0 vnull)
    move_with s s.statics marks s.heap next (get_or (object_at s.heap n).cells (slot_in M r d) (zero_of d.type) ∷ p.rest)

unfoldable pub with_cell : Object → ℕ → Value → Object
with_cell o i v = record { class = o.class; cells = set o.cells i v }

unfoldable pub do_stfld : Module → Machine → ℕ → Field → ℕ → Answer ℕ Outcome
do_stfld M s r d next = do
  p ← pops stuck_number (fits_value M s.heap) (class d.owner ∷ d.type ∷ []) s.top.stack
  starting M s (started_by_field d) λ marks. do
    n ← not_null (get_or p.got 0 vnull)
    move_with s s.statics marks (store s.heap n (with_cell (object_at s.heap n) (slot_in M r d) (get_or p.got 1 vnull))) next p.rest

unfoldable pub do_ldsfld : Module → Machine → Method → ℕ → Field → ℕ → Answer ℕ Outcome
do_ldsfld M s m r d next = do
  room stuck_number m 1 s.top.stack
  starting M s (started_by_field d) λ marks.
      move_with s s.statics marks s.heap next (get_or s.statics (slot_in M r d) (zero_of d.type) ∷ s.top.stack)

unfoldable pub do_stsfld : Module → Machine → ℕ → Field → ℕ → Answer ℕ Outcome
do_stsfld M s r d next =
    popping M s d.type λ v k.
    starting M s (started_by_field d) λ marks.
    move_with s (set s.statics (slot_in M r d) v) marks s.heap next k

-- ---- One step

unfoldable pub do_plain : Module → Machine → Method → Plain → ℕ → Answer ℕ Outcome
do_plain M s m nop next = move s next s.top.stack
do_plain M s m pop next = do p ← pop1 stuck_number s.top.stack; move s next p.1
do_plain M s m dup next = do_dup s m next
do_plain M s m ret next = do_ret M s m
do_plain M s m (ldc t n) next = do_push s m (value t n) next
do_plain M s m (binary o) next = do_binary s o next
do_plain M s m (unary o) next = do_unary s o next

unfoldable pub act : Allocator → Module → Machine → Method → Act → ℕ → Answer ℕ Outcome
act new M s m (Act.plain p) next = do_plain M s m p next
act new M s m (Act.ldarg i t) next = do_push s m (get_or s.top.args i (zero_of t)) next
act new M s m (Act.starg i t) next = do_starg M s i t next
act new M s m (Act.ldloc i t) next = do_push s m (get_or s.top.locals i (zero_of t)) next
act new M s m (Act.stloc i t) next = do_stloc M s i t next
act new M s m (Act.jump j target) next = do_jump s j target next
act new M s m (Act.call r k) next = do_call M s m r k
act new M s m (Act.callvirt r k) next = do_callvirt M s m r k
act new M s m (Act.newobj r k) next = do_newobj new M s m r k
act new M s m (Act.castclass c) next = do_cast M s c (bad 35) next
act new M s m (Act.isinst c) next = do_cast M s c (ok vnull) next
act new M s m (Act.ldfld r d) next = do_ldfld M s r d next
act new M s m (Act.stfld r d) next = do_stfld M s r d next
act new M s m (Act.ldsfld r d) next = do_ldsfld M s m r d next
act new M s m (Act.stsfld r d) next = do_stsfld M s r d next

-- 46, 41, 42, then what the instruction tests, in the order 43, 45, 44, start of a class, 34, 37, 36, 31 to 33, 35
unfoldable pub step : Allocator → Module → Machine → Answer ℕ Outcome
step new M s = do
  let m = method_at M.methods s.top.method
  guard (ltb s.top.offset (length m.code)) 46
  d ← need (decode m.code s.top.offset) (stuck_number undecodable)
  a ← need (operands M m d.ins) (stuck_number operand_fault)
  act new M s m a d.next
