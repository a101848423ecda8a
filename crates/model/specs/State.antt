-- The machine state: values, objects, frames; and what is read off them.
use Rattle.std.specs.Prelude.{ℕ, zero, suc, ◌+◌, Bool, true, false, ◌&&◌, List, [], ◌∷◌, map, length, get_or, set, drop, replicate, leb}
use Rattle.std.proofs.Math.Option.{Option, none, some}
use Rattle.model.specs.Answer.{Answer, bad, ok, ◌>>=◌, ◌>>◌, guard, or_else}
use Rattle.model.specs.Tables.{Ty, int32, int64, F, null, class, Method, Module, layout, field_types}
use Rattle.model.specs.Operators.{fits, kind, Kind}

-- ---- Values

-- an int32 or int64 is its bits in two's complement, an F the bits of its double, an object its number from 1
pub data Value : Type 0 where
  vint32 vint64 v_f : ℕ → Value
  vnull : Value
  vobject : ℕ → Value

-- a value of a type with given bits; no reference but null is made so
unfoldable pub value : Ty → ℕ → Value
value int32 n = vint32 n
value int64 n = vint64 n
value F n = v_f n
value null n = vnull
value (class c) n = vnull

-- locals, fields and static fields start at 0 or null
unfoldable pub zero_of : Ty → Value
zero_of t = value t 0

unfoldable pub bits_in : Value → ℕ
bits_in (vint32 n) = n
bits_in (vint64 n) = n
bits_in (v_f n) = n
bits_in vnull = 0
bits_in (vobject n) = n

-- ---- Objects: a heap is a list of places, each free or an object

pub record Object : Type 0 where
  pub class : ℕ
  pub cells : List Value

abbrev pub Heap : Type 0
Heap = List (Option Object)

unfoldable pub places : ℕ → Heap
places n = replicate n none

-- the object of a number
unfoldable pub get : Heap → ℕ → Option Object
get h zero = none
get h (suc n) = get_or h n none

unfoldable pub store : Heap → ℕ → Object → Heap
store h zero o = h
store h (suc n) o = set h n (some o)

-- the number of the lowest free place, counting from n
unfoldable pub free_from : ℕ → Heap → Option ℕ
free_from n [] = none
free_from n (none ∷ h) = some n
free_from n (some o ∷ h) = free_from (suc n) h

unfoldable pub free : Heap → Option ℕ
free h = free_from 1 h

unfoldable pub no_object : Object
no_object = record { class = 0; cells = [] }

unfoldable pub object_at : Heap → ℕ → Object
object_at h n = or_else (get h n) no_object

unfoldable pub new_object : Module → ℕ → Object
new_object M c = record { class = c; cells = map zero_of (field_types (layout M.parents M.fields c)) }

-- ---- Types of values: a reference has the class of its object

unfoldable pub type_of : Heap → Value → Ty
type_of h (vint32 n) = int32
type_of h (vint64 n) = int64
type_of h (v_f n) = F
type_of h vnull = null
type_of h (vobject n) = class (object_at h n).class

unfoldable pub fits_value : Module → Heap → Value → Ty → Bool
fits_value M h v t = fits M.parents (type_of h v) t

unfoldable pub kind_of : Heap → Value → Kind
kind_of h v = kind (type_of h v)

-- ---- The stack, its top first

-- what was popped, the deepest first, and the rest
pub record Popped (A : Type 0) : Type 0 where
  pub got : List A
  pub rest : List A

-- the first n of a stack, the deepest first, before l
unfoldable pub firsts : {A : Type 0} → ℕ → List A → List A → List A
firsts zero s l = l
firsts (suc n) [] l = l
firsts (suc n) (v ∷ s) l = firsts n s (v ∷ l)

unfoldable pub fit_all : {A : Type 0} → (A → Ty → Bool) → List Ty → List A → Bool
fit_all fit [] vs = true
fit_all fit (t ∷ ts) [] = false
fit_all fit (t ∷ ts) (v ∷ vs) = fit v t && fit_all fit ts vs

-- what the check numbers 11 to 15 and the machine 41 to 45
pub data Reason : Type 0 where
  undecodable operand_fault too_few too_many wrong_type : Reason

abbrev pub check_number : Reason → ℕ
check_number undecodable = 11
check_number operand_fault = 12
check_number too_few = 13
check_number too_many = 14
check_number wrong_type = 15

abbrev pub stuck_number : Reason → ℕ
stuck_number undecodable = 41
stuck_number operand_fault = 42
stuck_number too_few = 43
stuck_number too_many = 44
stuck_number wrong_type = 45

-- values that fit these types, the last on top: first their number is tested, then each type
unfoldable pub pops : {A : Type 0} → (Reason → ℕ) → (A → Ty → Bool) → List Ty → List A → Answer ℕ (Popped A)
pops number fit ts s = do
  guard (leb (length ts) (length s)) (number too_few)
  guard (fit_all fit ts (firsts (length ts) s [])) (number wrong_type)
  ok (record { got = firsts (length ts) s []; rest = drop (length ts) s })

-- any value, and any two: the second of them is on top
unfoldable pub pop1 : {A : Type 0} → (Reason → ℕ) → List A → Answer ℕ ((a : A) × List A)
pop1 number [] = bad (number too_few)
pop1 number (a ∷ s) = ok (a, s)

unfoldable pub pop2 : {A : Type 0} → (Reason → ℕ) → List A → Answer ℕ ((a : A) × (b : A) × List A)
pop2 number [] = bad (number too_few)
pop2 number (b ∷ []) = bad (number too_few)
pop2 number (b ∷ a ∷ s) = ok (a, b, s)

-- n values more must not pass the method's max stack
unfoldable pub room : {A : Type 0} → (Reason → ℕ) → Method → ℕ → List A → Answer ℕ (Unit {0})
room number m n s = guard (leb (length s + n) m.max_stack) (number too_many)

-- a call pops its arguments, and room for n values to come is tested at the call
abbrev pub calling : {A B : Type 0} → (Reason → ℕ) → (A → Ty → Bool) → Method → List Ty → ℕ → List A → (Popped A → Answer ℕ B) → Answer ℕ B
calling number fit m ts n s then = do
  p ← pops number fit ts s
  room number m n p.rest
  then p

-- ---- Frames and the whole state

-- `method` is its row, `offset` that of the next instruction, in a waiting frame that of its call
pub record Frame : Type 0 where
  pub method : ℕ
  pub offset : ℕ
  pub args : List Value
  pub locals : List Value
  pub stack : List Value

-- `frames` begins with the running one; `marks` says of each class whether it is started
pub record State : Type 0 where
  pub frames : List Frame
  pub statics : List Value
  pub marks : List Bool
  pub heap : Heap

-- a state with a running frame
pub record Machine : Type 0 where
  pub top : Frame
  pub below : List Frame
  pub statics : List Value
  pub marks : List Bool
  pub heap : Heap

unfoldable pub state_of : Machine → State
state_of s = record { frames = s.top ∷ s.below; statics = s.statics; marks = s.marks; heap = s.heap }

-- `ret` from the entry leaves no frame
unfoldable pub frames_gone : Machine → State
frames_gone s = record { frames = []; statics = s.statics; marks = s.marks; heap = s.heap }

unfoldable pub enter : ℕ → Method → List Value → Frame
enter r m vs = record { method = r; offset = 0; args = vs; locals = map zero_of m.locals; stack = [] }
