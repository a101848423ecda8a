-- The check: methods by row, in each (a) decode, (b) operands and targets, (c) shapes by rising offset.
use Rattle.std.specs.Prelude.{ℕ, zero, suc, Bool, true, false, not, ◌&&◌, ◌||◌, List, [], ◌∷◌, ◌++◌, length, get_or, set, replicate, leb, ltb, eqb}
use Rattle.std.proofs.Math.Option.{Option, none, some}
use Rattle.model.specs.Answer.{Answer, ok, ◌>>=◌, ◌>>◌, guard, need, blame, pick, only_if, or_else, is_nil, row, keep_if}
use Rattle.model.specs.Tables.{Ty, class, eq_tys, Method, Module, arguments, due}
use Rattle.model.specs.Loading.{Refusal, refusal, load}
use Rattle.model.specs.Code.{Plain, nop, pop, dup, ret, ldc, binary, unary, Jump, always, iftrue, iffalse, when, decode, Ins, Act, operands}
use Rattle.model.specs.Operators.{fits, kind, same, reference, binary_of, unary_of, comparison, testable}
use Rattle.model.specs.State.{undecodable, operand_fault, wrong_type, check_number, pops, pop1, pop2, room, calling}

-- the types on the stack, its top first
abbrev pub Shape : Type 0
Shape = List Ty

-- ---- (a) decode from offset 0

pub record Site (A : Type 0) : Type 0 where
  pub offset : ℕ
  pub what : A
  pub next : ℕ

-- the instructions from an offset on, n at most
unfoldable pub decode_from : ℕ → List ℕ → ℕ → Answer Refusal (List (Site Ins))
decode_from zero code o = ok []
decode_from (suc n) code o =
    pick (leb (length code) o)
    (ok [])
    do
      d ← need (decode code o) (refusal (check_number undecodable) o)
      l ← decode_from n code d.next
      ok (record { offset = o; what = d.ins; next = d.next } ∷ l)

-- ---- (b) operand faults, and targets that start no instruction

unfoldable pub starts : {A : Type 0} → List (Site A) → ℕ → Bool
starts [] o = false
starts (s ∷ l) o = eqb s.offset o || starts l o

-- where an instruction may branch to
unfoldable pub targets : Act → List ℕ
targets (Act.plain p) = []
targets (Act.ldarg i t) = []
targets (Act.starg i t) = []
targets (Act.ldloc i t) = []
targets (Act.stloc i t) = []
targets (Act.jump j target) = target ∷ []
targets (Act.call r k) = []
targets (Act.callvirt r k) = []
targets (Act.newobj r k) = []
targets (Act.castclass c) = []
targets (Act.isinst c) = []
targets (Act.ldfld r d) = []
targets (Act.stfld r d) = []
targets (Act.ldsfld r d) = []
targets (Act.stsfld r d) = []

unfoldable pub all_start : {A : Type 0} → List (Site A) → List ℕ → Bool
all_start l [] = true
all_start l (o ∷ os) = starts l o && all_start l os

unfoldable pub find_operands : Module → Method → List (Site Ins) → List (Site Ins) → Answer Refusal (List (Site Act))
find_operands M m all [] = ok []
find_operands M m all (s ∷ l) = do
  a ← need (operands M m s.what) (refusal (check_number operand_fault) s.offset)
  guard (all_start all (targets a)) (refusal (check_number operand_fault) s.offset)
  k ← find_operands M m all l
  ok (record { offset = s.offset; what = a; next = s.next } ∷ k)

-- ---- (c) shapes

-- one value of a type popped
unfoldable pub pops_one : Module → Ty → Shape → Answer ℕ Shape
pops_one M t S = do p ← pops check_number (fits M.parents) (t ∷ []) S; ok p.rest

unfoldable pub pushes : Method → Ty → Shape → Answer ℕ Shape
pushes m t S = do room check_number m 1 S; ok (t ∷ S)

unfoldable pub plain_effect : Module → Method → Plain → Shape → Answer ℕ Shape
plain_effect M m nop S = ok S
plain_effect M m pop S = do p ← pop1 check_number S; ok p.1
plain_effect M m dup S = do p ← pop1 check_number S; pushes m p.0 S
plain_effect M m ret S = do p ← pops check_number (fits M.parents) (due m) S; guard (is_nil p.rest) (check_number wrong_type); ok []
plain_effect M m (ldc t n) S = pushes m t S
plain_effect M m (binary o) S = do p ← pop2 check_number S; g ← need (binary_of o (kind p.0) (kind p.1)) (check_number wrong_type); ok (g.gives ∷ p.2)
plain_effect M m (unary o) S = do p ← pop1 check_number S; g ← need (unary_of o (kind p.0)) (check_number wrong_type); ok (g.gives ∷ p.1)

unfoldable pub test_effect : Shape → Answer ℕ Shape
test_effect S = do p ← pop1 check_number S; guard (testable (kind p.0)) (check_number wrong_type); ok p.1

unfoldable pub jump_effect : Jump → Shape → Answer ℕ Shape
jump_effect always S = ok S
jump_effect iftrue S = test_effect S
jump_effect iffalse S = test_effect S
jump_effect (when r) S = do p ← pop2 check_number S; need (comparison r (kind p.0) (kind p.1)) (check_number wrong_type); ok p.2

unfoldable pub call_effect : Module → Method → Method → Shape → Answer ℕ Shape
call_effect M m k S = calling check_number (fits M.parents) m (arguments k) (length (due k)) S λ p. ok (due k ++ p.rest)

unfoldable pub newobj_effect : Module → Method → Method → Shape → Answer ℕ Shape
newobj_effect M m k S = calling check_number (fits M.parents) m k.params 1 S λ p. ok (class k.owner ∷ p.rest)

-- after castclass and isinst the check finds the token's class
unfoldable pub cast_effect : ℕ → Shape → Answer ℕ Shape
cast_effect c S = do p ← pop1 check_number S; guard (same (kind p.0) reference) (check_number wrong_type); ok (class c ∷ p.1)

-- the shape after an instruction: loads bring declared types; stores, arguments and returns need values that fit
unfoldable pub effect : Module → Method → Act → Shape → Answer ℕ Shape
effect M m (Act.plain p) S = plain_effect M m p S
effect M m (Act.ldarg i t) S = pushes m t S
effect M m (Act.starg i t) S = pops_one M t S
effect M m (Act.ldloc i t) S = pushes m t S
effect M m (Act.stloc i t) S = pops_one M t S
effect M m (Act.jump j target) S = jump_effect j S
effect M m (Act.call r k) S = call_effect M m k S
effect M m (Act.callvirt r k) S = call_effect M m k S
effect M m (Act.newobj r k) S = newobj_effect M m k S
effect M m (Act.castclass c) S = cast_effect c S
effect M m (Act.isinst c) S = cast_effect c S
effect M m (Act.ldfld r d) S = do R ← pops_one M (class d.owner) S; ok (d.type ∷ R)
effect M m (Act.stfld r d) S = do p ← pops check_number (fits M.parents) (class d.owner ∷ d.type ∷ []) S; ok p.rest
effect M m (Act.ldsfld r d) S = pushes m d.type S
effect M m (Act.stsfld r d) S = pops_one M d.type S

-- whether an instruction can fall through to the next
unfoldable pub jump_falls : Jump → Bool
jump_falls always = false
jump_falls iftrue = true
jump_falls iffalse = true
jump_falls (when r) = true

unfoldable pub plain_falls : Plain → Bool
plain_falls nop = true
plain_falls pop = true
plain_falls dup = true
plain_falls ret = false
plain_falls (ldc t n) = true
plain_falls (binary o) = true
plain_falls (unary o) = true

unfoldable pub falls : Act → Bool
falls (Act.plain p) = plain_falls p
falls (Act.ldarg i t) = true
falls (Act.starg i t) = true
falls (Act.ldloc i t) = true
falls (Act.stloc i t) = true
falls (Act.jump j target) = jump_falls j
falls (Act.call r k) = true
falls (Act.callvirt r k) = true
falls (Act.newobj r k) = true
falls (Act.castclass c) = true
falls (Act.isinst c) = true
falls (Act.ldfld r d) = true
falls (Act.stfld r d) = true
falls (Act.ldsfld r d) = true
falls (Act.stsfld r d) = true

-- the shapes found so far, by offset
abbrev pub Shapes : Type 0
Shapes = List (Option Shape)

-- the shape where an arrival brings S and R was found: every later arrival must bring the same shape
unfoldable pub joined : Shape → Shape → Option Shape
joined S R = only_if (eq_tys S R) (some R)

-- elsewhere the shape is what the first arrival brings
unfoldable pub meet : Shapes → ℕ → Shape → Option Shape → Answer ℕ Shapes
meet found o S none = ok (set found o (some S))
meet found o S (some R) = do J ← need (joined S R) 16; ok (set found o (some J))

unfoldable pub arrive : Shapes → Shape → List ℕ → Answer ℕ Shapes
arrive found S [] = ok found
arrive found S (o ∷ os) = do more ← meet found o S (get_or found o none); arrive more S os

-- where an instruction's shape arrives: the next instruction, if there is one and it can fall through, and its targets
unfoldable pub arrivals : Method → Site Act → List ℕ
arrivals m s = keep_if (falls s.what && ltb s.next (length m.code)) s.next (targets s.what)

-- the shape at an instruction, empty where none comes
unfoldable pub shape_at : Shapes → ℕ → Shape
shape_at found o = or_else (get_or found o none) []

-- one instruction, tested 13, 15, 14, 16, 17; 17: the last instruction can fall through
unfoldable pub visit : Module → Method → Shapes → Site Act → Answer ℕ Shapes
visit M m found s = do
  S ← effect M m s.what (shape_at found s.offset)
  more ← arrive (set found s.offset (some (shape_at found s.offset))) S (arrivals m s)
  guard (not (falls s.what) || ltb s.next (length m.code)) 17
  ok more

unfoldable pub visits : Module → Method → Shapes → List (Site Act) → Answer Refusal Shapes
visits M m found [] = ok found
visits M m found (s ∷ l) = do more ← blame (λ number. refusal number s.offset) (visit M m found s); visits M m more l

-- ---- Methods by row

-- the shapes of a method, or its first fault with the offset
unfoldable pub check_method : Module → Method → Answer Refusal Shapes
check_method M m = do
  l ← decode_from (length m.code) m.code 0
  k ← find_operands M m l l
  visits M m (replicate (length m.code) none) k

-- a fault: number, method row and offset
pub record Fault : Type 0 where
  pub number : ℕ
  pub method : ℕ
  pub offset : ℕ

unfoldable pub fault_in : ℕ → Refusal → Fault
fault_in r f = record { number = f.number; method = r; offset = f.place }

-- the shapes of the methods from row r on
unfoldable pub check_methods : Module → ℕ → List Method → Answer Fault (List Shapes)
check_methods M r [] = ok []
check_methods M r (m ∷ ms) = do found ← blame (fault_in r) (check_method M m); l ← check_methods M (suc r) ms; ok (found ∷ l)

unfoldable pub check_module : Module → Answer Fault (List Shapes)
check_module M = check_methods M 1 M.methods

-- checking loads first and passes a refusal on, with method 0 and its place
unfoldable pub check : List ℕ → List ℕ → Answer Fault (List Shapes)
check tables code = do M ← blame (fault_in 0) (load tables code); check_module M

-- ---- The shape found, told

-- the shape found before the instruction at an offset of the method at a row; none where no instruction starts, or no method is there
unfoldable pub found_at : List Shapes → ℕ → ℕ → Option Shape
found_at found r o = get_or (or_else (row found r) []) o none

-- a refusal of loading and a fault of the check are passed on
unfoldable pub shape_found : List ℕ → List ℕ → ℕ → ℕ → Answer Fault (Option Shape)
shape_found tables code r o = do found ← check tables code; ok (found_at found r o)
