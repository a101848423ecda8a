-- Refusals of loading, faults of the check, and refusals of arguments and budget have numbers from 1 to 22.
use Prim.Native.Nat.{ℕ, zero, suc, ◌+◌, ◌≤◌}
use mathlib.Core.Path.{◌≡◌, subst}
use mathlib.Core.Bool.{Bool, true, false}
use mathlib.Core.Option.{Option, none, some}
use mathlib.Core.List.{List, [], ◌∷◌}
use lib.ListN.{length}
use lib.Dec.{T, leb, leb→le}
use Rattle.model.specs.Answer.{Answer, bad, ok, ◌>>=◌, guard, need, blame, pick}
use Rattle.model.specs.Tables.{Ty, Method, Module}
use Rattle.model.specs.Loading.{Refusal, refusal, within, Loading, nothing, class_record, field_record, method_record, param_record, local_record, entry_record}
use Rattle.model.specs.Loading.{one_record, read_record, records, agreed, load}
use Rattle.model.specs.Code.{Ins, Act, Plain, nop, pop, dup, ret, ldc, binary, unary, Jump, always, iftrue, iffalse, when}
use Rattle.model.specs.State.{check_number, pops, pop1, pop2, room}
use Rattle.model.specs.Check.{Shape, Shapes, Site, Fault, decode_from, find_operands, pops_one, pushes, plain_effect, test_effect, jump_effect, call_effect}
use Rattle.model.specs.Check.{newobj_effect, cast_effect, effect, meet, arrive, visit, visits, check_method, fault_in, check_methods, check_module, check}
use Rattle.model.specs.Run.{run_module, run}
use Rattle.model.proofs.Hoare.{and_l, and_r}

-- the numbers that come before any step
abbrev before_steps : ℕ → Bool
before_steps n = within 1 22 n

-- the number of a fault, if there is one, is one of these
unfoldable Early : {E A : Type 0} → (E → ℕ) → Answer E A → Type 0
Early g (bad e) = T (before_steps (g e))
Early g (ok a) = Unit {0}

module _ {E : Type 0} (g : E → ℕ) where
  gives : {A : Type 0} (a : A) → Early g (ok a)
  unfolding Early
  gives a = tt

  then : {A B : Type 0} (m : Answer E A) (f : A → Answer E B) → Early g m → ((a : A) → Early g (f a)) → Early g (m >>= f)
  unfolding Early ◌>>=◌
  then (bad e) f h k = h
  then (ok a) f h k = k a

  test : {B : Type 0} (b : Bool) (e : E) (f : Unit {0} → Answer E B) → T (before_steps (g e)) → Early g (f tt) → Early g (guard b e >>= f)
  unfolding Early ◌>>=◌ guard
  test true e f t k = k
  test false e f t k = t

  seek : {A B : Type 0} (o : Option A) (e : E) (f : A → Answer E B) → T (before_steps (g e)) → ((a : A) → Early g (f a)) → Early g (need o e >>= f)
  unfolding Early ◌>>=◌ need
  seek none e f t k = t
  seek (some a) e f t k = k a

  either : {A : Type 0} (b : Bool) (x y : Answer E A) → Early g x → Early g y → Early g (pick b x y)
  unfolding pick
  either true x y h k = h
  either false x y h k = k

  blamed : {D A : Type 0} (f : D → E) (m : Answer D A) → Early (λ d. g (f d)) m → Early g (blame f m)
  unfolding Early blame
  blamed f (bad d) h = h
  blamed f (ok a) h = h

  early : {A : Type 0} (m : Answer E A) (e : E) → Early g m → m ≡ bad e → T (before_steps (g e))
  unfolding Early
  early {A} m e h q = subst (λ (x : Answer E A). Early g x) q h

between : (n : ℕ) → T (before_steps n) → (1 ≤ n) × (n ≤ 22)
unfolding within
between n t = (leb→le 1 n (and_l (leb 1 n) (leb n 22) t), leb→le n 22 (and_r (leb 1 n) (leb n 22) t))

-- a number by itself, and that of a refusal
abbrev own : ℕ → ℕ
own n = n

abbrev of_refusal : Refusal → ℕ
of_refusal f = f.number

abbrev of_fault : Fault → ℕ
of_fault f = f.number

-- ---- Loading

one_record_lem : (code : List ℕ) (L : Loading) (place k : ℕ) (b : List ℕ) → Early own (one_record code L place k b)
unfolding one_record class_record field_record method_record param_record local_record entry_record within
one_record_lem code L place k b =
    either _ _ _ _ (test _ _ _ _ tt (test _ _ _ _ tt (test _ _ _ _ tt (gives _ _))))
    (either _ _ _ _ (test _ _ _ _ tt (test _ _ _ _ tt (test _ _ _ _ tt (seek _ _ _ _ tt λ t. test _ _ _ _ tt (gives _ _)))))
    (either _ _ _ _
    (test _ _ _ _ tt (test _ _ _ _ tt (seek _ _ _ _ tt λ s. seek _ _ _ _ tt λ r.
    test _ _ _ _ tt (test _ _ _ _ tt (test _ _ _ _ tt (test _ _ _ _ tt (gives _ _)))))))
    (either _ _ _ _ (test _ _ _ _ tt (seek _ _ _ _ tt λ t. test _ _ _ _ tt (test _ _ _ _ tt (gives _ _))))
    (either _ _ _ _ (test _ _ _ _ tt (seek _ _ _ _ tt λ t. test _ _ _ _ tt (gives _ _))) (test _ _ _ _ tt (test _ _ _ _ tt (test _ _ _ _ tt (gives _ _))))))))

all_records : (n : ℕ) (tables code : List ℕ) (o : ℕ) (L : Loading) → Early of_refusal (records n tables code o L)
unfolding records read_record refusal within
all_records zero tables code o L = gives _ _
all_records (suc n) tables code o L =
    either _ _ _ _ (gives _ _)
    (then _ _ _ (blamed _ _ _ (seek _ _ _ _ tt λ k. test _ _ _ _ tt (then _ _ _ (one_record_lem code L o _ _) λ K. gives _ _)))
    λ R. all_records n tables code (o + R.size) R.loading)

all_agreed : (L : Loading) (o : Option ℕ) → Early of_refusal (agreed L o)
unfolding agreed Early refusal within
all_agreed L none = tt
all_agreed L (some r) = tt

loads : (tables code : List ℕ) → Early of_refusal (load tables code)
unfolding load refusal within
loads tables code =
    test _ _ _ _ tt (then _ _ _ (all_records (length tables) tables code 0 nothing) λ L. test _ _ _ _ tt (then _ _ _ (all_agreed L _) λ _. gives _ _))

-- ---- The check

decodes : (n : ℕ) (code : List ℕ) (o : ℕ) → Early of_refusal (decode_from n code o)
unfolding decode_from refusal within
decodes zero code o = gives _ _
decodes (suc n) code o = either _ _ _ _ (gives _ _) (seek _ _ _ _ tt λ d. then _ _ _ (decodes n code d.next) λ l. gives _ _)

finds : (M : Module) (m : Method) (all l : List (Site Ins)) → Early of_refusal (find_operands M m all l)
unfolding find_operands refusal within
finds M m all [] = gives _ _
finds M m all (s ∷ l) = seek _ _ _ _ tt λ a. test _ _ _ _ tt (then _ _ _ (finds M m all l) λ k. gives _ _)

pops_early : (fit : Ty → Ty → Bool) (ts S : List Ty) → Early own (pops check_number fit ts S)
unfolding pops within
pops_early fit ts S = test _ _ _ _ tt (test _ _ _ _ tt (gives _ _))

pop1_early : (S : List Ty) → Early own (pop1 check_number S)
unfolding pop1 Early within
pop1_early [] = tt
pop1_early (t ∷ S) = tt

pop2_early : (S : List Ty) → Early own (pop2 check_number S)
unfolding pop2 Early within
pop2_early [] = tt
pop2_early (t ∷ []) = tt
pop2_early (t ∷ u ∷ S) = tt

room_early : (m : Method) (n : ℕ) (S : List Ty) (f : Unit {0} → Answer ℕ Shape) → Early own (f tt) → Early own (room check_number m n S >>= f)
unfolding room within
room_early m n S f h = test _ _ _ _ tt h

module _ (M : Module) (m : Method) where
  push_early : (t : Ty) (S : Shape) → Early own (pushes m t S)
  unfolding pushes
  push_early t S = room_early m _ _ _ (gives _ _)

  one_early : (t : Ty) (S : Shape) → Early own (pops_one M t S)
  unfolding pops_one
  one_early t S = then _ _ _ (pops_early _ _ _) λ p. gives _ _

  plain_early : (p : Plain) (S : Shape) → Early own (plain_effect M m p S)
  unfolding plain_effect within
  plain_early nop S = gives _ _
  plain_early pop S = then _ _ _ (pop1_early _) λ p. gives _ _
  plain_early dup S = then _ _ _ (pop1_early _) λ p. push_early _ _
  plain_early ret S = then _ _ _ (pops_early _ _ _) λ p. test _ _ _ _ tt (gives _ _)
  plain_early (ldc t n) S = push_early _ _
  plain_early (binary o) S = then _ _ _ (pop2_early _) λ p. seek _ _ _ _ tt λ g. gives _ _
  plain_early (unary o) S = then _ _ _ (pop1_early _) λ p. seek _ _ _ _ tt λ g. gives _ _

  test_early : (S : Shape) → Early own (test_effect S)
  unfolding test_effect within
  test_early S = then _ _ _ (pop1_early _) λ p. test _ _ _ _ tt (gives _ _)

  jump_early : (j : Jump) (S : Shape) → Early own (jump_effect j S)
  unfolding jump_effect within
  jump_early always S = gives _ _
  jump_early iftrue S = test_early S
  jump_early iffalse S = test_early S
  jump_early (when r) S = then _ _ _ (pop2_early _) λ p. seek _ _ _ _ tt λ g. gives _ _

  call_early : (k : Method) (S : Shape) → Early own (call_effect M m k S)
  unfolding call_effect
  call_early k S = then _ _ _ (pops_early _ _ _) λ p. room_early m _ _ _ (gives _ _)

  new_early : (k : Method) (S : Shape) → Early own (newobj_effect M m k S)
  unfolding newobj_effect
  new_early k S = then _ _ _ (pops_early _ _ _) λ p. room_early m _ _ _ (gives _ _)

  cast_early : (c : ℕ) (S : Shape) → Early own (cast_effect c S)
  unfolding cast_effect within
  cast_early c S = then _ _ _ (pop1_early _) λ p. test _ _ _ _ tt (gives _ _)

  effect_early : (a : Act) (S : Shape) → Early own (effect M m a S)
  unfolding effect
  effect_early (Act.plain p) S = plain_early p S
  effect_early (Act.ldarg i t) S = push_early _ _
  effect_early (Act.starg i t) S = one_early _ _
  effect_early (Act.ldloc i t) S = push_early _ _
  effect_early (Act.stloc i t) S = one_early _ _
  effect_early (Act.jump j target) S = jump_early j S
  effect_early (Act.call r k) S = call_early k S
  effect_early (Act.callvirt r k) S = call_early k S
  effect_early (Act.newobj r k) S = new_early k S
  effect_early (Act.castclass c) S = cast_early c S
  effect_early (Act.isinst c) S = cast_early c S
  effect_early (Act.ldfld r d) S = then _ _ _ (one_early _ _) λ R. gives _ _
  effect_early (Act.stfld r d) S = then _ _ _ (pops_early _ _ _) λ p. gives _ _
  effect_early (Act.ldsfld r d) S = push_early _ _
  effect_early (Act.stsfld r d) S = one_early _ _

  meet_early : (found : Shapes) (o : ℕ) (S : Shape) (x : Option Shape) → Early own (meet found o S x)
  unfolding meet within
  meet_early found o S none = gives _ _
  meet_early found o S (some R) = seek _ _ _ _ tt λ J. gives _ _

  arrive_early : (found : Shapes) (S : Shape) (os : List ℕ) → Early own (arrive found S os)
  unfolding arrive
  arrive_early found S [] = gives _ _
  arrive_early found S (o ∷ os) = then _ _ _ (meet_early found o S _) λ more. arrive_early more S os

  visit_early : (found : Shapes) (s : Site Act) → Early own (visit M m found s)
  unfolding visit within
  visit_early found s = then _ _ _ (effect_early _ _) λ S. then _ _ _ (arrive_early _ S _) λ more. test _ _ _ _ tt (gives _ _)

  visits_early : (found : Shapes) (l : List (Site Act)) → Early of_refusal (visits M m found l)
  unfolding visits refusal
  visits_early found [] = gives _ _
  visits_early found (s ∷ l) = then _ _ _ (blamed _ _ _ (visit_early found s)) λ more. visits_early more l

  method_early : Early of_refusal (check_method M m)
  unfolding check_method
  method_early = then _ _ _ (decodes _ _ _) λ l. then _ _ _ (finds M m l l) λ k. visits_early _ k

methods_early : (M : Module) (r : ℕ) (ms : List Method) → Early of_fault (check_methods M r ms)
unfolding check_methods fault_in
methods_early M r [] = gives _ _
methods_early M r (m ∷ ms) = then _ _ _ (blamed _ _ _ (method_early M m)) λ found. then _ _ _ (methods_early M (suc r) ms) λ l. gives _ _

checks : (tables code : List ℕ) → Early of_fault (check tables code)
unfolding check check_module fault_in
checks tables code = then _ _ _ (blamed _ _ _ (loads tables code)) λ M. methods_early M 1 M.methods

-- no fault has the number 0
pub fault_numbered : (tables code : List ℕ) (f : Fault) → check tables code ≡ bad f → 1 ≤ f.number
fault_numbered tables code f e = (between f.number (early of_fault _ f (checks tables code) e)).0

-- ---- The run

runs : (tables code arguments : List ℕ) (budget : ℕ) → Early of_refusal (run tables code arguments budget)
unfolding run run_module refusal within
runs tables code arguments budget = then _ _ _ (loads tables code) λ M. seek _ _ _ _ tt λ vs. test _ _ _ _ tt (gives _ _)

pub refusal_numbered : (tables code arguments : List ℕ) (budget : ℕ) (f : Refusal) → run tables code arguments budget ≡ bad f
    → (1 ≤ f.number) × (f.number ≤ 22)
refusal_numbered tables code arguments budget f e = between f.number (early of_refusal _ f (runs tables code arguments budget) e)
