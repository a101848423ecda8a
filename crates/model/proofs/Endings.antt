-- The numbers that operators and steps can end with.
use mathlib.Core.Path.{◌≡◌, subst}
use Prim.Native.Nat.{ℕ, ◌≤◌}
use native.Mathlib.Omega.{arith}
use mathlib.Core.Bool.{Bool, ◌||◌}
use mathlib.Core.Option.{Option, none, some}
use mathlib.Core.List.{List, [], ◌∷◌}
use lib.Dec.{T, leb, leb→le, le→leb}
use mir.Syntax.{Width, w32, w64}
use Rattle.model.specs.Answer.{Answer, bad, ok, ◌>>=◌}
use Rattle.model.specs.Tables.{Ty, Field, Method, Module}
use Rattle.model.specs.Loading.{within}
use Rattle.model.specs.Code.{Number, add, sub, mul, div, Whole, rem, div_un, rem_un, and, or, xor, add_ovf, mul_ovf, sub_ovf, Binary, number, whole}
use Rattle.model.specs.Code.{shift}
use Rattle.model.specs.Code.{compare, Unary, Relation, Jump, always, iftrue, iffalse, when, Plain, nop, pop, dup, ret, ldc, binary, unary, Act}
use Rattle.model.specs.Operators.{Kind, k32, k64, k_f, reference, Meaning, divided, checked, integer, whole_of, meaning, number_of, integers_of, binary_of}
use Rattle.model.specs.State.{Value, Heap, stuck_number, pops, pop1, pop2, room, Frame, Machine}
use Rattle.model.specs.Step.{Outcome, Allocator, move, move_with, push, start_by, starting, do_binary, do_unary, do_test, do_when, do_jump, do_push, do_dup}
use Rattle.model.specs.Step.{popping}
use Rattle.model.specs.Step.{do_starg, do_stloc, do_call, not_null, do_callvirt, do_newobj, return, do_ret, do_cast, do_ldfld, do_stfld, do_ldsfld, do_stsfld}
use Rattle.model.specs.Step.{do_plain}
use Rattle.model.specs.Step.{act, step}
use Rattle.model.proofs.Hoare.{Holds, NotStuck, Stops, stops_ok, stops_bad, stops_bind, stops_guard, stops_need, stops_pick, stops_widen}
use Rattle.model.proofs.Hoare.{only_inv, map_inv, none_some, some_eq, and_l, and_r, and_i, or_l}

-- ---- Operators: 31 to 33

abbrev arithmetic : ℕ → Bool
arithmetic n = within 31 33 n

divided_stops : (w : Width) (f : _) (a b : ℕ) → Stops arithmetic (divided w f a b)
unfolding divided within
divided_stops w f a b = stops_guard _ _ _ _ tt (stops_guard _ _ _ _ tt (stops_ok _ _))

checked_stops : (w : Width) (f : _) (a b : ℕ) → Stops arithmetic (checked w f a b)
unfolding checked within
checked_stops w f a b = stops_guard _ _ _ _ tt (stops_ok _ _)

integer_stops : (w : Width) (o : Number) (a b : ℕ) → Stops arithmetic (integer w o a b)
unfolding integer
integer_stops w add a b = stops_ok _ _
integer_stops w sub a b = stops_ok _ _
integer_stops w mul a b = stops_ok _ _
integer_stops w div a b = divided_stops w _ a b

whole_stops : (o : Whole) (w : Width) (a b : ℕ) → Stops arithmetic (whole_of w o a b)
unfolding whole_of within
whole_stops rem w a b = divided_stops w _ a b
whole_stops div_un w a b = stops_guard _ _ _ _ tt (stops_ok _ _)
whole_stops rem_un w a b = stops_guard _ _ _ _ tt (stops_ok _ _)
whole_stops and w a b = stops_ok _ _
whole_stops or w a b = stops_ok _ _
whole_stops xor w a b = stops_ok _ _
whole_stops add_ovf w a b = checked_stops w _ a b
whole_stops mul_ovf w a b = checked_stops w _ a b
whole_stops sub_ovf w a b = checked_stops w _ a b

meaning_stops : (t : Ty) (f : ℕ → ℕ → Answer ℕ ℕ) (g : Meaning) → meaning t f ≡ some g → ((a b : ℕ) → Stops arithmetic (f a b)) → (a b : ℕ)
    → Stops arithmetic (g.bits_of a b)
unfolding meaning
meaning_stops t f g e h a b = subst (λ (x : Meaning). Stops arithmetic (x.bits_of a b)) (some_eq e) (h a b)

number_stops : (o : Number) (k : Kind) (g : Meaning) → number_of o k ≡ some g → (a b : ℕ) → Stops arithmetic (g.bits_of a b)
unfolding number_of
number_stops o k32 g e = meaning_stops _ _ g e (integer_stops w32 o)
number_stops o k64 g e = meaning_stops _ _ g e (integer_stops w64 o)
number_stops o k_f g e = meaning_stops _ _ g e (λ a b. stops_ok _ _)
number_stops o reference g e = none_some e

integers_stops : (f : Width → ℕ → ℕ → Answer ℕ ℕ) → ((w : Width) (a b : ℕ) → Stops arithmetic (f w a b)) → (k : Kind) (g : Meaning) → integers_of f k ≡ some g
    → (a b : ℕ) → Stops arithmetic (g.bits_of a b)
unfolding integers_of
integers_stops f h k32 g e = meaning_stops _ _ g e (h w32)
integers_stops f h k64 g e = meaning_stops _ _ g e (h w64)
integers_stops f h k_f g e = none_some e
integers_stops f h reference g e = none_some e

binary_stops : (o : Binary) (j k : Kind) (g : Meaning) → binary_of o j k ≡ some g → (a b : ℕ) → Stops arithmetic (g.bits_of a b)
unfolding binary_of
binary_stops (number o) j k g e a b = let (_, q) = only_inv _ _ _ e in number_stops o j g q a b
binary_stops (whole o) j k g e a b = let (_, q) = only_inv _ _ _ e in integers_stops _ (whole_stops o) j g q a b
binary_stops (shift o) j k g e a b = let (_, q) = only_inv _ _ _ e in integers_stops _ (λ w x y. stops_ok _ _) j g q a b
binary_stops (compare r) j k g e a b = let (f, _, q) = map_inv _ _ _ e in subst (λ (x : Meaning). Stops arithmetic (x.bits_of a b)) q (stops_ok _ _)

-- no operator gets stuck
pub binary_calm : (o : Binary) (j k : Kind) (g : Meaning) → binary_of o j k ≡ some g → (a b : ℕ) → Holds (λ _. Unit {0}) (g.bits_of a b)
binary_calm o j k g e a b = by (g.bits_of a b) (binary_stops o j k g e a b)
  where
    by : (m : Answer ℕ ℕ) → Stops arithmetic m → Holds (λ _. Unit {0}) m
    by (bad n) h = unfold Holds NotStuck in (let l : n ≤ 33 = leb→le n 33 (and_r (leb 31 n) (leb n 33) (unfold Stops within in h)) in omega arith)
    by (ok a) h = unfold Holds in tt

-- ---- Steps: 31 to 37, and 41 to 46

abbrev pub step_ends : ℕ → Bool
step_ends n = within 31 37 n || within 41 46 n

operator_ends : (n : ℕ) → T (arithmetic n) → T (step_ends n)
unfolding within
operator_ends n t =
    let low : T (leb 31 n) = and_l (leb 31 n) (leb n 33) t in
    let high : n ≤ 33 = leb→le n 33 (and_r (leb 31 n) (leb n 33) t) in
    or_l (within 31 37 n) (within 41 46 n) (and_i (leb 31 n) (leb n 37) low (le→leb n 37 (omega arith)))

pops_stops : {A : Type 0} (fit : A → Ty → Bool) (ts : List Ty) (s : List A) → Stops step_ends (pops stuck_number fit ts s)
unfolding pops within
pops_stops fit ts s = stops_guard _ _ _ _ tt (stops_guard _ _ _ _ tt (stops_ok _ _))

pop1_stops : {A : Type 0} (s : List A) → Stops step_ends (pop1 stuck_number s)
unfolding pop1 within
pop1_stops [] = stops_bad _ _ _ tt
pop1_stops (a ∷ s) = stops_ok _ _

pop2_stops : {A : Type 0} (s : List A) → Stops step_ends (pop2 stuck_number s)
unfolding pop2 within
pop2_stops [] = stops_bad _ _ _ tt
pop2_stops (b ∷ []) = stops_bad _ _ _ tt
pop2_stops (b ∷ a ∷ s) = stops_ok _ _

room_stops : {A B : Type 0} (m : Method) (n : ℕ) (s : List A) (f : Unit {0} → Answer ℕ B) → Stops step_ends (f tt)
    → Stops step_ends (room stuck_number m n s >>= f)
unfolding room within
room_stops m n s f h = stops_guard _ _ _ _ tt h

not_null_stops : (v : Value) → Stops step_ends (not_null v)
unfolding not_null within
not_null_stops v = stops_guard _ _ _ _ tt (stops_ok _ _)

module _ (M : Module) (s : Machine) where
  move_stops : (o : ℕ) (k : List Value) → Stops step_ends (move s o k)
  unfolding move
  move_stops o k = stops_ok _ _

  move_with_stops : (st : List Value) (marks : List Bool) (h : Heap) (o : ℕ) (k : List Value) → Stops step_ends (move_with s st marks h o k)
  unfolding move_with
  move_with_stops st marks h o k = stops_ok _ _

  push_stops : (marks : List Bool) (h : Heap) (k : List Value) (f : Frame) → Stops step_ends (push s marks h k f)
  unfolding push within
  push_stops marks h k f = stops_guard _ _ _ _ tt (stops_ok _ _)

  start_by_stops : (c : ℕ) (o : Option ℕ) (f : List Bool → Answer ℕ Outcome) → ((marks : List Bool) → Stops step_ends (f marks))
      → Stops step_ends (start_by M s c o f)
  unfolding start_by
  start_by_stops c none f h = h _
  start_by_stops c (some r) f h = push_stops _ _ _ _

  starting_stops : (o : Option ℕ) (f : List Bool → Answer ℕ Outcome) → ((marks : List Bool) → Stops step_ends (f marks)) → Stops step_ends (starting M s o f)
  unfolding starting
  starting_stops none f h = h _
  starting_stops (some c) f h = stops_pick _ _ _ _ (h _) (start_by_stops _ _ f h)

  -- ---- Operators, branches, loads and stores

  do_binary_lem : (o : Binary) (next : ℕ) → Stops step_ends (do_binary s o next)
  unfolding do_binary within
  do_binary_lem o next =
      stops_bind _ _ _ (pop2_stops _) λ p.
      stops_need _ _ _ _ tt λ g e.
      stops_bind _ _ _ (stops_widen _ _ operator_ends _ (binary_stops o _ _ g e _ _)) λ n.
      move_stops _ _

  do_unary_lem : (o : Unary) (next : ℕ) → Stops step_ends (do_unary s o next)
  unfolding do_unary within
  do_unary_lem o next = stops_bind _ _ _ (pop1_stops _) λ p. stops_need _ _ _ _ tt λ g e. move_stops _ _

  do_test_lem : (zero other : ℕ) → Stops step_ends (do_test s zero other)
  unfolding do_test within
  do_test_lem z o = stops_bind _ _ _ (pop1_stops _) λ p. stops_guard _ _ _ _ tt (move_stops _ _)

  do_when_lem : (r : Relation) (target next : ℕ) → Stops step_ends (do_when s r target next)
  unfolding do_when within
  do_when_lem r target next = stops_bind _ _ _ (pop2_stops _) λ p. stops_need _ _ _ _ tt λ h e. move_stops _ _

  do_jump_lem : (j : Jump) (target next : ℕ) → Stops step_ends (do_jump s j target next)
  unfolding do_jump
  do_jump_lem always target next = move_stops _ _
  do_jump_lem iftrue target next = do_test_lem _ _
  do_jump_lem iffalse target next = do_test_lem _ _
  do_jump_lem (when r) target next = do_when_lem r target next

  do_push_lem : (m : Method) (v : Value) (next : ℕ) → Stops step_ends (do_push s m v next)
  unfolding do_push
  do_push_lem m v next = room_stops m 1 _ _ (move_stops _ _)

  popping_stops : (t : Ty) (f : Value → List Value → Answer ℕ Outcome) → ((v : Value) (k : List Value) → Stops step_ends (f v k))
      → Stops step_ends (popping M s t f)
  unfolding popping
  popping_stops t f h = stops_bind _ _ _ (pops_stops _ _ _) λ p. h _ _

  do_starg_lem : (i : ℕ) (t : Ty) (next : ℕ) → Stops step_ends (do_starg M s i t next)
  unfolding do_starg
  do_starg_lem i t next = popping_stops t _ λ v k. stops_ok _ _

  do_stloc_lem : (i : ℕ) (t : Ty) (next : ℕ) → Stops step_ends (do_stloc M s i t next)
  unfolding do_stloc
  do_stloc_lem i t next = popping_stops t _ λ v k. stops_ok _ _

  do_cast_lem : (c : ℕ) (miss : Answer ℕ Value) (next : ℕ) → Stops step_ends miss → Stops step_ends (do_cast M s c miss next)
  unfolding do_cast within
  do_cast_lem c miss next h =
      stops_bind _ _ _ (pop1_stops _) λ p.
      stops_guard _ _ _ _ tt (stops_bind _ _ _ (stops_pick _ _ _ _ (stops_ok _ _) h) λ v. move_stops _ _)

  -- ---- Calls and returns

  do_call_lem : (m : Method) (r : ℕ) (k : Method) → Stops step_ends (do_call M s m r k)
  unfolding do_call
  do_call_lem m r k = stops_bind _ _ _ (pops_stops _ _ _) λ p. room_stops m _ _ _ (starting_stops _ _ λ marks. push_stops _ _ _ _)

  do_callvirt_lem : (m : Method) (r : ℕ) (k : Method) → Stops step_ends (do_callvirt M s m r k)
  unfolding do_callvirt
  do_callvirt_lem m r k =
      stops_bind _ _ _ (pops_stops _ _ _) λ p.
      room_stops m _ _ _ (stops_bind _ _ _ (not_null_stops _) λ n. starting_stops _ _ λ marks. push_stops _ _ _ _)

  do_newobj_lem : (new : Allocator) (m : Method) (r : ℕ) (k : Method) → Stops step_ends (do_newobj new M s m r k)
  unfolding do_newobj within
  do_newobj_lem new m r k =
      stops_bind _ _ _ (pops_stops _ _ _) λ p.
      room_stops m _ _ _ (starting_stops _ _ λ marks. stops_need _ _ _ _ tt λ o e. push_stops _ _ _ _)

  return_stops : (m : Method) (vs : List Value) (fs : List Frame) → Stops step_ends (return s m vs fs)
  unfolding return
  return_stops m vs [] = stops_ok _ _
  return_stops m vs (f ∷ fs) = stops_ok _ _

  do_ret_lem : (m : Method) → Stops step_ends (do_ret M s m)
  unfolding do_ret within
  do_ret_lem m = stops_bind _ _ _ (pops_stops _ _ _) λ p. stops_guard _ _ _ _ tt (return_stops m _ _)

  -- ---- Fields

  do_ldfld_lem : (r : ℕ) (d : Field) (next : ℕ) → Stops step_ends (do_ldfld M s r d next)
  unfolding do_ldfld
  do_ldfld_lem r d next =
      stops_bind _ _ _ (pops_stops _ _ _) λ p.
      starting_stops _ _ λ marks. stops_bind _ _ _ (not_null_stops _) λ n. move_with_stops _ _ _ _ _

  do_stfld_lem : (r : ℕ) (d : Field) (next : ℕ) → Stops step_ends (do_stfld M s r d next)
  unfolding do_stfld
  do_stfld_lem r d next =
      stops_bind _ _ _ (pops_stops _ _ _) λ p.
      starting_stops _ _ λ marks. stops_bind _ _ _ (not_null_stops _) λ n. move_with_stops _ _ _ _ _

  do_ldsfld_lem : (m : Method) (r : ℕ) (d : Field) (next : ℕ) → Stops step_ends (do_ldsfld M s m r d next)
  unfolding do_ldsfld
  do_ldsfld_lem m r d next = room_stops m 1 _ _ (starting_stops _ _ λ marks. move_with_stops _ _ _ _ _)

  do_stsfld_lem : (r : ℕ) (d : Field) (next : ℕ) → Stops step_ends (do_stsfld M s r d next)
  unfolding do_stsfld
  do_stsfld_lem r d next = popping_stops _ _ λ v k. starting_stops _ _ λ marks. move_with_stops _ _ _ _ _

  -- ---- Any instruction

  do_plain_lem : (m : Method) (p : Plain) (next : ℕ) → Stops step_ends (do_plain M s m p next)
  unfolding do_plain do_dup
  do_plain_lem m nop next = move_stops _ _
  do_plain_lem m pop next = stops_bind _ _ _ (pop1_stops _) λ p. move_stops _ _
  do_plain_lem m dup next = stops_bind _ _ _ (pop1_stops _) λ p. do_push_lem m _ next
  do_plain_lem m ret next = do_ret_lem m
  do_plain_lem m (ldc t n) next = do_push_lem m _ next
  do_plain_lem m (binary o) next = do_binary_lem o next
  do_plain_lem m (unary o) next = do_unary_lem o next

  act_stops : (new : Allocator) (m : Method) (a : Act) (next : ℕ) → Stops step_ends (act new M s m a next)
  unfolding act within
  act_stops new m (Act.plain p) next = do_plain_lem m p next
  act_stops new m (Act.ldarg i t) next = do_push_lem m _ next
  act_stops new m (Act.starg i t) next = do_starg_lem i t next
  act_stops new m (Act.ldloc i t) next = do_push_lem m _ next
  act_stops new m (Act.stloc i t) next = do_stloc_lem i t next
  act_stops new m (Act.jump j target) next = do_jump_lem j target next
  act_stops new m (Act.call r k) next = do_call_lem m r k
  act_stops new m (Act.callvirt r k) next = do_callvirt_lem m r k
  act_stops new m (Act.newobj r k) next = do_newobj_lem new m r k
  act_stops new m (Act.castclass c) next = do_cast_lem c _ next (stops_bad _ _ _ tt)
  act_stops new m (Act.isinst c) next = do_cast_lem c _ next (stops_ok _ _)
  act_stops new m (Act.ldfld r d) next = do_ldfld_lem r d next
  act_stops new m (Act.stfld r d) next = do_stfld_lem r d next
  act_stops new m (Act.ldsfld r d) next = do_ldsfld_lem m r d next
  act_stops new m (Act.stsfld r d) next = do_stsfld_lem r d next

  pub step_stops : (new : Allocator) → Stops step_ends (step new M s)
  unfolding step within
  step_stops new = stops_guard _ _ _ _ tt (stops_need _ _ _ _ tt λ d e. stops_need _ _ _ _ tt λ a q. act_stops new _ a _)
