-- Every instruction is checked as the one that stands for its group.
use Prim.Native.Nat.{ℕ, zero, suc, ◌+◌, ◌-◌, ◌≤◌, ◌<◌}
use mathlib.Core.Path.{◌≡◌, refl, sym, ◌∙◌, subst}
use mathlib.Core.Bool.{Bool, true, false, not}
use mathlib.Core.Option.{Option, none, some}
use mathlib.Core.List.{List, [], ◌∷◌}
use native.Mathlib.Omega.{arith}
use borrow.Author.Tests.{lt-ltb, le-ltb, ne_eqb, ltb-true, ltb-false, eqb-true}
use lib.Dec.{T, ltb, eqb, eqb→eq, ltb→lt}
use mir.Syntax.{Width}
use lib.ListN.{length, get_or}
use Rattle.model.specs.Answer.{Answer, ok, ◌>>=◌, need, pick, only_if, or_else, map_option, row, at}
use Rattle.model.specs.Tables.{int32, Sort, Field, Method, Module, arguments}
use Rattle.model.specs.Code.{Plain, nop, pop, dup, ret, ldc, binary, unary, Binary, number, Number, add, whole, rem, shift, shl, compare, Relation, eq, ne}
use Rattle.model.specs.Code.{lt, le, gt, ge, lt_un, le_un, gt_un, ge_un, Jump, always, iftrue, iffalse, when, Ins, plain, ldarg, starg, ldloc, stloc, jump}
use Rattle.model.specs.Code.{call, callvirt, newobj, castclass, isinst, ldfld, stfld, ldsfld, stsfld, Act, and_then, row_of, class_of, field_of, method_of}
use Rattle.model.specs.Code.{callable, dispatched, constructs, operands, Form, Kept, ◌is◌, op, un, const, i4_s, i4, i8, r8, branches, loads, operators}
use Rattle.model.specs.Code.{objects, instructions, after_fE, form_of}
use Rattle.model.specs.Operators.{flag, Meaning, whole_of, shifted, Kind, k32, k64, k_f, reference, kind, same, number_of, integers_of, meaning, binary_of}
use Rattle.model.specs.Operators.{comparison, relation_of, relates_ref}
use Rattle.model.specs.State.{pop2, wrong_type, check_number}
use Rattle.model.specs.Check.{Shape, plain_effect, jump_effect, effect, plain_falls, jump_falls, falls, targets}
use Rattle.code.specs.Insn.{with_operand, form_by, ins_of}
use Rattle.code.specs.declared.insn.Insn.{Insn}
use Rattle.code.proofs.Table.{under, both, both_left, both_right}
use Rattle.check_operands.specs.Groups.{groups, group_of, jump_by, target_by, in_opcode, call_by, field_by, plain_by, ins_by, unary_by}

-- ---- The instruction that stands for others

unfoldable pub relation_for : Relation → Relation
relation_for eq = eq
relation_for ne = eq
relation_for lt = lt
relation_for le = lt
relation_for gt = lt
relation_for ge = lt
relation_for lt_un = lt
relation_for le_un = lt
relation_for gt_un = lt
relation_for ge_un = lt

unfoldable pub binary_for : Binary → Binary
binary_for (number o) = number add
binary_for (whole o) = whole rem
binary_for (shift o) = shift shl
binary_for (compare r) = compare (relation_for r)

unfoldable pub plain_for : Plain → Plain
plain_for nop = nop
plain_for pop = pop
plain_for dup = dup
plain_for ret = ret
plain_for (ldc t n) = ldc t 0
plain_for (binary o) = binary (binary_for o)
plain_for (unary o) = unary o

unfoldable pub jump_for : Jump → Jump
jump_for always = always
jump_for iftrue = iftrue
jump_for iffalse = iftrue
jump_for (when r) = when (relation_for r)

unfoldable pub ins_for : Ins → Ins
ins_for (plain p) = plain (plain_for p)
ins_for (ldarg i) = ldarg i
ins_for (starg i) = starg i
ins_for (ldloc i) = ldloc i
ins_for (stloc i) = stloc i
ins_for (jump j t) = jump (jump_for j) t
ins_for (call t) = call t
ins_for (callvirt t) = callvirt t
ins_for (newobj t) = newobj t
ins_for (castclass t) = castclass t
ins_for (isinst t) = castclass t
ins_for (ldfld t) = ldfld t
ins_for (stfld t) = stfld t
ins_for (ldsfld t) = ldsfld t
ins_for (stsfld t) = stsfld t

unfoldable pub act_for : Act → Act
act_for (Act.plain p) = Act.plain (plain_for p)
act_for (Act.ldarg i t) = Act.ldarg i t
act_for (Act.starg i t) = Act.starg i t
act_for (Act.ldloc i t) = Act.ldloc i t
act_for (Act.stloc i t) = Act.stloc i t
act_for (Act.jump j o) = Act.jump (jump_for j) o
act_for (Act.call r k) = Act.call r k
act_for (Act.callvirt r k) = Act.callvirt r k
act_for (Act.newobj r k) = Act.newobj r k
act_for (Act.castclass c) = Act.castclass c
act_for (Act.isinst c) = Act.castclass c
act_for (Act.ldfld r d) = Act.ldfld r d
act_for (Act.stfld r d) = Act.stfld r d
act_for (Act.ldsfld r d) = Act.ldsfld r d
act_for (Act.stsfld r d) = Act.stsfld r d

-- ---- Its operands, effect and arrivals are the same

map_same : {A : Type 0} (h g : A → Act) (o : Option A) → ((a : A) → act_for (h a) ≡ g a) → map_option act_for (map_option h o) ≡ map_option g o
unfolding map_option
map_same h g none e = refl
map_same h g (some a) e = rw (e a) refl

then_same : {A : Type 0} (o : Option A) (f g : A → Option Act) → ((a : A) → map_option act_for (f a) ≡ g a) → map_option act_for (and_then o f) ≡ and_then o g
unfolding map_option and_then
then_same none f g e = refl
then_same (some a) f g e = e a

only_same : (b : Bool) (a c : Act) → act_for a ≡ c → map_option act_for (only_if b (some a)) ≡ only_if b (some c)
unfolding map_option only_if
only_same true a c e = rw e refl
only_same false a c e = refl

method_same : (M : Module) (p : Sort → Bool) (f : ℕ → Method → Act) (t : ℕ) → ((r : ℕ) (k : Method) → act_for (f r k) ≡ f r k)
    → map_option act_for (method_of M p f t) ≡ method_of M p f t
unfolding method_of
method_same M p f t e =
    then_same (row_of 6 t) (λ r. and_then (row M.methods r) (λ k. only_if (p k.sort) (some (f r k))))
    (λ r. and_then (row M.methods r) (λ k. only_if (p k.sort) (some (f r k))))
    (λ r. then_same (row M.methods r) (λ k. only_if (p k.sort) (some (f r k))) (λ k. only_if (p k.sort) (some (f r k)))
    (λ k. only_same (p k.sort) (f r k) (f r k) (e r k)))

field_same : (M : Module) (s : Bool) (f : ℕ → Field → Act) (t : ℕ) → ((r : ℕ) (d : Field) → act_for (f r d) ≡ f r d)
    → map_option act_for (field_of M s f t) ≡ field_of M s f t
unfolding field_of
field_same M s f t e =
    then_same (row_of 4 t) (λ r. and_then (row M.fields r) (λ d. only_if (pick s d.is_static (not d.is_static)) (some (f r d))))
    (λ r. and_then (row M.fields r) (λ d. only_if (pick s d.is_static (not d.is_static)) (some (f r d))))
    (λ r. then_same (row M.fields r) (λ d. only_if (pick s d.is_static (not d.is_static)) (some (f r d)))
    (λ d. only_if (pick s d.is_static (not d.is_static)) (some (f r d)))
    (λ d. only_same (pick s d.is_static (not d.is_static)) (f r d) (f r d) (e r d)))

pub operands_for : (M : Module) (m : Method) (i : Ins) → operands M m (ins_for i) ≡ map_option act_for (operands M m i)
unfolding operands ins_for act_for map_option
operands_for M m (plain p) = refl
operands_for M m (ldarg i) = sym (map_same (Act.ldarg i) (Act.ldarg i) (at (arguments m) i) (λ a. refl))
operands_for M m (starg i) = sym (map_same (Act.starg i) (Act.starg i) (at (arguments m) i) (λ a. refl))
operands_for M m (ldloc i) = sym (map_same (Act.ldloc i) (Act.ldloc i) (at m.locals i) (λ a. refl))
operands_for M m (stloc i) = sym (map_same (Act.stloc i) (Act.stloc i) (at m.locals i) (λ a. refl))
operands_for M m (jump j t) =
    sym (then_same t (λ o. only_if (ltb o (length m.code)) (some (Act.jump j o)))
    (λ o. only_if (ltb o (length m.code)) (some (Act.jump (jump_for j) o)))
    (λ o. only_same (ltb o (length m.code)) (Act.jump j o) (Act.jump (jump_for j) o) refl))
operands_for M m (call t) = sym (method_same M callable Act.call t (λ r k. refl))
operands_for M m (callvirt t) = sym (method_same M dispatched Act.callvirt t (λ r k. refl))
operands_for M m (newobj t) = sym (method_same M constructs Act.newobj t (λ r k. refl))
operands_for M m (castclass t) = sym (map_same Act.castclass Act.castclass (class_of M t) (λ a. refl))
operands_for M m (isinst t) = sym (map_same Act.isinst Act.castclass (class_of M t) (λ a. refl))
operands_for M m (ldfld t) = sym (field_same M false Act.ldfld t (λ r d. refl))
operands_for M m (stfld t) = sym (field_same M false Act.stfld t (λ r d. refl))
operands_for M m (ldsfld t) = sym (field_same M true Act.ldsfld t (λ r d. refl))
operands_for M m (stsfld t) = sym (field_same M true Act.stsfld t (λ r d. refl))

-- whether a comparison takes a kind
kind_for : (r : Relation) (k : Kind) (t : Bool) (R : Shape) → (need (only_if t (relation_of (relation_for r) k)) (check_number wrong_type) >>= λ _. ok R)
    ≡ (need (only_if t (relation_of r k)) (check_number wrong_type) >>= λ _. ok R)
unfolding need only_if relation_of relates_ref relation_for ◌>>=◌
kind_for r k32 true R = refl
kind_for r k64 true R = refl
kind_for r k_f true R = refl
kind_for eq reference true R = refl
kind_for ne reference true R = refl
kind_for lt reference true R = refl
kind_for le reference true R = refl
kind_for gt reference true R = refl
kind_for ge reference true R = refl
kind_for lt_un reference true R = refl
kind_for le_un reference true R = refl
kind_for gt_un reference true R = refl
kind_for ge_un reference true R = refl
kind_for r k false R = refl

number_for : (o : Number) (k : Kind) (t : Bool) (R : Shape) → (need (only_if t (number_of add k)) (check_number wrong_type) >>= λ g. ok (g.gives ∷ R))
    ≡ (need (only_if t (number_of o k)) (check_number wrong_type) >>= λ g. ok (g.gives ∷ R))
unfolding need only_if number_of meaning ◌>>=◌
number_for o k32 true R = refl
number_for o k64 true R = refl
number_for o k_f true R = refl
number_for o reference true R = refl
number_for o k false R = refl

integer_for : (f h : Width → ℕ → ℕ → Answer ℕ ℕ) (k : Kind) (t : Bool) (R : Shape)
    → (need (only_if t (integers_of f k)) (check_number wrong_type) >>= λ g. ok (g.gives ∷ R))
    ≡ (need (only_if t (integers_of h k)) (check_number wrong_type) >>= λ g. ok (g.gives ∷ R))
unfolding need only_if integers_of meaning ◌>>=◌
integer_for f h k32 true R = refl
integer_for f h k64 true R = refl
integer_for f h k_f true R = refl
integer_for f h reference true R = refl
integer_for f h k false R = refl

flagged_for : (o : Option (ℕ → ℕ → Bool)) (R : Shape) → (need (map_option (λ f. record { gives = int32; bits_of = λ x y. ok (flag (f x y)) }) o)
    (check_number wrong_type) >>= λ (g : Meaning). ok (g.gives ∷ R)) ≡ (need o (check_number wrong_type) >>= λ _. ok (int32 ∷ R))
unfolding need map_option ◌>>=◌
flagged_for none R = refl
flagged_for (some f) R = refl

binary_for_lem : (o : Binary) (a b : Kind) (R : Shape) → (need (binary_of (binary_for o) a b) (check_number wrong_type) >>= λ g. ok (g.gives ∷ R))
    ≡ (need (binary_of o a b) (check_number wrong_type) >>= λ g. ok (g.gives ∷ R))
unfolding binary_of binary_for comparison
binary_for_lem (number o) a b R = number_for o a (same a b) R
binary_for_lem (whole o) a b R = integer_for (λ w. whole_of w rem) (λ w. whole_of w o) a (same a b) R
binary_for_lem (shift o) a b R = integer_for (λ w x n. ok (shifted w shl x n)) (λ w x n. ok (shifted w o x n)) a (same b k32) R
binary_for_lem (compare r) a b R =
    flagged_for (only_if (same a b) (relation_of (relation_for r) a)) R
    ∙ (kind_for r a (same a b) (int32 ∷ R) ∙ sym (flagged_for (only_if (same a b) (relation_of r a)) R))

plain_for_lem : (M : Module) (m : Method) (p : Plain) (S : Shape) → plain_effect M m (plain_for p) S ≡ plain_effect M m p S
unfolding plain_effect plain_for pop2 ◌>>=◌
plain_for_lem M m nop S = refl
plain_for_lem M m pop S = refl
plain_for_lem M m dup S = refl
plain_for_lem M m ret S = refl
plain_for_lem M m (ldc t n) S = refl
plain_for_lem M m (binary o) [] = refl
plain_for_lem M m (binary o) (b ∷ []) = refl
plain_for_lem M m (binary o) (b ∷ a ∷ S) = binary_for_lem o (kind a) (kind b) S
plain_for_lem M m (unary o) S = refl

jump_for_lem : (j : Jump) (S : Shape) → jump_effect (jump_for j) S ≡ jump_effect j S
unfolding jump_effect jump_for pop2 comparison ◌>>=◌
jump_for_lem always S = refl
jump_for_lem iftrue S = refl
jump_for_lem iffalse S = refl
jump_for_lem (when r) [] = refl
jump_for_lem (when r) (b ∷ []) = refl
jump_for_lem (when r) (b ∷ a ∷ S) = kind_for r (kind a) (same (kind a) (kind b)) S

pub effect_for : (M : Module) (m : Method) (a : Act) (S : Shape) → effect M m (act_for a) S ≡ effect M m a S
unfolding effect act_for
effect_for M m (Act.plain p) S = plain_for_lem M m p S
effect_for M m (Act.ldarg i t) S = refl
effect_for M m (Act.starg i t) S = refl
effect_for M m (Act.ldloc i t) S = refl
effect_for M m (Act.stloc i t) S = refl
effect_for M m (Act.jump j o) S = jump_for_lem j S
effect_for M m (Act.call r k) S = refl
effect_for M m (Act.callvirt r k) S = refl
effect_for M m (Act.newobj r k) S = refl
effect_for M m (Act.castclass c) S = refl
effect_for M m (Act.isinst c) S = refl
effect_for M m (Act.ldfld r d) S = refl
effect_for M m (Act.stfld r d) S = refl
effect_for M m (Act.ldsfld r d) S = refl
effect_for M m (Act.stsfld r d) S = refl

plain_falls_for : (p : Plain) → plain_falls (plain_for p) ≡ plain_falls p
unfolding plain_falls plain_for
plain_falls_for nop = refl
plain_falls_for pop = refl
plain_falls_for dup = refl
plain_falls_for ret = refl
plain_falls_for (ldc t n) = refl
plain_falls_for (binary o) = refl
plain_falls_for (unary o) = refl

jump_falls_for : (j : Jump) → jump_falls (jump_for j) ≡ jump_falls j
unfolding jump_falls jump_for
jump_falls_for always = refl
jump_falls_for iftrue = refl
jump_falls_for iffalse = refl
jump_falls_for (when r) = refl

pub falls_for : (a : Act) → falls (act_for a) ≡ falls a
unfolding falls act_for
falls_for (Act.plain p) = plain_falls_for p
falls_for (Act.ldarg i t) = refl
falls_for (Act.starg i t) = refl
falls_for (Act.ldloc i t) = refl
falls_for (Act.stloc i t) = refl
falls_for (Act.jump j o) = jump_falls_for j
falls_for (Act.call r k) = refl
falls_for (Act.callvirt r k) = refl
falls_for (Act.newobj r k) = refl
falls_for (Act.castclass c) = refl
falls_for (Act.isinst c) = refl
falls_for (Act.ldfld r d) = refl
falls_for (Act.stfld r d) = refl
falls_for (Act.ldsfld r d) = refl
falls_for (Act.stsfld r d) = refl

pub targets_for : (a : Act) → targets (act_for a) ≡ targets a
unfolding targets act_for
targets_for (Act.plain p) = refl
targets_for (Act.ldarg i t) = refl
targets_for (Act.starg i t) = refl
targets_for (Act.ldloc i t) = refl
targets_for (Act.stloc i t) = refl
targets_for (Act.jump j o) = refl
targets_for (Act.call r k) = refl
targets_for (Act.callvirt r k) = refl
targets_for (Act.newobj r k) = refl
targets_for (Act.castclass c) = refl
targets_for (Act.isinst c) = refl
targets_for (Act.ldfld r d) = refl
targets_for (Act.stfld r d) = refl
targets_for (Act.ldsfld r d) = refl
targets_for (Act.stsfld r d) = refl

-- ---- The table of groups

-- an opcode's form is its group's
Grouped : ℕ → ℕ → Kept → Type 0
Grouped n next k = ins_for (with_operand n next k.form) ≡ ins_by (get_or groups k.opcode 0) k.opcode n next

AllGrouped : ℕ → ℕ → List Kept → Type 0
AllGrouped n next [] = Unit {0}
AllGrouped n next (k ∷ ks) = Grouped n next k × AllGrouped n next ks

ins_of_form : ℕ → ℕ → Option Form → Ins
ins_of_form n next o = or_else (map_option (with_operand n next) o) (plain nop)

-- an opcode that is not kept is in no group
nothing : Option Form → ℕ → Bool
nothing none g = eqb g 0
nothing (some f) g = true

in_group : (n next : ℕ) (ks : List Kept) → AllGrouped n next ks → (b : ℕ) → T (nothing (form_of ks b) (get_or groups b 0))
    → ins_for (ins_of_form n next (form_of ks b)) ≡ ins_by (get_or groups b 0) b n next
unfolding AllGrouped Grouped form_of ins_of_form nothing or_else map_option pick ins_for ins_by plain_by plain_for
in_group n next [] a b t = rw (eqb→eq (get_or groups b 0) 0 t) refl
in_group n next (k ∷ ks) a b t = by (eqb k.opcode b) refl t (in_group n next ks a.1 b)
  where
    by : (c : Bool) → eqb k.opcode b ≡ c → T (nothing (pick c (some k.form) (form_of ks b)) (get_or groups b 0))
        → (T (nothing (form_of ks b) (get_or groups b 0)) → ins_for (ins_of_form n next (form_of ks b)) ≡ ins_by (get_or groups b 0) b n next)
        → ins_for (ins_of_form n next (pick c (some k.form) (form_of ks b))) ≡ ins_by (get_or groups b 0) b n next
    by true e t h = subst (λ (x : ℕ). ins_for (with_operand n next k.form) ≡ ins_by (get_or groups x 0) x n next) (eqb-true k.opcode b e) a.0
    by false e t h = h t

kept_groups : (n next : ℕ) → AllGrouped n next instructions
unfolding AllGrouped Grouped instructions loads branches operators objects ◌is◌ op un const i4_s i4 i8 r8 with_operand ins_for plain_for binary_for relation_for jump_for ins_by plain_by call_by field_by jump_by target_by in_opcode groups pick unary_by
kept_groups n next = (
  refl,
  (
    refl,
    (
      refl,
      (
        refl,
        (
          refl,
          (
            refl,
            (
              refl,
              (
                refl,
                (
                  refl,
                  (
                    refl,
                    (
                      refl,
                      (
                        refl,
                        (
                          refl,
                          (
                            refl,
                            (
                              refl,
                              (
                                refl,
                                (
                                  refl,
                                  (
                                    refl,
                                    (
                                      refl,
                                      (
                                        refl,
                                        (
                                          refl,
                                          (
                                            refl,
                                            (
                                              refl,
                                              (
                                                refl,
                                                (
                                                  refl,
                                                  (
                                                    refl,
                                                    (
                                                      refl,
                                                      (
                                                        refl,
                                                        (
                                                          refl,
                                                          (
                                                            refl,
                                                            (
                                                              refl,
                                                              (
                                                                refl,
                                                                (
                                                                  refl,
                                                                  (
                                                                    refl,
                                                                    (
                                                                      refl,
                                                                      (
                                                                        refl,
                                                                        (
                                                                          refl,
                                                                          (
                                                                            refl,
                                                                            (
                                                                              refl,
                                                                              (
                                                                                refl,
                                                                                (
                                                                                  refl,
                                                                                  (
                                                                                    refl,
                                                                                    (
                                                                                      refl,
                                                                                      (
                                                                                        refl,
                                                                                        (
                                                                                          refl,
                                                                                          (
                                                                                            refl,
                                                                                            (
                                                                                              refl,
                                                                                              (
                                                                                                refl,
                                                                                                (
                                                                                                  refl,
                                                                                                  (
                                                                                                    refl,
                                                                                                    (
                                                                                                      refl,
                                                                                                      (
                                                                                                        refl,
                                                                                                        (
                                                                                                          refl,
                                                                                                          (
                                                                                                            refl,
                                                                                                            (
                                                                                                              refl,
                                                                                                              (
                                                                                                                refl,
                                                                                                                (
                                                                                                                  refl,
                                                                                                                  (
                                                                                                                    refl,
                                                                                                                    (
                                                                                                                      refl,
                                                                                                                      (
                                                                                                                        refl,
                                                                                                                        (
                                                                                                                          refl,
                                                                                                                          (
                                                                                                                            refl,
                                                                                                                            (
                                                                                                                              refl,
                                                                                                                              (
                                                                                                                                refl,
                                                                                                                                (
                                                                                                                                  refl,
                                                                                                                                  (
                                                                                                                                    refl,
                                                                                                                                    (
                                                                                                                                      refl,
                                                                                                                                      (
                                                                                                                                        refl,
                                                                                                                                        (
                                                                                                                                          refl,
                                                                                                                                          (
                                                                                                                                            refl,
                                                                                                                                            (
                                                                                                                                              refl,
                                                                                                                                              (
                                                                                                                                                refl,
                                                                                                                                                (
                                                                                                                                                  refl,
                                                                                                                                                  (
                                                                                                                                                    refl,
                                                                                                                                                    (
                                                                                                                                                      refl,
                                                                                                                                                      (
                                                                                                                                                        refl,
                                                                                                                                                        (
                                                                                                                                                          refl,
                                                                                                                                                          (
                                                                                                                                                            refl,
                                                                                                                                                            (
                                                                                                                                                              refl,
                                                                                                                                                              (
                                                                                                                                                                refl,
                                                                                                                                                                (refl, (refl, (refl, (refl, (refl, (refl, (refl, (refl, (refl, (refl, (refl, (refl, tt)))))))))))),
                                                                                                                                                              ),
                                                                                                                                                            ),
                                                                                                                                                          ),
                                                                                                                                                        ),
                                                                                                                                                      ),
                                                                                                                                                    ),
                                                                                                                                                  ),
                                                                                                                                                ),
                                                                                                                                              ),
                                                                                                                                            ),
                                                                                                                                          ),
                                                                                                                                        ),
                                                                                                                                      ),
                                                                                                                                    ),
                                                                                                                                  ),
                                                                                                                                ),
                                                                                                                              ),
                                                                                                                            ),
                                                                                                                          ),
                                                                                                                        ),
                                                                                                                      ),
                                                                                                                    ),
                                                                                                                  ),
                                                                                                                ),
                                                                                                              ),
                                                                                                            ),
                                                                                                          ),
                                                                                                        ),
                                                                                                      ),
                                                                                                    ),
                                                                                                  ),
                                                                                                ),
                                                                                              ),
                                                                                            ),
                                                                                          ),
                                                                                        ),
                                                                                      ),
                                                                                    ),
                                                                                  ),
                                                                                ),
                                                                              ),
                                                                            ),
                                                                          ),
                                                                        ),
                                                                      ),
                                                                    ),
                                                                  ),
                                                                ),
                                                              ),
                                                            ),
                                                          ),
                                                        ),
                                                      ),
                                                    ),
                                                  ),
                                                ),
                                              ),
                                            ),
                                          ),
                                        ),
                                      ),
                                    ),
                                  ),
                                ),
                              ),
                            ),
                          ),
                        ),
                      ),
                    ),
                  ),
                ),
              ),
            ),
          ),
        ),
      ),
    ),
  ),
)

-- the rest of the table
rest_right : ℕ → Bool
rest_right b = nothing (form_of instructions b) (get_or groups b 0)

rests : (b : ℕ) → b < 256 → T (rest_right b)
unfolding rest_right nothing form_of instructions loads branches operators objects ◌is◌ op un const pick groups
rests b h = under rest_right 256 tt b h

-- ---- Opcodes above a byte

low : List Kept → Bool
low [] = true
low (k ∷ ks) = both (ltb k.opcode 256) (low ks)

high_none : (ks : List Kept) → T (low ks) → (b : ℕ) → 256 ≤ b → form_of ks b ≡ none
unfolding low form_of pick
high_none [] t b h = refl
high_none (k ∷ ks) t b h =
    let l : k.opcode < 256 = ltb→lt k.opcode 256 (both_left (ltb k.opcode 256) (low ks) t) in
    rw (ne_eqb k.opcode b (λ e. absurd (omega arith))) (high_none ks (both_right (ltb k.opcode 256) (low ks) t) b h)

no_high : (b : ℕ) → 256 ≤ b → form_of instructions b ≡ none
unfolding low instructions loads branches operators objects ◌is◌ op un const
no_high b h = high_none instructions tt b h

-- the instruction read is checked as its group's
pub group_law : (i : Insn) → ins_for (ins_of i) ≡ ins_by (group_of i.op) i.op i.operand i.next
unfolding ins_of ins_of_form form_by group_of pick or_else map_option form_of after_fE ◌is◌ op with_operand ins_for plain_for binary_for relation_for ins_by plain_by nothing rest_right
group_law i = by (ltb i.op 256) refl
  where
    o : ℕ
    o = i.op

    n : ℕ
    n = i.operand

    x : ℕ
    x = i.next

    far : (d : ℕ) → o ≡ 0xFE00 + d → ins_for (ins_of_form n x (form_of after_fE d)) ≡ ins_by
        (pick (eqb o 0xFE01) 18 (pick (ltb o 0xFE02) 0 (pick (ltb o 0xFE06) 24 0))) o n x
    far zero e = rw e refl
    far (suc zero) e = rw e refl
    far (suc (suc zero)) e = rw e refl
    far (suc (suc (suc zero))) e = rw e refl
    far (suc (suc (suc (suc zero)))) e = rw e refl
    far (suc (suc (suc (suc (suc zero))))) e = rw e refl
    far (suc (suc (suc (suc (suc (suc d)))))) e =
        rw (
          ne_eqb 1 (suc (suc (suc (suc (suc (suc d)))))) (λ z. absurd (omega arith)),
          ne_eqb 2 (suc (suc (suc (suc (suc (suc d)))))) (λ z. absurd (omega arith)),
          ne_eqb 3 (suc (suc (suc (suc (suc (suc d)))))) (λ z. absurd (omega arith)),
          ne_eqb 4 (suc (suc (suc (suc (suc (suc d)))))) (λ z. absurd (omega arith)),
          ne_eqb 5 (suc (suc (suc (suc (suc (suc d)))))) (λ z. absurd (omega arith)),
          ne_eqb o 0xFE01 (λ z. absurd (omega arith)),
          le-ltb o 0xFE02 (omega arith),
          le-ltb o 0xFE06 (omega arith),
        ) refl

    above : (c : Bool) → ltb o 0xFE00 ≡ c → 256 ≤ o → ins_for (ins_of_form n x (pick c (form_of instructions o) (form_of after_fE (o - 0xFE00)))) ≡ ins_by
        (pick (eqb o 0xFE01) 18 (pick (ltb o 0xFE02) 0 (pick (ltb o 0xFE06) 24 0))) o n x
    above true e h =
        let l : o < 0xFE00 = ltb-true o 0xFE00 e in
        rw (no_high o h, ne_eqb o 0xFE01 (λ z. absurd (omega arith)), lt-ltb o 0xFE02 (omega arith)) refl
    above false e h =
        let l : 0xFE00 ≤ o = ltb-false o 0xFE00 e in
        far (o - 0xFE00) (omega arith)

    by : (c : Bool) → ltb o 256 ≡ c → ins_for (ins_of_form n x (pick (ltb o 0xFE00) (form_of instructions o) (form_of after_fE (o - 0xFE00)))) ≡ ins_by
        (pick c (get_or groups o 0) (pick (eqb o 0xFE01) 18 (pick (ltb o 0xFE02) 0 (pick (ltb o 0xFE06) 24 0)))) o n x
    by true e =
        let l : o < 256 = ltb-true o 256 e in
        rw (lt-ltb o 0xFE00 (omega arith)) (in_group n x instructions (kept_groups n x) o (rests o l))
    by false e = above (ltb o 0xFE00) refl (ltb-false o 256 e)
