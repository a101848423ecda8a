-- Operands: declared types, and rows that tokens name.
use Prim.Native.Nat.{ℕ, zero, suc, ◌+◌, ◌-◌, ◌≤◌, ◌<◌}
use mathlib.Core.Path.{◌≡◌, refl, sym, ap, ◌∙◌, subst}
use mathlib.Core.Bool.{Bool, true, false, not, ◌&&◌}
use mathlib.Core.Option.{Option, none, some}
use mathlib.Core.List.{List, [], ◌∷◌}
use native.Mathlib.Omega.{arith}
use borrow.Author.Tests.{lt-ltb, le-ltb, lt-leb, le-leb, ne_eqb, ltb-true, eqb-true, eqb-false}
use lib.Dec.{ltb, leb, eqb}
use lib.ListN.{length, get_or, drop, length-drop, length-take}
use Rattle.std.specs.List.{slice_range}
use Rattle.std.proofs.lemmas.List.{get_or-take, get_or-drop}
use Rattle.model.specs.Answer.{Answer, ok, ◌>>=◌, need, guard, pick, only_if, map_option, is_none, at, row}
use Rattle.model.specs.Tables.{Ty, int32, int64, F, null, class, byte_of, Sort, static, instance, virtual, constructor, initialiser, is_sort, sort_byte, Field}
use Rattle.model.specs.Tables.{Method, Module, arguments, this_of, due, as_list}
use Rattle.model.specs.Code.{Ins, Act, binary, number, add, whole, Whole, rem, shift, shl, compare, eq, lt, call, callvirt, newobj, castclass}
use Rattle.model.specs.Code.{and_then, row_of, class_of, field_of, method_of, callable, dispatched, constructs, operands}
use Rattle.model.specs.State.{wrong_type, pop2, check_number}
use Rattle.model.specs.Operators.{flag, Kind, k32, k64, k_f, reference, kind, kind_number, same, Meaning, meaning, number_of, integers_of, whole_of, shifted}
use Rattle.model.specs.Operators.{relation_of, relates_ref, comparison, binary_of}
use Rattle.model.specs.Check.{Shape, plain_effect, effect, call_effect, newobj_effect}
use Rattle.code.specs.Operand.{maybe}
use Rattle.code.proofs.Targets.{kept}
use Rattle.std.specs.Bool.{then_some}
use borrow.Author.Tests.{leb-true, leb-false}
use Rattle.std.specs.Prelude.{Option as Found, None, Some, is_some, Result, Err}
use Rattle.shapes.specs.declared.fault.FaultKind.{FaultKind}
use Rattle.shapes.specs.declared.fault.FaultKind.TheVariants as fault
use Rattle.shapes.specs.declared.kind.Pair.TheVariants.{Numbers, Integers, Shift, Alike}
use Rattle.shapes.specs.declared.shape.Pool.{Pool}
use Rattle.shapes.specs.Pool.{Fine, Grown, Agrees, Takes}
use Rattle.shapes.specs.Effects.{Types, Gives, called_effect, binary_effect, compare_effect}
use Rattle.check_operands.specs.Groups.{call_by, field_by, may_call, plain_by, ins_by}
use Rattle.shapes.specs.Kinds.{pairs, is_integer}
use Rattle.loaded.specs.Holds.{method_cell, field_cell}
use Rattle.check_operands.specs.Held.{Typed, row_among, HeldFields, HeldMethods}
use Rattle.shapes.proofs.Showing.{same_grown}

-- ---- What may be missing

-- whether it is missing, as the code tests it
pub absent : {A : Type 0} (r : Found A) (b : Bool) (o : Option A) → is_some r ≡ not b → maybe r ≡ o → b ≡ is_none o
unfolding is_none
absent None true o e q = rw (← q) refl
absent None false o e q = let z : ◌≡◌ {A = ℕ} 0 1 = cc in absurd (omega arith)
absent (Some a) true o e q = let z : ◌≡◌ {A = ℕ} 0 1 = cc in absurd (omega arith)
absent (Some a) false o e q = rw (← q) refl

-- the same by what it is
pub missing : {A : Type 0} (R : Found ℕ) (b : Bool) (o : Option A) → (R ≡ None → o ≡ none) → ((r : ℕ) → R ≡ Some r → is_none o ≡ false)
    → is_some R ≡ not b → b ≡ is_none o
unfolding is_none
missing None true o x y e = sym (ap is_none (x refl))
missing None false o x y e = cc
missing (Some r) true o x y e = cc
missing (Some r) false o x y e = sym (y r refl)

-- ---- Declared types

pub type_none : (ts : List Ty) (i : ℕ) → length ts ≤ i → Typed None (at ts i)
unfolding Typed at
type_none [] i h = refl
type_none (t ∷ ts) zero h = absurd (omega arith)
type_none (t ∷ ts) (suc i) h = type_none ts i (omega arith)

pub type_some : (l : List ℕ) (from : ℕ) (ts : List Ty) (i r : ℕ) → i < length ts → Types l from ts → r ≡ get_or l (from + i) 0 → Typed (Some r) (at ts i)
unfolding Typed at
type_some l from ts i r h t e = by (at ts i) refl (there ts i h)
  where
    there : (ts : List Ty) (i : ℕ) → i < length ts → at ts i ≡ none → ⊥
    there [] i h e = omega arith
    there (t ∷ ts) zero h e = let z : ◌≡◌ {A = ℕ} 0 1 = cc in omega arith
    there (t ∷ ts) (suc i) h e = there ts i (omega arith) e

    by : (o : Option Ty) → at ts i ≡ o → (o ≡ none → ⊥) → Typed (Some r) o
    by none q n = absurd (n refl)
    by (some u) q n = ap Some (e ∙ t i u q)

pub no_type : (o : Option Ty) (r : Found ℕ) → Typed r o → r ≡ None → o ≡ none
unfolding Typed
no_type none r h e = refl
no_type (some u) r h e = let z : r ≡ Some (byte_of u) = h in cc

pub record Declared (o : Option Ty) (t : ℕ) : Type 0 where
  pub type : Ty
  pub is : o ≡ some type
  pub byte : byte_of type ≡ t

pub a_type : (o : Option Ty) (r : Found ℕ) (t : ℕ) → Typed r o → r ≡ Some t → Declared o t
unfolding Typed
a_type none r t h e = let z : r ≡ None = h in cc
a_type (some u) r t h e = let z : r ≡ Some (byte_of u) = h in let y : byte_of u ≡ t = cc in record { type = u; is = refl; byte = y }

-- no operand where there is no type
pub untyped : {A : Type 0} (f : Ty → A) (o : Option Ty) (r : Found ℕ) (b : Bool) → Typed r o → is_some r ≡ not b → b ≡ is_none (map_option f o)
unfolding Typed is_none map_option
untyped f none r b h e = absent r b none e (ap maybe h)
untyped f (some u) r b h e = absent r b (some (byte_of u)) e (ap maybe h)

-- ---- Answers with an operand

pub lacks : {A : Type 0} (P : Pool) (f : A → Answer ℕ Shape) (o : Option A) → o ≡ none → Fine P → Takes P (Err fault.Operand) f o × Grown P P
unfolding Takes
lacks P f o e k = (rw e refl, same_grown P k)

pub has : {A : Type 0} (P Q : Pool) (r : Result ℕ FaultKind) (f : A → Answer ℕ Shape) (o : Option A) (a : A) (B : Answer ℕ Shape) → o ≡ some a → f a ≡ B
    → Agrees Q r B × Grown P Q → Takes Q r f o × Grown P Q
unfolding Takes
has P Q r f o a B e q h = (rw (e, q) h.0, h.1)

-- the same under another name
pub renamed : {A : Type 0} (P Q : Pool) (r : Result ℕ FaultKind) (f : A → Answer ℕ Shape) (o p : Option A) → o ≡ p → Takes Q r f p × Grown P Q → Takes Q r f o × Grown P Q
renamed P Q r f o p e h = rw e h

pub some_there : {A : Type 0} (o : Option A) (a : A) → o ≡ some a → is_none o ≡ false
unfolding is_none
some_there o a e = ap is_none e

-- ---- Rows

row_past : {A : Type 0} (l : List A) (r : ℕ) → length l < r → row l r ≡ none
unfolding row at
row_past l zero h = refl
row_past [] (suc r) h = refl
row_past (x ∷ l) (suc zero) h = absurd (omega arith)
row_past (x ∷ l) (suc (suc r)) h = row_past l (suc r) (omega arith)

pub record Row {A : Type 0} (l : List A) (r : ℕ) : Type 0 where
  pub what : A
  pub is : row l r ≡ some what

row_there : {A : Type 0} (l : List A) (r : ℕ) → 0 < r → r ≤ length l → Row l r
unfolding row at
row_there l zero h k = absurd (omega arith)
row_there [] (suc r) h k = absurd (omega arith)
row_there (x ∷ l) (suc zero) h k = record { what = x; is = refl }
row_there (x ∷ l) (suc (suc r)) h k = let s = row_there l (suc r) (omega arith) (omega arith) in record { what = s.what; is = s.is }

-- no row
pub none_among : {A B : Type 0} (l : List A) (n : ℕ) (o : Option ℕ) (f : ℕ → A → Option B) → n ≡ length l → row_among n o ≡ none
    → and_then o (λ r. and_then (row l r) (f r)) ≡ none
unfolding row_among and_then only_if row
none_among l n none f e h = refl
none_among l n (some zero) f e h = refl
none_among l n (some (suc i)) f e h = by (leb (suc i) n) refl
  where
    by : (b : Bool) → leb (suc i) n ≡ b → and_then (row l (suc i)) (f (suc i)) ≡ none
    by true q = let z : ◌≡◌ {A = Option ℕ} (some (suc i)) none = rw (q, lt-ltb 0 (suc i) (omega arith)) at h in cc
    by false q = let k : n < suc i = leb-false (suc i) n q in rw (row_past l (suc i) (omega arith)) refl

-- a row
pub record Among {A : Type 0} (l : List A) (o : Option ℕ) (r : ℕ) : Type 0 where
  pub what : A
  pub is : row l r ≡ some what
  pub named : o ≡ some r

pub one_among : {A : Type 0} (l : List A) (n : ℕ) (o : Option ℕ) (r : ℕ) → n ≡ length l → row_among n o ≡ some r → Among l o r
unfolding row_among and_then only_if
one_among l n none r e h = cc
one_among l n (some x) r e h = by (ltb 0 x) (leb x n) refl refl
  where
    by : (a b : Bool) → ltb 0 x ≡ a → leb x n ≡ b → Among l (some x) r
    by true true p q =
        let z : ◌≡◌ {A = Option ℕ} (some x) (some r) = rw (p, q) at h in
        let y : x ≡ r = cc in
        let u : 0 < x = ltb-true 0 x p in
        let v : x ≤ n = leb-true x n q in
        let s = row_there l x (omega arith) (omega arith) in
        record { what = s.what; is = subst (λ (k : ℕ). row l k ≡ some s.what) y s.is; named = z }
    by false b p q = let z : ◌≡◌ {A = Option ℕ} none (some r) = rw p at h in cc
    by true false p q = let z : ◌≡◌ {A = Option ℕ} none (some r) = rw (p, q) at h in cc

-- ---- Classes

class_is : (M : Module) (t : ℕ) → class_of M t ≡ and_then (row_of 2 t) (λ r. and_then (row M.parents r) (λ p. some r))
unfolding class_of and_then map_option
class_is M t = by (row_of 2 t)
  where
    in_row : (r : ℕ) (o : Option ℕ) → map_option (λ p. r) o ≡ and_then o (λ p. some r)
    in_row r none = refl
    in_row r (some p) = refl

    by : (o : Option ℕ) → and_then o (λ r. map_option (λ p. r) (row M.parents r)) ≡ and_then o (λ r. and_then (row M.parents r) (λ p. some r))
    by none = refl
    by (some r) = in_row r (row M.parents r)

module _ (M : Module) (m : Method) (t n : ℕ) (R : Found ℕ) (e : n ≡ length M.parents) (said : maybe R ≡ row_among n (row_of 2 t)) where
  pub class_lacks : R ≡ None → operands M m (castclass t) ≡ none
  unfolding operands map_option
  class_lacks z = rw (class_is M t, none_among M.parents n (row_of 2 t) (λ r p. some r) e (sym said ∙ ap maybe z)) refl

  pub class_has : (r : ℕ) → R ≡ Some r → operands M m (castclass t) ≡ some (Act.castclass r)
  unfolding operands map_option and_then
  class_has r z =
      let a = one_among M.parents n (row_of 2 t) r e (sym said ∙ ap maybe z) in
      rw (class_is M t, a.named) (ap (λ (o : Option ℕ). map_option Act.castclass (and_then o (λ p. some r))) a.is)

  pub class_none : (b : Bool) → is_some R ≡ not b → b ≡ is_none (operands M m (castclass t))
  class_none b = missing R b (operands M m (castclass t)) class_lacks (λ r z. some_there (operands M m (castclass t)) (Act.castclass r) (class_has r z))

-- ---- Fields

flag_same : (s b : Bool) → eqb (flag b) (flag s) ≡ pick s b (not b)
unfolding flag pick
flag_same true true = refl
flag_same true false = refl
flag_same false true = refl
flag_same false false = refl

-- what a test leaves of a row
held_back : (b : Bool) (R : Found ℕ) (x : ℕ) → maybe R ≡ only_if b (some x) → R ≡ None → b ≡ false
unfolding only_if
held_back true R x e z = let y = ap maybe z in cc
held_back false R x e z = refl

let_through : (b : Bool) (R : Found ℕ) (x r : ℕ) → maybe R ≡ only_if b (some x) → R ≡ Some r → (b ≡ true) × (r ≡ x)
unfolding only_if
let_through true R x r e z = let y = ap maybe z in let w : r ≡ x = cc in (refl, w)
let_through false R x r e z = let y = ap maybe z in cc

-- zero, or not
zero_or : (C : Type 0) (x : ℕ) → (x ≡ 0 → C) → ((x ≡ 0 → ⊥) → C) → C
zero_or C zero a b = a refl
zero_or C (suc x) a b = b (λ e. omega arith)

pub record FieldFound (M : Module) (s : Bool) (f : ℕ → Field → Act) (t r : ℕ) : Type 0 where
  pub field : Field
  pub is : row M.fields r ≡ some field
  pub found : field_of M s f t ≡ some (f r field)

field_at : (M : Module) (s : Bool) (f : ℕ → Field → Act) (t x : ℕ) (d : Field) → row_of 4 t ≡ some x → row M.fields x ≡ some d
    → field_of M s f t ≡ only_if (pick s d.is_static (not d.is_static)) (some (f x d))
unfolding field_of and_then
field_at M s f t x d e q = rw (e, q) refl

module _ (M : Module) (n : ℕ) (fields : List ℕ) (H : HeldFields M n fields) (s : Bool) (f : ℕ → Field → Act) (t : ℕ) (R : Found ℕ)
    (said : maybe R ≡ and_then (row_among n (row_of 4 t)) (λ r. only_if (eqb (field_cell fields r 1) (flag s)) (some r))) where
  abbrev right : Field → Bool
  right d = pick s d.is_static (not d.is_static)

  module _ (x : ℕ) (q : row_among n (row_of 4 t) ≡ some x) where
    one_field : Among M.fields (row_of 4 t) x
    one_field = one_among M.fields n (row_of 4 t) x H.count q

    said_static : maybe R ≡ only_if (right one_field.what) (some x)
    unfolding and_then
    said_static =
        said ∙ rw q (ap (λ (b : Bool). only_if b (some x))
        (ap (λ (k : ℕ). eqb k (flag s)) (H.static x one_field.what one_field.is) ∙ flag_same s one_field.what.is_static))

    here : field_of M s f t ≡ only_if (right one_field.what) (some (f x one_field.what))
    here = field_at M s f t x one_field.what one_field.named one_field.is

  pub field_lacks : R ≡ None → field_of M s f t ≡ none
  unfolding field_of only_if
  field_lacks z = by (row_among n (row_of 4 t)) refl
    where
      by : (X : Option ℕ) → row_among n (row_of 4 t) ≡ X → field_of M s f t ≡ none
      by none q = none_among M.fields n (row_of 4 t) (λ r d. only_if (right d) (some (f r d))) H.count q
      by (some x) q =
          here x q ∙ ap (λ (b : Bool). only_if b (some (f x (one_field x q).what))) (held_back (right (one_field x q).what) R x (said_static x q) z)

  pub field_has : (r : ℕ) → R ≡ Some r → FieldFound M s f t r
  unfolding only_if and_then
  field_has r z = by (row_among n (row_of 4 t)) refl
    where
      by : (X : Option ℕ) → row_among n (row_of 4 t) ≡ X → FieldFound M s f t r
      by none q = let y : ◌≡◌ {A = Option ℕ} (maybe R) none = said ∙ rw q refl in let w = ap maybe z in cc
      by (some x) q =
          let p = let_through (right (one_field x q).what) R x r (said_static x q) z in
          rw p.1 (record {
            field = (one_field x q).what;
            is = (one_field x q).is;
            found = here x q ∙ ap (λ (b : Bool). only_if b (some (f x (one_field x q).what))) p.0;
          })

  pub field_none : (b : Bool) → is_some R ≡ not b → b ≡ is_none (field_of M s f t)
  field_none b = missing R b (field_of M s f t) field_lacks (λ r z. some_there (field_of M s f t) (f r (field_has r z).field) (field_has r z).found)

-- ---- Methods

unfoldable pub act_by : ℕ → ℕ → Method → Act
act_by w r k = pick (eqb w 0) (Act.call r k) (pick (eqb w 1) (Act.callvirt r k) (Act.newobj r k))

call_is : (M : Module) (m : Method) (w t : ℕ) → operands M m (call_by w t) ≡ method_of M (may_call w) (act_by w) t
unfolding call_by may_call act_by method_of operands and_then pick
call_is M m w t = by (eqb w 0) (eqb w 1)
  where
    by : (a b : Bool) → operands M m (pick a (call t) (pick b (callvirt t) (newobj t)))
        ≡ method_of M (λ s. pick a (callable s) (pick b (dispatched s) (constructs s)))
        (λ r k. pick a (Act.call r k) (pick b (Act.callvirt r k) (Act.newobj r k))) t
    by true b = refl
    by false true = refl
    by false false = refl

pub record MethodFound (M : Module) (m : Method) (w t r : ℕ) : Type 0 where
  pub method : Method
  pub is : row M.methods r ≡ some method
  pub may : may_call w method.sort ≡ true
  pub found : operands M m (call_by w t) ≡ some (act_by w r method)

method_at_lem : (M : Module) (p : Sort → Bool) (f : ℕ → Method → Act) (t x : ℕ) (k : Method) → row_of 6 t ≡ some x → row M.methods x ≡ some k
    → method_of M p f t ≡ only_if (p k.sort) (some (f x k))
unfolding method_of and_then
method_at_lem M p f t x k e q = rw (e, q) refl

module _ (M : Module) (m : Method) (n : ℕ) (methods : List ℕ) (H : HeldMethods M n methods) (w t : ℕ) (R : Found ℕ)
    (unnamed : row_among n (row_of 6 t) ≡ none → maybe R ≡ none)
    (said : (r : ℕ) (s : Sort) → row_among n (row_of 6 t) ≡ some r → sort_byte s ≡ method_cell methods r 24 → maybe R ≡ only_if (may_call w s) (some r)) where
  module _ (x : ℕ) (q : row_among n (row_of 6 t) ≡ some x) where
    one_method : Among M.methods (row_of 6 t) x
    one_method = one_among M.methods n (row_of 6 t) x H.count q

    said_sort : maybe R ≡ only_if (may_call w one_method.what.sort) (some x)
    said_sort = said x one_method.what.sort q (sym (H.sort x one_method.what one_method.is))

    there : operands M m (call_by w t) ≡ only_if (may_call w one_method.what.sort) (some (act_by w x one_method.what))
    there = call_is M m w t ∙ method_at_lem M (may_call w) (act_by w) t x one_method.what one_method.named one_method.is

  pub method_lacks : R ≡ None → operands M m (call_by w t) ≡ none
  unfolding method_of only_if
  method_lacks z = by (row_among n (row_of 6 t)) refl
    where
      by : (X : Option ℕ) → row_among n (row_of 6 t) ≡ X → operands M m (call_by w t) ≡ none
      by none q = call_is M m w t ∙ none_among M.methods n (row_of 6 t) (λ r k. only_if (may_call w k.sort) (some (act_by w r k))) H.count q
      by (some x) q =
          there x q ∙ ap (λ (b : Bool). only_if b (some (act_by w x (one_method x q).what)))
          (held_back (may_call w (one_method x q).what.sort) R x (said_sort x q) z)

  pub method_has : (r : ℕ) → R ≡ Some r → MethodFound M m w t r
  unfolding only_if
  method_has r z = by (row_among n (row_of 6 t)) refl
    where
      by : (X : Option ℕ) → row_among n (row_of 6 t) ≡ X → MethodFound M m w t r
      by none q = let y : ◌≡◌ {A = Option ℕ} (maybe R) none = unnamed q in let v = ap maybe z in cc
      by (some x) q =
          let p = let_through (may_call w (one_method x q).what.sort) R x r (said_sort x q) z in
          rw p.1 (record {
            method = (one_method x q).what;
            is = (one_method x q).is;
            may = p.0;
            found = there x q ∙ ap (λ (b : Bool). only_if b (some (act_by w x (one_method x q).what))) p.0;
          })

  pub method_none : (b : Bool) → is_some R ≡ not b → b ≡ is_none (operands M m (call_by w t))
  method_none b =
      missing R b (operands M m (call_by w t)) method_lacks
      (λ r z. some_there (operands M m (call_by w t)) (act_by w r (method_has r z).method) (method_has r z).found)

pub call_effect_lem : (M : Module) (m : Method) (w r : ℕ) (k : Method) (S : Shape) → (w ≡ 2 → ⊥) → w < 3
    → effect M m (act_by w r k) S ≡ called_effect M m (arguments k) k.returns S
unfolding act_by pick effect call_effect called_effect due
call_effect_lem M m zero r k S h l = refl
call_effect_lem M m (suc zero) r k S h l = refl
call_effect_lem M m (suc (suc zero)) r k S h l = absurd (h refl)
call_effect_lem M m (suc (suc (suc w))) r k S h l = absurd (omega arith)

pub new_effect : (M : Module) (m : Method) (w r : ℕ) (k : Method) (S : Shape) → w ≡ 2
    → effect M m (act_by w r k) S ≡ called_effect M m k.params (some (class k.owner)) S
unfolding act_by pick effect newobj_effect called_effect as_list
new_effect M m w r k S e = rw e refl

pub new_arguments : (w : ℕ) (k : Method) → w ≡ 2 → may_call w k.sort ≡ true → arguments k ≡ class k.owner ∷ k.params
unfolding may_call pick constructs is_sort sort_byte arguments this_of
new_arguments w k e h = by k.sort refl (subst (λ (v : ℕ). may_call v k.sort ≡ true) e h)
  where
    by : (s : Sort) → k.sort ≡ s → constructs s ≡ true → arguments k ≡ class k.owner ∷ k.params
    by static q h = let z : ◌≡◌ {A = ℕ} 0 1 = cc in absurd (omega arith)
    by instance q h = rw q refl
    by virtual q h = rw q refl
    by constructor q h = rw q refl
    by initialiser q h = let z : ◌≡◌ {A = ℕ} 0 1 = cc in absurd (omega arith)

pub types_tail : (l : List ℕ) (from : ℕ) (t : Ty) (us ts : List Ty) → us ≡ t ∷ ts → Types l from us → Types l (from + 1) ts
unfolding at
types_tail l from t us ts e h i u q = let z : from + 1 + i ≡ from + suc i = omega arith in rw z (h (suc i) u (rw e q))

-- a part of a table that holds types holds them alone
at_inside : (ts : List Ty) (i : ℕ) (u : Ty) → at ts i ≡ some u → i < length ts
unfolding at
at_inside [] i u e = cc
at_inside (t ∷ ts) zero u e = omega arith
at_inside (t ∷ ts) (suc i) u e = let k : i < length ts = at_inside ts i u e in omega arith

pub types_part : (l : List ℕ) (from to : ℕ) (ts : List Ty) → Types l from ts → from + length ts ≡ to → Types (slice_range l from to) 0 ts
types_part l from to ts t e i u q =
    let k : i < length ts = at_inside ts i u q in
    let z : from + (0 + i) ≡ from + i = omega arith in
    get_or-take (to - from) (drop from l) (0 + i) 0 (omega arith) ∙ (get_or-drop from l (0 + i) 0 ∙ (ap (λ (j : ℕ). get_or l j 0) z ∙ t i u q))

pub part_length : (l : List ℕ) (from to : ℕ) (ts : List Ty) → from + length ts ≡ to → to ≤ length l → length ts ≡ length (slice_range l from to)
part_length l from to ts e h = omega (arith, length-take (to - from) (drop from l), length-drop from l)

-- ---- By group

pub mapped : {A B : Type 0} (P Q : Pool) (r : Result ℕ FaultKind) (f : A → Answer ℕ Shape) (g : B → Answer ℕ Shape) (h : A → B) (o : Option A)
    → ((a : A) → g (h a) ≡ f a) → Takes Q r f o × Grown P Q → Takes Q r g (map_option h o) × Grown P Q
unfolding Takes map_option
mapped P Q r f g h none e t = t
mapped P Q r f g h (some a) e t = (rw (e a) t.0, t.1)

pub field_29 : (M : Module) (m : Method) (g t : ℕ) → g ≡ 29 → operands M m (field_by g t) ≡ field_of M false Act.ldfld t
unfolding field_by pick operands
field_29 M m g t e = rw e refl

pub field_30 : (M : Module) (m : Method) (g t : ℕ) → (g ≡ 29 → ⊥) → 28 < g → g < 31 → operands M m (field_by g t) ≡ field_of M false Act.stfld t
unfolding field_by pick operands
field_30 M m g t e a b = let z : g ≡ 30 = other g e a b in rw z refl
  where
    other : (g : ℕ) → (g ≡ 29 → ⊥) → 28 < g → g < 31 → g ≡ 30
    other g e a b = zero_or (g ≡ 30) (g - 29) (λ z. absurd (e (omega arith))) (λ z. nonzero g z a b)
      where
        nonzero : (g : ℕ) → (g - 29 ≡ 0 → ⊥) → 28 < g → g < 31 → g ≡ 30
        nonzero g z a b = let k : 0 < g - 29 = pos (g - 29) z in omega arith
          where
            pos : (r : ℕ) → (r ≡ 0 → ⊥) → 0 < r
            pos zero h = absurd (h refl)
            pos (suc r) h = omega arith

-- what holds of both instructions on a field of an object
pub field_low : (P : Option Act → Type 0) (M : Module) (m : Method) (g t : ℕ) → 28 < g → g < 31 → P (field_of M false Act.ldfld t)
    → P (field_of M false Act.stfld t) → P (operands M m (field_by g t))
field_low P M m g t a b x y = by (eqb g 29) refl
  where
    by : (c : Bool) → eqb g 29 ≡ c → P (operands M m (field_by g t))
    by true q = subst P (sym (field_29 M m g t (eqb-true g 29 q))) x
    by false q = subst P (sym (field_30 M m g t (eqb-false g 29 q) a b)) y

pub field_31 : (M : Module) (m : Method) (g t : ℕ) → g ≡ 31 → operands M m (field_by g t) ≡ field_of M true Act.ldsfld t
unfolding field_by pick operands
field_31 M m g t e = rw e refl

pub field_32 : (M : Module) (m : Method) (g t : ℕ) → 31 ≤ g → (g ≡ 31 → ⊥) → operands M m (field_by g t) ≡ field_of M true Act.stsfld t
unfolding field_by pick operands
field_32 M m g t a e = rw (ne_eqb g 29 (λ z. absurd (omega arith)), ne_eqb g 30 (λ z. absurd (omega arith)), ne_eqb g 31 e) refl

-- what holds of both on a static field
pub field_high : (P : Option Act → Type 0) (M : Module) (m : Method) (g t : ℕ) → 31 ≤ g → P (field_of M true Act.ldsfld t) → P (field_of M true Act.stsfld t)
    → P (operands M m (field_by g t))
field_high P M m g t a x y = by (eqb g 31) refl
  where
    by : (c : Bool) → eqb g 31 ≡ c → P (operands M m (field_by g t))
    by true q = subst P (sym (field_31 M m g t (eqb-true g 31 q))) x
    by false q = subst P (sym (field_32 M m g t a (eqb-false g 31 q))) y

-- ---- Rows, as the code finds them

pub token_none : (n : ℕ) (o : Option ℕ) → none ≡ o → none ≡ row_among n o
unfolding row_among and_then
token_none n o e = rw (← e) refl

pub token_zero : (n x : ℕ) (o : Option ℕ) → some x ≡ o → x ≡ 0 → none ≡ row_among n o
unfolding row_among and_then only_if
token_zero n x o e h = rw (← e, h) refl

pub token_past : (n x : ℕ) (o : Option ℕ) → some x ≡ o → n < x → none ≡ row_among n o
unfolding row_among and_then only_if
token_past n x o e h = rw (← e, lt-leb x n h, lt-ltb 0 x (omega arith)) refl

pub token_here : (n x : ℕ) (o : Option ℕ) → some x ≡ o → (x ≡ 0 → ⊥) → x ≤ n → some x ≡ row_among n o
unfolding row_among and_then only_if
token_here n zero o e z h = absurd (z refl)
token_here n (suc x) o e z h = rw (← e, lt-ltb 0 (suc x) (omega arith), le-leb (suc x) n h) refl

-- a test leaves a row or none
pub flagged : (l : List ℕ) (X : Option ℕ) (x v : ℕ) → some x ≡ X
    → maybe (then_some (eqb (field_cell l x 1) v) x) ≡ and_then X (λ r. only_if (eqb (field_cell l r 1) v) (some r))
unfolding and_then
flagged l X x v e = rw (← e) (kept (eqb (field_cell l x 1) v) x)

pub unnamed_none : (X : Option ℕ) (f : ℕ → Option ℕ) → none ≡ X → none ≡ and_then X f
unfolding and_then
unnamed_none X f e = rw (← e) refl

pub same_row : (r x : ℕ) (X : Option ℕ) → some r ≡ X → X ≡ some x → x ≡ r
same_row r x X e q = cc

pub sorted : (b t : Bool) (r x : ℕ) (X : Option ℕ) → some r ≡ X → X ≡ some x → t ≡ b → maybe (then_some t r) ≡ only_if b (some x)
sorted b t r x X e q h = let z : r ≡ x = cc in rw (h, z) (kept b x)

pub may_0 : (w v : ℕ) (s : Sort) → w ≡ 0 → sort_byte s ≡ v → not (eqb v 4) ≡ may_call w s
unfolding may_call pick callable is_sort sort_byte
may_0 w v s e q = rw (e, ← q) refl

pub may_1 : (w v : ℕ) (s : Sort) → w ≡ 1 → sort_byte s ≡ v → v ≡ 1 → eqb v 1 ≡ may_call w s
unfolding may_call pick dispatched is_sort sort_byte
may_1 w v s e q h = rw (e, q, h) refl

pub may_2 : (w v : ℕ) (s : Sort) → w ≡ 1 → sort_byte s ≡ v → (v ≡ 1 → ⊥) → eqb v 2 ≡ may_call w s
unfolding may_call pick dispatched is_sort sort_byte
may_2 w v s e q h = rw (e, q, ne_eqb v 1 h) refl

pub may_3 : (w v : ℕ) (s : Sort) → (w ≡ 0 → ⊥) → (w ≡ 1 → ⊥) → sort_byte s ≡ v → eqb v 3 ≡ may_call w s
unfolding may_call pick constructs is_sort sort_byte
may_3 w v s a b q = rw (ne_eqb w 0 a, ne_eqb w 1 b, ← q) refl

-- ---- Instructions without tokens

both_kinds : (S : Shape) (f g : Shape → Answer ℕ Shape) → f [] ≡ g [] → ((b : Ty) → f (b ∷ []) ≡ g (b ∷ []))
    → ((b a : Ty) (R : Shape) → f (b ∷ a ∷ R) ≡ g (b ∷ a ∷ R)) → f S ≡ g S
both_kinds [] f g x y z = x
both_kinds (b ∷ []) f g x y z = y b
both_kinds (b ∷ a ∷ R) f g x y z = z b a R

numbers_by : (a : Ty) (R : Shape) (t : Bool) → (need (only_if t (number_of add (kind a))) (check_number wrong_type) >>= λ g. ok (g.gives ∷ R))
    ≡ (guard (t && not (same (kind a) reference)) (check_number wrong_type) >>= λ _. ok (a ∷ R))
unfolding need only_if number_of kind meaning guard ◌>>=◌ same kind_number
numbers_by int32 R true = refl
numbers_by int64 R true = refl
numbers_by F R true = refl
numbers_by null R true = refl
numbers_by (class c) R true = refl
numbers_by a R false = refl

pub numbers : (M : Module) (m : Method) (S : Shape) → plain_effect M m (binary (number add)) S ≡ binary_effect Numbers S
unfolding plain_effect binary_effect pop2 ◌>>=◌ binary_of pairs pick
numbers M m S = both_kinds S (plain_effect M m (binary (number add))) (binary_effect Numbers) refl (λ b. refl) (λ b a R. numbers_by a R (same (kind a) (kind b)))

integers_by : (o : Whole) (a : Ty) (R : Shape) (t : Bool) → (need (only_if t (integers_of (λ w. whole_of w o) (kind a))) (check_number wrong_type) >>= λ g. ok
    (g.gives ∷ R)) ≡ (guard (t && is_integer (kind a)) (check_number wrong_type) >>= λ _. ok (a ∷ R))
unfolding need only_if integers_of kind meaning guard ◌>>=◌ same kind_number is_integer
integers_by o int32 R true = refl
integers_by o int64 R true = refl
integers_by o F R true = refl
integers_by o null R true = refl
integers_by o (class c) R true = refl
integers_by o a R false = refl

pub integers : (M : Module) (m : Method) (S : Shape) → plain_effect M m (binary (whole rem)) S ≡ binary_effect Integers S
unfolding plain_effect binary_effect pop2 ◌>>=◌ binary_of pairs pick
integers M m S = both_kinds S (plain_effect M m (binary (whole rem))) (binary_effect Integers) refl (λ b. refl) (λ b a R. integers_by rem a R (same (kind a) (kind b)))

shifts_by : (a : Ty) (R : Shape) (t : Bool) → (need (only_if t (integers_of (λ w x n. ok (shifted w shl x n)) (kind a))) (check_number wrong_type) >>= λ g. ok
    (g.gives ∷ R)) ≡ (guard (t && is_integer (kind a)) (check_number wrong_type) >>= λ _. ok (a ∷ R))
unfolding need only_if integers_of kind meaning guard ◌>>=◌ same kind_number is_integer
shifts_by int32 R true = refl
shifts_by int64 R true = refl
shifts_by F R true = refl
shifts_by null R true = refl
shifts_by (class c) R true = refl
shifts_by a R false = refl

pub shifts : (M : Module) (m : Method) (S : Shape) → plain_effect M m (binary (shift shl)) S ≡ binary_effect Shift S
unfolding plain_effect binary_effect pop2 ◌>>=◌ binary_of pairs pick
shifts M m S = both_kinds S (plain_effect M m (binary (shift shl))) (binary_effect Shift) refl (λ b. refl) (λ b a R. shifts_by a R (same (kind b) k32))

equal_by : (k : Kind) (R : Shape) (t : Bool) → (need (map_option (λ f. record { gives = int32; bits_of = λ x y. ok (flag (f x y)) })
    (only_if t (relation_of eq k))) (check_number wrong_type) >>= λ (g : Meaning). ok (g.gives ∷ R)) ≡ (guard t (check_number wrong_type) >>= λ _. ok (int32 ∷ R))
unfolding need map_option only_if relation_of relates_ref guard ◌>>=◌
equal_by k32 R true = refl
equal_by k64 R true = refl
equal_by k_f R true = refl
equal_by reference R true = refl
equal_by k R false = refl

pub equals : (M : Module) (m : Method) (S : Shape) → plain_effect M m (binary (compare eq)) S ≡ compare_effect Alike S
unfolding plain_effect compare_effect pop2 ◌>>=◌ binary_of comparison pairs pick
equals M m S = both_kinds S (plain_effect M m (binary (compare eq))) (compare_effect Alike) refl (λ b. refl) (λ b a R. equal_by (kind a) R (same (kind a) (kind b)))

order_by : (k : Kind) (R : Shape) (t : Bool) → (need (map_option (λ f. record { gives = int32; bits_of = λ x y. ok (flag (f x y)) })
    (only_if t (relation_of lt k))) (check_number wrong_type) >>= λ (g : Meaning). ok (g.gives ∷ R))
    ≡ (guard (t && not (same k reference)) (check_number wrong_type) >>= λ _. ok (int32 ∷ R))
unfolding need map_option only_if relation_of relates_ref guard ◌>>=◌ same kind_number
order_by k32 R true = refl
order_by k64 R true = refl
order_by k_f R true = refl
order_by reference R true = refl
order_by k R false = refl

pub orders : (M : Module) (m : Method) (S : Shape) → plain_effect M m (binary (compare lt)) S ≡ compare_effect Numbers S
unfolding plain_effect compare_effect pop2 ◌>>=◌ binary_of comparison pairs pick
orders M m S = both_kinds S (plain_effect M m (binary (compare lt))) (compare_effect Numbers) refl (λ b. refl) (λ b a R. order_by (kind a) R (same (kind a) (kind b)))

-- an answer for the group's number
pub grouped : (P Q : Pool) (r : Result ℕ FaultKind) (M : Module) (m : Method) (S : Shape) (op n g k : ℕ) → g ≡ k
    → Takes Q r (λ a. effect M m a S) (operands M m (plain_by k op n)) × Grown P Q
    → Takes Q r (λ a. effect M m a S) (operands M m (plain_by g op n)) × Grown P Q
grouped P Q r M m S op n g k e h = rw e h

pub none_grouped : (M : Module) (m : Method) (op n g k : ℕ) (b : Bool) → g ≡ k → b ≡ is_none (operands M m (plain_by k op n))
    → b ≡ is_none (operands M m (plain_by g op n))
none_grouped M m op n g k b e h = rw e h

-- an instruction on no argument and no local has its operands
pub plain_there : (M : Module) (m : Method) (g op n : ℕ) → (g ≡ 8 → ⊥) → (g ≡ 9 → ⊥) → (g ≡ 10 → ⊥) → (g ≡ 11 → ⊥) → (g ≡ 12 → ⊥) → (g ≡ 13 → ⊥)
    → (g ≡ 14 → ⊥) → false ≡ is_none (operands M m (plain_by g op n))
unfolding plain_by pick operands is_none
plain_there M m g op n a b c d e f h =
    rw (ne_eqb g 8 a, ne_eqb g 9 b, ne_eqb g 10 c, ne_eqb g 11 d, ne_eqb g 12 e, ne_eqb g 13 f, ne_eqb g 14 h)
    (any (eqb g 0) _ _ refl (any (eqb g 1) _ _ refl (any (eqb g 2) _ _ refl
    (any (eqb g 3) _ _ refl (any (eqb g 4) _ _ refl (any (eqb g 5) _ _ refl (any (eqb g 6) _ _ refl (any (eqb g 7) _ _ refl
    (any (eqb g 15) _ _ refl (any (eqb g 16) _ _ refl (any (eqb g 17) _ _ refl (any (eqb g 18) _ _ refl (any (eqb g 24) _ _ refl refl)))))))))))))
  where
    any : (t : Bool) (x y : Ins) → false ≡ is_none (operands M m x) → false ≡ is_none (operands M m y) → false ≡ is_none (operands M m (pick t x y))
    any true x y p q = p
    any false x y p q = q

pub class_byte_is : (r : ℕ) → byte_of (class r) ≡ r + 32
unfolding byte_of
class_byte_is r = omega arith

pub tail_length : (n : ℕ) (t : Ty) (us ts : List Ty) → us ≡ t ∷ ts → n ≡ length us → length ts ≡ n - 1
tail_length n t us ts e q = let z : length us ≡ suc (length ts) = ap length e in omega arith

pub new_gives : (c v b : ℕ) → v ≡ c → c < 224 → (v < 224 → b ≡ byte_of (class v)) → Gives (some (class c)) b
unfolding Gives byte_of
new_gives c v b e l h = let z : b ≡ 32 + v = h (rw e l) in (omega arith, omega arith)

pub owner_byte : (c v b : ℕ) → v ≡ c → c < 224 → (v < 224 → b ≡ byte_of (class v)) → byte_of (class c) ≡ b
unfolding byte_of
owner_byte c v b e l h = let z : b ≡ 32 + v = h (rw e l) in omega arith

-- ---- Groups

pub ins_plain : (g op n next : ℕ) → g < 25 → ins_by g op n next ≡ plain_by g op n
unfolding ins_by pick
ins_plain g op n next h = rw (lt-ltb g 25 h) refl

pub ins_call : (g op n next : ℕ) → 25 ≤ g → g < 28 → ins_by g op n next ≡ call_by (g - 25) n
unfolding ins_by pick
ins_call g op n next a b = rw (le-ltb g 25 a, lt-ltb g 28 b) refl

pub ins_cast : (g op n next : ℕ) → g ≡ 28 → ins_by g op n next ≡ castclass n
unfolding ins_by pick
ins_cast g op n next e = rw e refl

pub ins_field : (g op n next : ℕ) → 28 ≤ g → (g ≡ 28 → ⊥) → g < 33 → ins_by g op n next ≡ field_by g n
unfolding ins_by pick
ins_field g op n next a b c = rw (le-ltb g 25 (omega arith), le-ltb g 28 a, ne_eqb g 28 b, lt-ltb g 33 c) refl

pub above : (g : ℕ) → 28 ≤ g → (g ≡ 28 → ⊥) → 28 < g
above g a b = zero_or (28 < g) (g - 28) (λ z. absurd (b (omega arith))) (λ z. by (g - 28) refl z)
  where
    by : (d : ℕ) → g - 28 ≡ d → (g - 28 ≡ 0 → ⊥) → 28 < g
    by zero e z = absurd (z e)
    by (suc d) e z = omega arith
