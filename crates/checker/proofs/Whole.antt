-- All methods, and the arrays of a loaded module.
use Prim.Native.Nat.{ℕ, zero, suc, ◌+◌, ◌-◌, ◌*◌, ◌≤◌, ◌<◌}
use native.Mathlib.Numerals.{add-one}
use mathlib.Core.Path.{◌≡◌, refl, sym, ap, ◌∙◌, subst}
use mathlib.Core.Option.{Option, none, some}
use mathlib.Core.List.{List, [], ◌∷◌}
use native.Mathlib.Omega.{arith}
use lib.ListN.{length, get_or, drop}
use Rattle.model.specs.Answer.{Answer, bad, ok, ◌>>=◌, blame, or_else, at, row}
use Rattle.model.specs.Tables.{Ty, int32, int64, F, null, class, byte_of, sort_byte, Field, Method, Module, method_at, arguments, part_of}
use Rattle.model.specs.Loading.{Refusal, refusal}
use Rattle.model.specs.Operators.{flag}
use Rattle.model.specs.Check.{Shapes, Fault as ModelFault, fault_in, check_method, check_methods, check_module}
use Rattle.loaded.specs.declared.Fault.{Fault}
use Rattle.loaded.specs.declared.Loaded.{Loaded}
use Rattle.loaded.specs.Holds.{byte_at, from_row, method_cell, part_length, Holds}
use Rattle.shapes.specs.Effects.{Gives, Types}
use Rattle.check_operands.specs.Held.{HeldClasses, HeldFields, HeldMethods, Held}
use Rattle.shapes.specs.declared.shape.Pool.{Pool}
use Rattle.shapes.specs.declared.fault.FaultKind.{FaultKind}
use Rattle.shapes.specs.declared.fault.FaultKind.TheVariants.{Undecodable, Operand, TooFew, TooMany, WrongType, OtherShape, FallsPast}
use Rattle.shapes.specs.Faults.{number}
use Rattle.visits.specs.Notes.{Ready}
use Rattle.passes.specs.declared.pass.FaultAt.{FaultAt}
use Rattle.passes.specs.Fused.{Tells, Passing}
use Rattle.checker.specs.Bounded.{Bounded}
use Rattle.std.specs.Prelude.{Result, Ok, Err, ⊤}
use Rattle.checker.specs.Answers.{fault_of, Answers}

-- ---- What the arrays hold

method_there : (ms : List Method) (r : ℕ) (k : Method) → row ms r ≡ some k → method_at ms r ≡ k
unfolding method_at or_else
method_there ms r k e = rw e refl

field_there : (f : Field → ℕ) (fs : List Field) (r : ℕ) (d : Field) → row fs r ≡ some d → from_row f (row fs r) ≡ f d
unfolding from_row
field_there f fs r d e = rw e refl

inside : (ts : List Ty) (i : ℕ) (t : Ty) → at ts i ≡ some t → i < length ts
unfolding at
inside [] i t e = let z : ◌≡◌ {A = ℕ} 0 1 = cc in absurd (omega arith)
inside (u ∷ ts) zero t e = omega arith
inside (u ∷ ts) (suc i) t e = let k : i < length ts = inside ts i t e in omega arith

byte_some : (o : Option Ty) (t : Ty) → o ≡ some t → byte_at o ≡ byte_of t
unfolding byte_at
byte_some o t e = rw e refl

-- no type but null has the byte 0
byte_gives : (o : Option Ty) (b : ℕ) → b ≡ byte_at o → (o ≡ some null → ⊥) → Gives o b
unfolding Gives byte_at byte_of
byte_gives none b e n = e
byte_gives (some int32) b e n = (sym e, omega arith)
byte_gives (some int64) b e n = (sym e, omega arith)
byte_gives (some F) b e n = (sym e, omega arith)
byte_gives (some null) b e n = absurd (n refl)
byte_gives (some (class c)) b e n = (sym e, omega arith)

module _ (M : Module) (code : List ℕ) (L : Loaded) (B : Bounded M) (H : Holds M code L) where
  held_classes : HeldClasses M L.counts.classes L.parents
  held_classes =
      record {
        count = H.class_count;
        few = rw H.class_count B.classes;
        parent =
            record { parent = H.by_class.parent; falls = B.falls; few = B.classes };
      }

  held_fields : HeldFields M L.counts.fields L.fields
  held_fields = record {
    count = H.field_count;
    few = rw H.field_count B.fields;
    owner = λ r d e. H.by_field.owner r ∙ field_there (λ (f : Field). f.owner) M.fields r d e;
    low = λ r d e. let k : d.owner ≤ 32 = B.field_owner r d e in omega arith;
    static = λ r d e. H.by_field.static r ∙ field_there (λ (f : Field). flag f.is_static) M.fields r d e;
    type = λ r d e. H.by_field.type r ∙ field_there (λ (f : Field). byte_of f.type) M.fields r d e;
  }

  held_arguments : (r : ℕ) (k : Method) → row M.methods r ≡ some k → Types L.methods (r * 32) (arguments k)
  held_arguments r k e i t q =
      let a : i < length (arguments k) = inside (arguments k) i t q in
      let b : length (arguments k) ≤ 8 = B.argument_count r k e in
      H.by_method.argument_type r i (omega arith)
      ∙ byte_some (at (arguments (method_at M.methods r)) i) t (ap (λ (x : Method). at (arguments x) i) (method_there M.methods r k e) ∙ q)

  held_locals : (r : ℕ) (k : Method) → row M.methods r ≡ some k → Types L.methods (r * 32 + 8) k.locals
  held_locals r k e i t q =
      let a : i < length k.locals = inside k.locals i t q in
      let b : length k.locals ≤ 16 = B.local_count_lem r k e in
      let z : r * 32 + 8 + i ≡ r * 32 + (8 + i) = omega arith in
      ap (λ (j : ℕ). get_or L.methods j 0) z
      ∙ H.by_method.local_type_lem r i (omega arith)
      ∙ byte_some (at (method_at M.methods r).locals i) t (ap (λ (x : Method). at x.locals i) (method_there M.methods r k e) ∙ q)

  held_due : (r : ℕ) (k : Method) → row M.methods r ≡ some k → Gives k.returns (method_cell L.methods r 26)
  held_due r k e =
      byte_gives k.returns (method_cell L.methods r 26)
      (H.by_method.returns r ∙ ap (λ (x : Method). byte_at x.returns) (method_there M.methods r k e)) (B.returns r k e)

  held_arity : (r : ℕ) (k : Method) → row M.methods r ≡ some k → method_cell L.methods r 28 ≡ length (arguments k)
  held_arity r k e = H.by_method.argument_count r ∙ ap (λ (x : Method). length (arguments x)) (method_there M.methods r k e)

  held_methods : HeldMethods M L.counts.methods L.methods
  held_methods = record {
    count = H.method_count;
    few = rw H.method_count B.methods;
    owner = λ r k e. H.by_method.owner r ∙ ap (λ (x : Method). x.owner) (method_there M.methods r k e);
    low = λ r k e. let z : k.owner ≤ 32 = B.method_owner r k e in omega arith;
    sort = λ r k e. H.by_method.sort r ∙ ap (λ (x : Method). sort_byte x.sort) (method_there M.methods r k e);
    due = held_due;
    arity = held_arity;
    small = B.argument_count;
    arguments_at = held_arguments;
  }

  pub held : (r : ℕ) (k : Method) → row M.methods r ≡ some k → Held M k L.counts r (method_cell L.methods r 27) L.parents L.fields L.methods
  held r k e = record {
    by_class = held_classes;
    by_field = held_fields;
    by_method = held_methods;
    own = record {
      most = sym (H.by_method.stack r ∙ ap (λ (x : Method). x.max_stack) (method_there M.methods r k e));
      gives = held_due r k e;
      arity = held_arity r k e;
      small = B.argument_count r k e;
      arguments_at = λ i t q. let z : r * 32 + 0 + i ≡ r * 32 + i = omega arith in rw z (held_arguments r k e i t q);
      local_count_lem = H.by_method.local_count_lem r ∙ ap (λ (x : Method). length x.locals) (method_there M.methods r k e);
      local_small = B.local_count_lem r k e;
      locals_at = held_locals r k e;
    };
  }

  pub held_code : (r : ℕ) (k : Method) → row M.methods r ≡ some k → k.code ≡ part_of code (get_or L.parts (r * 2 + 0) 0) (part_length L.parts r)
  held_code r k e =
      let z : r * 2 ≡ r * 2 + 0 = omega arith in
      ap (λ (x : Method). x.code) (sym (method_there M.methods r k e)) ∙ H.by_method.part r ∙ ap
      (λ (j : ℕ). part_of code (get_or L.parts j 0) (part_length L.parts r)) z

  pub held_size : (r : ℕ) (k : Method) → row M.methods r ≡ some k → part_length L.parts r ≡ length k.code
  held_size r k e = H.by_method.size r ∙ ap (λ (x : Method). length x.code) (method_there M.methods r k e)

-- ---- Methods by row

number_range : (kind : FaultKind) → (10 < number kind) × (number kind < 18)
number_range Undecodable = (omega arith, omega arith)
number_range Operand = (omega arith, omega arith)
number_range TooFew = (omega arith, omega arith)
number_range TooMany = (omega arith, omega arith)
number_range WrongType = (omega arith, omega arith)
number_range OtherShape = (omega arith, omega arith)
number_range FallsPast = (omega arith, omega arith)

-- what is answered of the methods from a row on is answered of all
pub record Checking (M : Module) (r : ℕ) : Type 0 where
  pub rest : (a : Result ⊤ Fault) → Answers (check_methods M r (drop (r - 1) M.methods)) a → Answers (check_module M) a

pub checking_start : (M : Module) → Checking M 1
unfolding check_module
checking_start M = record { rest = λ a h. h }

pub record Row (ms : List Method) (r : ℕ) : Type 0 where
  pub method : Method
  pub is : row ms r ≡ some method
  pub left : drop (r - 1) ms ≡ method ∷ drop r ms

pub the_row : (ms : List Method) (r : ℕ) → 1 ≤ r → r ≤ length ms → Row ms r
unfolding row at
the_row ms zero h k = absurd (omega arith)
the_row [] (suc r) h k = absurd (omega arith)
the_row (m ∷ ms) (suc zero) h k = record { method = m; is = refl; left = refl }
the_row (m ∷ ms) (suc (suc r)) h k =
    let s = the_row ms (suc r) (omega arith) (omega arith) in
    let z : suc (suc r) - 1 ≡ suc (suc r - 1) = omega arith in
    record { method = s.method; is = s.is; left = ap (λ (j : ℕ). drop j (m ∷ ms)) z ∙ s.left }

module _ (M : Module) (r : ℕ) (w : Row M.methods r) (c : Checking M r) where
  -- what is answered after this method's check
  from : Answer Refusal Shapes → Answer ModelFault (List Shapes)
  from A = blame (fault_in r) A >>= λ found. check_methods M (suc r) (drop r M.methods) >>= λ l. ok (found ∷ l)

  here : (x : Result ⊤ Fault) → Answers (from (check_method M w.method)) x → Answers (check_module M) x
  unfolding check_methods ◌>>=◌ from
  here x h = c.rest x (subst (λ (l : List Method). Answers (check_methods M r l) x) (sym w.left) h)

  pub checking_next : 1 ≤ r → Tells (Ok tt) (check_method M w.method) → Checking M (r + 1)
  unfolding Tells Answers ◌>>=◌ blame from
  checking_next h t = record { rest = λ x p. here x (by (check_method M w.method) t x p) }
    where
      on : (A : Answer ModelFault (List Shapes)) (G : Shapes) (x : Result ⊤ Fault) → Answers A x → Answers (A >>= λ l. ok (G ∷ l)) x
      on (bad f) G x h = h
      on (ok l) G x h = h

      by : (A : Answer Refusal Shapes) → Tells (Ok tt) A → (x : Result ⊤ Fault) → Answers (check_methods M (r + 1) (drop (r + 1 - 1) M.methods)) x
          → Answers (from A) x
      by (bad f) t x p = let z : ◌≡◌ {A = Result ⊤ FaultAt} (Ok tt) (Err t.0) = t.1 in absurd (cc)
      by (ok G) t x p =
          let y : r + 1 - 1 ≡ r = omega arith in
          on (check_methods M (suc r) (drop r M.methods)) G x (rw (y, add-one r) at p)

  pub checking_fault : (f : FaultAt) → Tells (Err f) (check_method M w.method)
      → Answers (check_module M) (Err (record { number = number f.kind; method = r; offset = f.offset }))
  unfolding Tells Answers ◌>>=◌ blame from fault_in fault_of refusal
  checking_fault f t = here (Err (record { number = number f.kind; method = r; offset = f.offset })) (by (check_method M w.method) t)
    where
      by : (A : Answer Refusal Shapes) → Tells (Err f) A → Answers (from A) (Err (record { number = number f.kind; method = r; offset = f.offset }))
      by (bad g) t =
          let z : f ≡ t.0 = let y : ◌≡◌ {A = Result ⊤ FaultAt} (Err f) (Err t.0) = t.1 in cc in
          let n = number_range f.kind in
          rw (← t.2, ← z) (refl, n.0, n.1)
      by (ok G) t = let z : ◌≡◌ {A = Result ⊤ FaultAt} (Err f) (Ok tt) = t in absurd (cc)

drop_past : (ms : List Method) (r : ℕ) → length ms ≤ r → drop r ms ≡ []
drop_past [] zero h = refl
drop_past [] (suc r) h = refl
drop_past (m ∷ ms) zero h = absurd (omega arith)
drop_past (m ∷ ms) (suc r) h = drop_past ms r (omega arith)

pub checking_end : (M : Module) (r : ℕ) (x : Result ⊤ Fault) → Checking M r → 1 ≤ r → length M.methods < r → x ≡ Ok tt → Answers (check_module M) x
unfolding check_methods Answers
checking_end M r x c h k e = c.rest x (subst (λ (l : List Method). Answers (check_methods M r l) x) (sym (drop_past M.methods (r - 1) (omega arith))) e)

-- ---- Ready for the next method

pub ready_next : {A : Answer Refusal Shapes} {n : ℕ} {found : List ℕ} {P : Pool} → Passing A n found P → Ready found P
ready_next p = record {
  found_size = p.kept.array;
  fine = record { tops = p.fine.tops; belows = p.fine.belows; heights = p.fine.heights; some = omega arith; few = omega arith; empty = p.fine.empty };
}

-- a method that passes is not told at fault
pub failed : {X : Type 0} (A : Answer Refusal Shapes) (G : Shapes) (f : FaultAt) → Tells (Err f) A → A ≡ ok G → X
unfolding Tells
failed A G f t e = let z : ◌≡◌ {A = Result ⊤ FaultAt} (Err f) (Ok tt) = rw e at t in absurd (cc)

pub passing_size : {A : Answer Refusal Shapes} {n k : ℕ} {found : List ℕ} {P : Pool} → n ≡ k → Passing A n found P → Passing A k found P
passing_size e p = rw (← e) p
