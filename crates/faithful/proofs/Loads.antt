-- A module that loads from bytes of code is fine.
use Prim.Native.Nat.{ℕ, zero, suc, ◌≤◌, ◌<◌}
use mathlib.Core.Path.{◌≡◌, refl}
use mathlib.Core.Bool.{Bool, true, false}
use mathlib.Core.Option.{Option, none, some}
use mathlib.Core.List.{List}
use native.Mathlib.Omega.{arith}
use lib.ListN.{length, length-map}
use mathlib.Core.Logic.{◌⊎◌, inl, inr}
use lib.Dec.{T}
use borrow.Author.Tests.{eq-eqb}
use Rattle.model.specs.Answer.{ok, row}
use Rattle.model.specs.Tables.{Ty, int32, int64, F, null, class, static, virtual, constructor, initialiser, sort_byte, is_sort, Sort, Method, Module, method_at, as_list, due, parent_of, field_types}
use Rattle.model.specs.Loading.{load}
use Rattle.model.proofs.Hoare.{All, anil, acons}
use Rattle.model.proofs.Loaded.{Declared, Loaded, loaded}
use Rattle.state.specs.View.{types_of}
use Rattle.state.specs.Order.{Named, AllNamed, FineMethod, Fine}
use Rattle.state.specs.Order as Order
use Rattle.faithful.proofs.Lists.{is_or_not}
use Rattle.faithful.proofs.Rows.{row_in, method_is, sort_is}
use Rattle.faithful.proofs.Constants.{Bytes, constants_small, part_bytes}

-- a test that holds, and its value
is_true : (b : Bool) → T b → b ≡ true
is_true true t = refl
is_true false t = absurd t

true_is : (b : Bool) → b ≡ true → T b
true_is true e = tt
true_is false e = let z : ◌≡◌ {A = ℕ} 0 1 = cc in absurd (omega arith)

declared_named : (n : ℕ) (t : Ty) → n ≤ 32 → Declared n t → Named t
unfolding Declared Named
declared_named n int32 w d = tt
declared_named n int64 w d = tt
declared_named n F w d = tt
declared_named n null w d = d
declared_named n (class c) w d = (omega arith, omega arith)

all_named : (n : ℕ) {ts : List Ty} → n ≤ 32 → All (Declared n) ts → AllNamed ts
unfolding AllNamed
all_named n w anil = tt
all_named n w (acons {a = t} p q) = (declared_named n t w p, all_named n w q)

due_named : (n : ℕ) (o : Option Ty) → n ≤ 32 → ((t : Ty) → o ≡ some t → Declared n t) → AllNamed (as_list o)
unfolding as_list AllNamed
due_named n none w h = tt
due_named n (some t) w h = (declared_named n t w (h t refl), tt)

sorted : (s t : Sort) → s ≡ t → T (is_sort s t)
unfolding is_sort
sorted s t e = rw e (true_is _ (eq-eqb (sort_byte t) (sort_byte t) refl))

unsorted : (s t : Sort) → T (is_sort s t) → s ≡ t
unsorted s t h = sort_is s t (is_true (is_sort s t) h)

module _ (code : List ℕ) (M : Module) (bytes : Bytes code) (L : Loaded code M) where
  fine_overrides : (r : ℕ) (m : Method) → row M.methods r ≡ some m → (m.overridden ≡ 0 → ⊥) → Order.Overrides m (method_at M.methods m.overridden)
  fine_overrides r m e n =
      let O = L.override r m e n in
      let K = L.agree r m e n in
      record {
        sort_virtual = unsorted m.sort virtual O.overrides;
        same_sort = rw (method_is M.methods m.overridden O.named O.is) (unsorted O.named.sort virtual O.overridden);
        same_params = K.params;
        same_returns = K.returns;
      }

  fine_earlier : (r : ℕ) (m : Method) → row M.methods r ≡ some m → (m.overridden ≡ 0) ⊎ (m.overridden ≡ 0 → ⊥) → m.overridden < r
  fine_earlier r m e (inl z) = let h = (row_in M.methods r m e).0 in omega arith
  fine_earlier r m e (inr n) = (L.override r m e n).earlier

  fine_method : (r : ℕ) (m : Method) → row M.methods r ≡ some m → FineMethod M r m
  unfolding due
  fine_method r m e =
      let F = L.method r m e in
      let part : Bytes m.code = rw F.bytes.part (part_bytes code m.offset (length m.code) bytes) in
      record {
        owned = (omega arith, F.high);
        code_few = F.bytes.most;
        stack_few = F.stack;
        arguments_few = F.count;
        locals_few = F.local_count;
        params_named = all_named (length M.parents) L.classes F.params;
        locals_named = all_named (length M.parents) L.classes F.locals;
        due_named = due_named (length M.parents) m.returns L.classes F.returns;
        earlier = fine_earlier r m e (is_or_not m.overridden 0);
        overriding = fine_overrides r m e;
        initialiser_bare = λ s. let i = F.initialises (sorted m.sort initialiser s) in (i.1, i.0);
        constructor_void = λ s. F.constructs (sorted m.sort constructor s);
        constants = λ o n d q i. constants_small m.code part o n d q i;
      }

  falling : (c : ℕ) → 0 < c → parent_of M.parents c < c
  falling zero h = absurd (omega arith)
  falling (suc c) h = let q = L.falls c in omega arith

  types_few : (c : ℕ) → length (types_of M c) ≤ 8
  unfolding types_of field_types
  types_few c = let h = L.layouts c in simp length-map h

  fine_loaded : Fine M
  fine_loaded =
      let E = L.entry in
      let F = L.method M.entry _ E.is in
      record {
        object = omega arith;
        entry = E.is;
        entry_static = unsorted (method_at M.methods M.entry).sort static E.is_static;
        classes_few = L.classes;
        fields_few = L.fields;
        methods_few = L.methods;
        falling = falling;
        field = λ r d e. let f = L.field r d e in record { owned = (omega arith, f.high); named = declared_named (length M.parents) d.type L.classes f.type };
        statics_few = L.statics;
        cells_few = types_few;
        method = fine_method;
      }

pub fine : (tables code : List ℕ) (M : Module) → Bytes code → load tables code ≡ ok M → Fine M
fine tables code M b e = fine_loaded code M b (loaded tables code M e)
