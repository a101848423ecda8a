-- What a loaded module tells, and that the tables made from it hold what the model says.
use Prim.Native.Nat.{ℕ, zero, suc, ◌+◌, ◌*◌, ◌%◌, ◌≤◌, ◌<◌}
use mathlib.Core.Path.{◌≡◌, refl, ap, ◌∙◌}
use mathlib.Core.Bool.{Bool, true, false}
use mathlib.Core.Option.{Option, none, some}
use mathlib.Core.List.{List}
use native.Mathlib.Omega.{arith}
use native.Mathlib.Nat.{mod-eq_of_lt}
use lib.ListN.{length, get_or, length-append}
use lib.Dec.{eqb}
use Rattle.model.specs.Answer.{pick, or_else, at, row, those}
use Rattle.model.specs.Tables.{Field, Method, Module, no_method, method_at, parent_of, is_own, layout, root_up, root}
use Rattle.loaded.specs.declared.Counts.{Counts}
use Rattle.loaded.specs.declared.Loaded.{Loaded}
use Rattle.loaded.specs.Holds.{Holds, byte_at, from_row}
use Rattle.state.specs.View.{types_of, static_types}
use Rattle.state.specs.Order.{Fine, HoldsChosen, HoldsTypes}
use Rattle.prepare.specs.Rows.{Inherited}
use Rattle.prepare.specs.Told.{FieldTold, FieldsTold, inherits, LaidTo, MethodsTold, OwnFrom}
use Rattle.prepare.proofs.Lists.{at_past, row_in}
use Rattle.prepare.proofs.Up.{layout_once}
use Rattle.prepare.proofs.Fields.{types_long, cells_are, statics_are}
use Rattle.prepare.proofs.Methods.{chosen_are}

-- past the last class there is no parent
pub parents_past : (ps : List ℕ) (c : ℕ) → length ps < c → parent_of ps c ≡ 0
unfolding parent_of row or_else
parents_past ps zero h = absurd (omega arith)
parents_past ps (suc c) h = rw (at_past ps c (omega arith))

-- what stands for a row is what is there
method_at_lem : (ms : List Method) (r : ℕ) (m : Method) → row ms r ≡ some m → method_at ms r ≡ m
unfolding method_at or_else
method_at_lem ms r m e = rw e

from_some : {A : Type 0} (f : A → ℕ) (o : Option A) (a : A) → o ≡ some a → from_row f o ≡ f a
unfolding from_row
from_some f o a e = rw e

-- a root is no later row
root_low : (ms : List Method) → ((r : ℕ) → (method_at ms r).overridden ≤ r) → (n r : ℕ) → root_up ms n r ≤ r
unfolding root_up pick
root_low ms h zero r = omega arith
root_low ms h (suc n) r = go (eqb (method_at ms r).overridden 0) (root_low ms h n (method_at ms r).overridden)
  where
    go : (b : Bool) → root_up ms n (method_at ms r).overridden ≤ (method_at ms r).overridden → pick b r (root_up ms n (method_at ms r).overridden) ≤ r
    go true k = omega arith
    go false k = omega (arith, h r)

module _ (M : Module) (code : List ℕ) (L : Loaded) (F : Fine M) (H : Holds M code L) where
  cells_long : (c : ℕ) → 0 < c → inherits M.parents M.fields c + length (those (is_own c) M.fields) ≤ 8
  unfolding inherits types_of
  cells_long c h =
      omega (
        arith,
        F.cells_few c,
        types_long (layout M.parents M.fields c),
        ap length (layout_once M.parents M.fields F.falling c h),
        length-append (layout M.parents M.fields (parent_of M.parents c)) (those (is_own c) M.fields),
      )

  field_told : (r : ℕ) (d : Field) → row M.fields r ≡ some d → FieldTold M.parents M.fields L.fields r d
  field_told r d e = record {
    owner = H.by_field.owner r ∙ from_some _ _ d e;
    owned = ((F.field r d e).owned.0, omega (arith, (F.field r d e).owned.1, F.classes_few));
    flagged = H.by_field.static r ∙ from_some _ _ d e;
    type = H.by_field.type r ∙ from_some _ _ d e;
    slot_at = H.by_field.slot_at r ∙ from_some _ _ d e;
  }

  fields_told : FieldsTold M.parents M.fields L.fields
  fields_told = record { few = omega (arith, F.fields_few); told = field_told; cells_few = cells_long; statics_few = F.statics_few }

  overridden_low : (r : ℕ) → (method_at M.methods r).overridden ≤ r
  unfolding method_at or_else no_method
  overridden_low r = go (row M.methods r) refl
    where
      go : (o : Option Method) → row M.methods r ≡ o → (or_else o no_method).overridden ≤ r
      go none e = omega arith
      go (some m) e = omega (arith, (F.method r m e).earlier)

  root_few : (r : ℕ) (m : Method) → row M.methods r ≡ some m → root M.methods r < 129
  unfolding root
  root_few r m e = omega (arith, root_low M.methods overridden_low r r, (row_in M.methods r m e).1, F.methods_few)

  methods_told : MethodsTold M.methods L.methods
  methods_told = record {
    few = omega (arith, F.methods_few);
    owner = λ r m e. H.by_method.owner r ∙ ap (λ k. k.owner) (method_at_lem M.methods r m e);
    owned = λ r m e. omega (arith, (F.method r m e).owned.1, F.classes_few);
    root_at_lem = λ r m e. H.by_method.root_at_lem r ∙ from_some _ _ m e;
    root_few = root_few;
  }

  field_owned : (n : ℕ) (f : Field) → at M.fields n ≡ some f → 0 < f.owner
  unfolding row
  field_owned n f e = (F.field (suc n) f e).owned.0

  method_owned : (n : ℕ) (m : Method) → at M.methods n ≡ some m → 0 < m.owner
  unfolding row
  method_owned n m e = (F.method (suc n) m e).owned.0

  module _ (counts : Counts) (parents : List ℕ) (same-counts : L.counts ≡ counts) (same-parents : L.parents ≡ parents) where
    parent : (c : ℕ) → get_or parents c 0 ≡ parent_of M.parents c
    parent c = rw (← same-parents) (H.by_class.parent c)

    past : (c : ℕ) → length M.parents < c → get_or parents c 0 ≡ 0
    past c h = parent c ∙ parents_past M.parents c h

    counted : counts.classes % 33 ≡ length M.parents
    counted = rw (← same-counts, H.class_count) (mod-eq_of_lt (omega (arith, F.classes_few)))

    methods_counted : counts.methods % 129 ≡ length M.methods
    methods_counted = rw (← same-counts, H.method_count) (mod-eq_of_lt (omega (arith, F.methods_few)))

    methods_are : counts.methods ≡ length M.methods
    methods_are = rw (← same-counts) H.method_count

    fields_are : counts.fields ≡ length M.fields
    fields_are = rw (← same-counts) H.field_count

    module _ (methods own chosen : List ℕ) (same_methods : L.methods ≡ methods)
        (O : (ms : List Method) → MethodsTold ms methods → counts.methods ≡ length ms → OwnFrom ms 0 own)
        (I : Inherited parents 129 (counts.methods % 129 + 1) (counts.classes % 33 + 1) own chosen) where
      own_of : OwnFrom M.methods 0 own
      own_of = O M.methods (rw (← same_methods) methods_told) methods_are

      inherited_of : Inherited parents 129 (length M.methods + 1) (length M.parents + 1) own chosen
      inherited_of = rw (methods_counted, counted) at I

      pub chosen_holds : HoldsChosen M chosen
      chosen_holds = record {
        row_at = λ c q low high pos few. chosen_are M parents own chosen past parent F.falling method_owned own_of inherited_of F.methods_few c q
            (omega (arith, F.classes_few)) few;
        there = inherited_of.few (length M.methods) own_of.there;
      }

    module _ (fields laid cells statics : List ℕ) (same_fields : L.fields ≡ fields)
        (K : (ps : List ℕ) (fs : List Field) → FieldsTold ps fs fields → counts.fields ≡ length fs → LaidTo ps fs counts.fields laid statics)
        (I : Inherited parents 8 8 (counts.classes % 33 + 1) laid cells) where
      all_laid : LaidTo M.parents M.fields (length M.fields) laid statics
      all_laid = rw fields_are at (K M.parents M.fields (rw (← same_fields) fields_told) fields_are)

      cell_types : (c i : ℕ) → c < 33 → i < 8 → get_or cells (c * 8 + i) 0 ≡ byte_at (at (types_of M c) i)
      unfolding types_of
      cell_types = cells_are M.parents M.fields parents laid statics cells past parent F.falling field_owned all_laid (rw counted at I)

      static_types_lem : (i : ℕ) → i < 64 → get_or statics i 0 ≡ byte_at (at (static_types M) i)
      unfolding static_types
      static_types_lem = statics_are M.parents M.fields parents laid statics cells past parent F.falling field_owned all_laid (rw counted at I)

      pub types_hold : HoldsTypes M cells statics
      types_hold = record { cell_type = λ c i h k. cell_types c i (omega arith) k; static_type = static_types_lem }
