-- The tables of a module that is fine are in range.
use Prim.Native.Nat.{ℕ, zero, suc, ◌+◌, ◌≤◌, ◌<◌}
use mathlib.Core.Path.{◌≡◌, refl, ap, ◌∙◌}
use mathlib.Core.Bool.{Bool, true, false}
use mathlib.Core.Option.{Option, none, some}
use mathlib.Core.List.{List}
use native.Mathlib.Omega.{arith}
use lib.ListN.{length, take, drop, length-take, length-drop, length-map}
use borrow.Author.Tests.{eq-eqb}
use Rattle.model.specs.Answer.{row}
use Rattle.model.specs.Tables.{Field, Method, Module, no_method, method_at, part_of, climbs, descends, field_types, slot, root}
use Rattle.model.specs.Operators.{flag}
use Rattle.model.specs.Step.{slot_in}
use Rattle.loaded.specs.Holds.{from_row, method_cell, field_cell, part_offset, part_length, Holds}
use Rattle.loaded.specs.declared.Loaded.{Loaded}
use Rattle.state.specs.View.{static_types}
use Rattle.state.specs.Order.{Fine, tables_of, HoldsMade, Ranges}
use Rattle.faithful.proofs.Lists.{at_in}
use Rattle.faithful.proofs.Rows.{row_in, every, stack_few, arguments_few, locals_few, initialiser_few, rooted}
use Rattle.faithful.proofs.Slots.{slot_found, static_found}

descends_itself : (ps : List ℕ) (c : ℕ) → 0 < c → descends ps c c ≡ true
unfolding descends climbs
descends_itself ps zero h = absurd (omega arith)
descends_itself ps (suc c) h = rw (eq-eqb (suc c) (suc c) refl)

module _ (M : Module) (fin : Fine M) (code : List ℕ) (L : Loaded) (hold : Holds M code L) where
  -- a method's owner is a class, also where there is no method
  owner_few : (r : ℕ) → (method_at M.methods r).owner ≤ 32
  unfolding no_method
  owner_few r = every M fin (λ m. m.owner ≤ 32) (λ r m f. omega arith) (omega arith) r

  code_few : (r : ℕ) → length (method_at M.methods r).code ≤ 1024
  unfolding no_method
  code_few r = every M fin (λ m. length m.code ≤ 1024) (λ r m f. f.code_few) (omega arith) r

  field_owner_few : (r : ℕ) → field_cell L.fields r 0 ≤ 32
  unfolding from_row
  field_owner_few r = rw (hold.by_field.owner r) (go (row M.fields r) refl) where
    go : (o : Option Field) → row M.fields r ≡ o → from_row (λ (d : Field). d.owner) o ≤ 32
    go none e = omega arith
    go (some d) e = let h = (fin.field r d e).owned.1 in omega arith

  statics_long : length (static_types M) ≤ 64
  unfolding static_types field_types
  statics_long = let few = fin.statics_few in simp length-map few

  -- the cell of a field: 8 for an object, 64 static ones
  slot_few : (r : ℕ) (d : Field) → row M.fields r ≡ some d → (b : Bool) → d.is_static ≡ b → (slot M.parents M.fields r d < 64) × (flag b ≡ 0 → slot M.parents M.fields r d < 8)
  unfolding slot_in flag
  slot_few r d e true s =
      let i = at_in _ _ _ (static_found M fin r d e s) in
      let k = statics_long in
      (omega arith, λ z. absurd (omega arith))
  slot_few r d e false s =
      let i = at_in _ _ _ (slot_found M fin r d.owner d e s (descends_itself M.parents d.owner (fin.field r d e).owned.0)) in
      let k = fin.cells_few d.owner in
      (omega arith, λ z. omega arith)

  cell_few : (r : ℕ) → (field_cell L.fields r 3 < 64) × (field_cell L.fields r 1 ≡ 0 → field_cell L.fields r 3 < 8)
  unfolding from_row
  cell_few r = rw (hold.by_field.slot_at r, hold.by_field.static r) (go (row M.fields r) refl) where
    go : (o : Option Field) → row M.fields r ≡ o → (from_row (slot M.parents M.fields r) o < 64) × (from_row (λ (d : Field). flag d.is_static) o ≡ 0 → from_row (slot M.parents M.fields r) o < 8)
    go none e = (omega arith, λ z. omega arith)
    go (some d) e = slot_few r d e d.is_static refl

  root_few : (r : ℕ) → method_cell L.methods r 30 ≤ length M.methods
  unfolding from_row
  root_few r = rw (hold.by_method.root_at_lem r) (go (row M.methods r) refl) where
    go : (o : Option Method) → row M.methods r ≡ o → from_row (λ (m : Method). root M.methods r) o ≤ length M.methods
    go none e = omega arith
    go (some m) e = let i = row_in M.methods r m e in (rooted M fin r i.0 i.1).below

  part_inside : (r : ℕ) → 0 < part_length L.parts r → part_offset L.parts r + part_length L.parts r ≤ length code
  unfolding part_of
  part_inside r h =
      let p : (method_at M.methods r).code ≡ take (part_length L.parts r) (drop (part_offset L.parts r) code) = hold.by_method.part r in
      let s : part_length L.parts r ≡ length (method_at M.methods r).code = hold.by_method.size r in
      let l : part_length L.parts r ≡ length (take (part_length L.parts r) (drop (part_offset L.parts r) code)) = s ∙ ap length p in
      let t = length-take (part_length L.parts r) (drop (part_offset L.parts r) code) in
      let d = length-drop (part_offset L.parts r) code in
      omega arith

  pub ranges : (variables ancestors chosen : List ℕ) → HoldsMade M L variables ancestors chosen → Ranges code (tables_of L variables ancestors chosen)
  unfolding tables_of
  ranges variables ancestors chosen made =
      record {
        classes_few = omega arith;
        fields_few = omega arith;
        methods_few = omega arith;
        initialiser_there = λ c. let i = initialiser_few M fin c in let e = hold.by_class.initialiser c in omega arith;
        field_owner_few = field_owner_few;
        cell_few = λ r. (cell_few r).1;
        static_few = λ r. (cell_few r).0;
        owner_few = λ r. rw (hold.by_method.owner r) (owner_few r);
        stack_few = λ r. rw (hold.by_method.stack r) (stack_few M fin r);
        arguments_few = λ r. rw (hold.by_method.argument_count r) (arguments_few M fin r);
        locals_few = λ r. rw (hold.by_method.local_count_lem r) (locals_few M fin r);
        root_few = λ r. let h = root_few r in omega arith;
        chosen_there = λ i. let h = made.by_root.there i in omega arith;
        length_few = λ r. rw (hold.by_method.size r) (code_few r);
        part_inside = part_inside;
      }
