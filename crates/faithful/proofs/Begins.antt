-- The first work is in order and in range, and the model's first state is seen in it.
use Prim.Native.Nat.{ℕ, zero, suc, ◌+◌, ◌*◌, ◌≤◌, ◌<◌}
use mathlib.Core.Path.{◌≡◌, refl, ◌∙◌}
use mathlib.Core.Bool.{Bool, true, false}
use mathlib.Core.Logic.{inr}
use mathlib.Core.Option.{Option, none, some}
use mathlib.Core.List.{List, [], ◌∷◌, map}
use native.Mathlib.Omega.{arith}
use lib.ListN.{length, get_or, set, replicate, length-set, length-replicate}
use lib.Seq.{get_or-set_same, get_or-set_other}
use lib.Dec.{eqb}
use borrow.Author.Tests.{ne_eqb}
use Rattle.model.specs.Answer.{pick, or_else, those}
use Rattle.model.specs.Tables.{Method, Module, method_at, arguments, field_types, is_static_field, initialiser_of}
use Rattle.model.specs.State.{Value, zero_of, places, Frame, Machine, enter}
use Rattle.model.specs.Step.{moved}
use Rattle.model.specs.Run.{first_marks, first_frames, first}
use Rattle.loaded.specs.Holds.{method_cell, Holds}
use Rattle.loaded.specs.declared.Loaded.{Loaded}
use Rattle.state.specs.View.{Work, down, span, seen, top_of, height_of, running_of, frame_at, static_types, place_in, heap_of, mark_in, marks_of, view}
use Rattle.state.specs.Order.{Fine, tables_of, GoodMarks, Good, due_of, Saved, Bounded}
use Rattle.state.specs.Work.{Tables, copy_of, entered}
use Rattle.state.specs.Layout.{entry_w, started_w, first_w}
use Rattle.faithful.proofs.Lists.{length_copy, copy_in, copy_out, zeros}
use Rattle.faithful.proofs.Seen.{seen_ext, seen_zeros}
use Rattle.faithful.proofs.Rows.{row_in, arguments_few, locals_few, initialiser_row, initialiser_few}
use Rattle.faithful.proofs.Frames.{entered_good, entered_view}
use Rattle.faithful.proofs.Heap.{mark_set, marks_set_good}
use Rattle.faithful.proofs.Bounds.{saved_copy, saved_note, entered_bounded}

span_replicate : {A : Type 0} (f : ℕ → A) (a : A) (i n : ℕ) → ((j : ℕ) → f j ≡ a) → span f i n ≡ replicate n a
unfolding span
span_replicate f a i zero h = refl
span_replicate f a i (suc n) h = rw (h i, span_replicate f a (suc i) n h)

no_place : (M : Module) (r : ℕ) → place_in M (replicate 256 0) (replicate 2048 0) r ≡ none
unfolding place_in pick
no_place M r = rw (zeros 256 r)

blank_marks : (M : Module) → GoodMarks M (replicate 33 0)
blank_marks M = record { marks_long = length-replicate {A = ℕ} 33 0; marks_few = λ i. rw (zeros 33 i) (omega arith); no_class = λ i o. zeros 33 i }

blank_seen : (M : Module) → marks_of M (replicate 33 0) ≡ replicate (length M.parents) false
unfolding marks_of mark_in
blank_seen M = span_replicate (mark_in (replicate 33 0)) false 0 (length M.parents) (λ j. rw (zeros 33 (suc j)))

no_stack : (r : ℕ) (k : Method) (vs : List Value) → (enter r k vs).stack ≡ []
unfolding enter
no_stack r k vs = refl

module _ (M : Module) (fin : Fine M) (code : List ℕ) (L : Loaded) (hold : Holds M code L) (variables ancestors chosen : List ℕ) (bits : List ℕ) where
  abbrev e : Method
  e = method_at M.methods M.entry

  abbrev P : Tables
  P = tables_of L variables ancestors chosen

  -- the entry's frame
  abbrev E : Work
  E = entry_w (tables_of L variables ancestors chosen) M.entry bits

  owned : (0 < e.owner) × (e.owner ≤ length M.parents)
  owned = (fin.method M.entry e fin.entry).owned

  object_good : GoodMarks M (set (replicate 33 0) 1 1)
  object_good = marks_set_good M (replicate 33 0) (blank_marks M) 1 (omega arith) fin.object fin

  first_marks_lem : marks_of M (set (set (replicate 33 0) 1 1) e.owner 1) ≡ first_marks M e.owner
  unfolding first_marks
  first_marks_lem =
      let o = owned in
      mark_set M (set (replicate 33 0) 1 1) object_good e.owner o.0 o.1 fin
      ∙ rw (mark_set M (replicate 33 0) (blank_marks M) 1 (omega arith) fin.object fin, blank_seen M)

  entry_owner : method_cell L.methods M.entry 25 ≡ e.owner
  entry_owner = hold.by_method.owner M.entry

  -- how many arguments the entry takes
  abbrev count : ℕ
  count = method_cell L.methods M.entry 28

  abbrev laid : List ℕ
  laid = copy_of count bits 0 0 (replicate 2048 0)

  laid_long : length laid ≡ 2048
  laid_long = length_copy count bits 0 0 (replicate 2048 0) ∙ length-replicate {A = ℕ} 2048 0

  entry_good : Good M (entry_w (tables_of L variables ancestors chosen) M.entry bits)
  unfolding entry_w tables_of
  entry_good =
      let o = owned in
      let l = laid_long in
      record {
        frames = record {
          top = 0;
          framed = omega arith;
          low = omega arith;
          bottom = omega arith;
          deep = omega arith;
          cells_long = simp length-set laid_long;
          kinds_long = length-replicate {A = ℕ} 2048 0;
          kindly = λ i. rw (zeros 2048 i) (omega arith);
          running = get_or-set_same laid 58 M.entry 0 (omega arith);
          room = λ f l. absurd (omega arith);
        };
        statics_long = length-replicate {A = ℕ} 64 0;
        marks = rw entry_owner (marks_set_good M (set (replicate 33 0) 1 1) object_good e.owner o.0 o.1 fin);
        heap = record {
          classes_long = length-replicate {A = ℕ} 256 0;
          heap_long = length-replicate {A = ℕ} 2048 0;
          few = omega arith;
          taken = λ i l. absurd (omega arith);
          unmade = λ i l. zeros 256 i;
          blank = λ r i l q. zeros 2048 (r * 8 + i);
        };
      }

  -- the arguments as they are seen in the list that was handed over
  entry_args : seen (arguments e) (set laid 58 M.entry) 0 ≡ seen (arguments e) bits 0
  entry_args =
      let n = arguments_few M fin M.entry in
      let cnt : count ≡ length (arguments e) = hold.by_method.argument_count M.entry in
      seen_ext (arguments e) (set laid 58 M.entry) bits 0 0 (λ j q. get_or-set_other laid 58 (0 + j) M.entry 0 (λ z. omega arith) ∙ copy_in count bits 0 0 (replicate 2048 0) j (omega arith) (omega arith))

  entry_locals : seen e.locals (set laid 58 M.entry) (0 + 8) ≡ map zero_of e.locals
  entry_locals =
      let n = arguments_few M fin M.entry in
      let k = locals_few M fin M.entry in
      let cnt : count ≡ length (arguments e) = hold.by_method.argument_count M.entry in
      seen_zeros e.locals (set laid 58 M.entry) (0 + 8) (λ j q. get_or-set_other laid 58 (0 + 8 + j) M.entry 0 (λ z. omega arith) ∙ (copy_out count bits 0 0 (replicate 2048 0) (0 + 8 + j) (inr (omega arith)) ∙ zeros 2048 (0 + 8 + j)))

  entry_view : view M (entry_w (tables_of L variables ancestors chosen) M.entry bits) ≡ first_frames M (enter M.entry e (seen (arguments e) bits 0)) none
  unfolding entry_w tables_of view running_of frame_at heap_of first_frames enter down places static_types top_of height_of
  entry_view =
      let st : seen (field_types (those is_static_field M.fields)) (replicate 64 0) 0 ≡ map zero_of (field_types (those is_static_field M.fields)) = seen_zeros (field_types (those is_static_field M.fields)) (replicate 64 0) 0 (λ j q. zeros 64 (0 + j)) in
      let hp : span (place_in M (replicate 256 0) (replicate 2048 0)) 0 256 ≡ replicate 256 none = span_replicate (place_in M (replicate 256 0) (replicate 2048 0)) none 0 256 (no_place M) in
      rw (entry_owner, first_marks_lem) (rw (entry_args, entry_locals, st, hp))

  -- ---- The frame of the class's initialiser, if any, above the entry's

  initialiser_is : get_or L.initialisers (method_cell L.methods M.entry 25) 0 ≡ or_else (initialiser_of M.methods e.owner) 0
  initialiser_is = rw entry_owner (hold.by_class.initialiser e.owner)

  above_good : (r : ℕ) → initialiser_of M.methods e.owner ≡ some r → Good M (entered L.methods E r 24)
  unfolding due_of entry_w
  above_good r q =
      let i = initialiser_row M fin e.owner r q in
      let z : 0 ≡ entry_good.frames.top * 64 = entry_good.frames.framed in
      entered_good M fin E entry_good L.methods r 24 0 (hold.by_method.local_count_lem r) (omega arith) (omega arith) (rw i.1.1 (omega arith))

  -- a frame that waits at the entry's beginning
  waiting_frame : (s : Machine) (f : Frame) (vs : List Value) → s ≡ first_frames M f none → f.stack ≡ [] → (r : ℕ) (k : Method)
      → ◌≡◌ {A = Machine} (record { top = enter r k vs; below = moved s.top s.top.offset [] ∷ s.below; statics = s.statics; marks = s.marks; heap = s.heap })
      (record { top = enter r k vs; below = f ∷ []; statics = (first_frames M f none).statics; marks = (first_frames M f none).marks; heap = (first_frames M f none).heap })
  unfolding first_frames moved
  waiting_frame s f vs q z r k = rw (q, ← z)

  above_view : (r : ℕ) → initialiser_of M.methods e.owner ≡ some r → view M (entered L.methods E r 24) ≡ first_frames M (enter M.entry e (seen (arguments e) bits 0)) (some r)
  unfolding first_frames down seen entry_w
  above_view r q =
      let i = initialiser_row M fin e.owner r q in
      let z : 0 ≡ entry_good.frames.top * 64 = entry_good.frames.framed in
      entered_view M fin E entry_good L.methods r 24 0 (hold.by_method.local_count_lem r) (omega arith) (omega arith) (omega arith)
      ∙ rw i.1.0 (waiting_frame (view M E) (enter M.entry e (seen (arguments e) bits 0)) [] entry_view (no_stack _ _ _) r (method_at M.methods r))

  started_good : (o : Option ℕ) → initialiser_of M.methods e.owner ≡ o → Good M (started_w P E (or_else o 0))
  unfolding started_w or_else pick tables_of
  started_good none q = entry_good
  started_good (some r) q = let i = initialiser_row M fin e.owner r q in rw (ne_eqb r 0 (λ z. omega arith)) (above_good r q)

  started_view : (o : Option ℕ) → initialiser_of M.methods e.owner ≡ o → view M (started_w P E (or_else o 0)) ≡ first_frames M (enter M.entry e (seen (arguments e) bits 0)) o
  unfolding started_w or_else pick tables_of
  started_view none q = entry_view
  started_view (some r) q = let i = initialiser_row M fin e.owner r q in rw (ne_eqb r 0 (λ z. omega arith)) (above_view r q)

  pub first_good : Good M (first_w (tables_of L variables ancestors chosen) M.entry bits)
  unfolding first_w tables_of
  first_good = rw initialiser_is (started_good (initialiser_of M.methods e.owner) refl)

  -- the arguments are those seen in the list handed over
  pub first_view : view M (first_w (tables_of L variables ancestors chosen) M.entry bits) ≡ first M (seen (arguments e) bits 0)
  unfolding first_w first tables_of
  first_view = rw initialiser_is (started_view (initialiser_of M.methods e.owner) refl)

  -- ---- Registers in range

  abbrev most : ℕ
  most = L.counts.methods

  row_there : (r : ℕ) → r ≤ length M.methods → r ≤ most
  row_there r h = omega arith

  blank_saved : Saved most (replicate 2048 0)
  blank_saved = record { at_few = λ f q. rw (zeros 2048 (f * 64 + 56)) (omega arith); depth_few = λ f q. rw (zeros 2048 (f * 64 + 57)) (omega arith); row_few = λ f q. rw (zeros 2048 (f * 64 + 58)) (omega arith) }

  entry_bounded : Bounded most E
  unfolding entry_w tables_of
  entry_bounded =
      let i = row_in M.methods M.entry _ fin.entry in
      let n = arguments_few M fin M.entry in
      let cnt : count ≡ length (arguments e) = hold.by_method.argument_count M.entry in
      record {
        row_few = row_there _ i.1;
        at_few = omega arith;
        saved = saved_note most 58 M.entry laid (saved_copy most count bits 0 0 0 0 (replicate 2048 0) (omega arith) (omega arith) blank_saved) (λ f q. absurd (omega arith)) (λ f q. absurd (omega arith)) (λ f q. row_there _ i.1);
      }

  started_bounded : (r : ℕ) → r ≤ most → Bounded most (started_w P E r)
  unfolding started_w pick tables_of entry_w
  started_bounded r h = go (eqb r 0) where
    go : (t : Bool) → Bounded most (pick t E (entered L.methods E r 24))
    go true = entry_bounded
    go false =
        let n = locals_few M fin r in
        let cnt = hold.by_method.local_count_lem r in
        entered_bounded most L.methods E 0 r 24 (omega arith) entry_bounded.saved (omega arith) h (omega arith) (omega arith)

  pub first_bounded : Bounded L.counts.methods (first_w (tables_of L variables ancestors chosen) M.entry bits)
  unfolding first_w tables_of
  first_bounded = started_bounded _ (row_there _ (rw (hold.by_class.initialiser (method_cell L.methods M.entry 25)) (initialiser_few M fin (method_cell L.methods M.entry 25))))
