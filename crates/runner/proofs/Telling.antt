-- From the end of the loop to what is told of it.
use Prim.Native.Nat.{ℕ, suc, ◌+◌, ◌-◌, ◌/◌, ◌≤◌}
use mathlib.Core.Path.{◌≡◌, refl, sym, ap, ◌∙◌}
use mathlib.Core.Logic.{◌⊎◌, inl, inr}
use mathlib.Core.Bool.{Bool, true, false}
use mathlib.Core.List.{List}
use native.Mathlib.Omega.{arith}
use lib.ListN.{length, get_or}
use lib.Dec.{leb, eqb}
use borrow.Author.Tests.{leb-true, leb-false, eq-eqb, ne_eqb}
use Rattle.model.specs.Answer.{pick}
use Rattle.model.specs.Tables.{Module, layout_up, layout, field_types}
use Rattle.model.specs.State.{Machine}
use Rattle.model.specs.Step.{lowest_free}
use Rattle.model.specs.Run as Run
use Rattle.loaded.specs.Holds.{method_cell, Holds}
use Rattle.loaded.specs.declared.Loaded.{Loaded}
use Rattle.state.specs.declared.State.{State}
use Rattle.state.specs.View.{Work, types_of, view}
use Rattle.state.specs.Order.{Fine, HoldsTypes, Good, Saved, Bounded}
use Rattle.state.specs.Work.{due_of_byte, value_due, EndedW, halted_w, finished_w, state_seen, ended}
use Rattle.state.specs.Layout.{work_of, lay_out, save, tidy}
use Rattle.state.specs.Meets.{Placed, regs_of}
use Rattle.across_frames.specs.Lent.{Framed}
use Rattle.faithful.proofs.Ends.{state_lays}
use Rattle.begin_end.specs.Ending.{Blank}
use Rattle.line.specs.Values.{value_of}
use Rattle.line.specs.declared.line.Value.{Value}
use Rattle.line.specs.declared.line.Value.TheVariants.{None}
use Rattle.machine.specs.declared.Stopped.{Stopped}
use Rattle.machine.specs.Ending.{ended_by, Ends}
use Rattle.runner.specs.declared.summary.Summary.{Summary}
use Rattle.runner.specs.Answers.{value_in, told, Tells}
use Rattle.runner.specs.Playing.{returned, summed, ended_with}
use Rattle.runner.proofs.Values.{due_returned, due_back}

-- ---- How the loop was left

module _ (methods : List ℕ) (budget : ℕ) (r : Stopped) (c : Work) where
  -- by whether the entry returned
  abbrev by : Bool → EndedW
  by t =
      pick t (finished_w (suc (budget - r.left)) (value_due c (due_of_byte (method_cell methods r.last.row 26))) c) (halted_w r.last.how (budget - r.left) c)

  pub left_work : (ended_by methods budget r c).work ≡ c
  unfolding ended_by pick halted_w finished_w
  left_work = go (eqb r.last.how 1) where
    go : (t : Bool) → (by t).work ≡ c
    go true = refl
    go false = refl

  pub left_live : (ended_by methods budget r c).live ≡ pick (eqb r.last.how 1) 0 (suc (c.regs.fp / 64))
  unfolding ended_by pick halted_w finished_w
  left_live = go (eqb r.last.how 1) where
    go : (t : Bool) → (by t).live ≡ pick t 0 (suc (c.regs.fp / 64))
    go true = refl
    go false = refl

  pub left_value : value_of (value_in (ended_by methods budget r c).value) ≡ (ended_by methods budget r c).value
  unfolding ended_by pick halted_w finished_w value_in
  left_value = go (eqb r.last.how 1) where
    go : (t : Bool) → value_of (value_in (by t).value) ≡ (by t).value
    go true = due_back c (method_cell methods r.last.row 26)
    go false = refl

module _ (methods : List ℕ) (budget : ℕ) (r : Stopped) (s : State) (v : Value) (n : ℕ)
    (steps : n ≡ pick (eqb r.last.how 1) (suc (budget - r.left)) (budget - r.left)) where
  abbrev at_end : Work
  at_end = work_of (regs_of r.last) s

  pub told_over : r.last.how ≡ 1 → v ≡ value_in (returned (method_cell methods r.last.row 26) (get_or s.kinds (r.last.fp + 24) 0) (get_or s.cells (r.last.fp + 24) 0))
      → ◌≡◌ {A = Summary} (record { end = record { number = 0; method = r.last.row; offset = r.last.at }; steps = n; value = v })
      (summed (ended_by methods budget r at_end))
  unfolding summed ended_by pick finished_w
  told_over o e =
      let z : v ≡ value_in (value_due at_end (due_of_byte (method_cell methods r.last.row 26))) = e ∙ ap value_in (sym (due_returned at_end (method_cell methods r.last.row 26))) in
      let k : n ≡ suc (budget - r.left) = steps ∙ rw (eq-eqb _ _ o) in
      rw (k, eq-eqb _ _ o, z)

  pub told_halted : (r.last.how ≡ 1 → ⊥) → v ≡ None
      → ◌≡◌ {A = Summary} (record { end = record { number = r.last.how; method = r.last.row; offset = r.last.at }; steps = n; value = v })
      (summed (ended_by methods budget r at_end))
  unfolding summed ended_by pick halted_w value_in
  told_halted o e =
      let k : n ≡ budget - r.left = steps ∙ rw (ne_eqb _ _ o) in
      rw (k, ne_eqb _ _ o, e)

-- ---- The work that is left is in range

-- what the loop ensures: from the work `before` on, left with c
abbrev pub Runs : List ℕ → Loaded → ℕ → Work → Stopped → Work → Type 0
Runs code L budget before r c =
    (M : Module) → Fine M → Holds M code L → Good M before → Ends M L.counts.methods budget before (ended_by L.methods budget r c)

no_types : (M : Module) → length (types_of M 0) ≡ 0
unfolding types_of field_types layout layout_up
no_types M = refl

module _ (M : Module) (fin : Fine M) {code : List ℕ} {L : Loaded} (hold : Holds M code L) {budget : ℕ} {before : Work} (begun : Good M before)
    (r : Stopped) (c : Work) (runs : Runs code L budget before r c) where
  ends : Ends M L.counts.methods budget before (ended_by L.methods budget r c)
  ends = runs M fin hold begun

  good : Good M c
  good = rw (left_work L.methods budget r c) at ends.good

  bounded : Bounded L.counts.methods c
  bounded = rw (left_work L.methods budget r c) at ends.bounded

  lives : ((ended_by L.methods budget r c).live ≡ 0) ⊎ ((ended_by L.methods budget r c).live ≡ suc (c.regs.fp / 64))
  lives = rw (left_work L.methods budget r c) at ends.lives

  methods_few : L.counts.methods ≤ 128
  methods_few = let n = fin.methods_few in let e = hold.method_count in omega arith

  frame_few : c.regs.fp ≤ 1984
  frame_few = let f = good.frames.framed in let l = good.frames.low in omega arith

  -- what `told` asks for
  pub in_arrays : (c.regs.row ≤ 128) × (c.regs.fp ≤ 1984)
  in_arrays = let b = bounded.row_few in let n = methods_few in (omega arith, frame_few)

  framed : Framed c.regs.fp
  framed = let f = good.frames in record { top = f.top; low = f.low; framed = f.framed }

  live_few : {live : ℕ} → (live ≡ 0) ⊎ (live ≡ suc (c.regs.fp / 64)) → live ≤ 32
  live_few (inl e) = omega arith
  live_few (inr e) = let f = frame_few in omega arith

  saved : Saved 128 c.cells
  saved =
      let s = bounded.saved in
      let n = methods_few in
      record { at_few = s.at_few; depth_few = s.depth_few; row_few = λ f l. let h = s.row_few f l in omega arith }

  class_few : (i : ℕ) → get_or c.classes i 0 ≤ 32
  class_few i = go (leb c.regs.made i) refl where
    go : (t : Bool) → leb c.regs.made i ≡ t → get_or c.classes i 0 ≤ 32
    go true e = let h = good.heap.unmade i (leb-true _ _ e) in omega arith
    go false e = let h = (good.heap.taken i (leb-false _ _ e)).1 in let k = fin.classes_few in omega arith

  placed : Placed c.classes
  placed = record { long = good.heap.classes_long; few = class_few }

  blank : Blank c.classes c.heap
  blank = record { no_object = λ r j l e. good.heap.blank r j l (rw e (omega (arith, no_types M))) }

  module _ (live : ℕ) (lively : live ≡ pick (eqb r.last.how 1) 0 (suc (c.regs.fp / 64))) where
    live_is : live ≡ (ended_by L.methods budget r c).live
    live_is = lively ∙ sym (left_live L.methods budget r c)

    -- what `tidy` asks for
    pub tidy_asks : Framed c.regs.fp × (((c.regs.fp + 24 ≤ c.regs.sp) × (c.regs.sp ≤ c.regs.fp + 56) × (live ≤ 32))
        × (Saved 128 c.cells × (Placed c.classes × Blank c.classes c.heap)))
    tidy_asks =
        let f = good.frames in
        (framed, ((f.bottom, f.deep, rw live_is (live_few lives)), (saved, (placed, blank))))

    -- ---- What is told is the model's

    module _ (s : Summary) (sum : s ≡ summed (ended_by L.methods budget r c)) {cell_bytes static_bytes : List ℕ}
        (types : HoldsTypes M cell_bytes static_bytes) {state : State} (tidied : state ≡ tidy L.methods cell_bytes static_bytes (save c) live) where
      handed_back : state ≡ lay_out (state_seen M c live)
      handed_back = tidied ∙ state_lays M fin code L hold cell_bytes static_bytes types c good live (rw live_is lives)

      exact : ended_with s state ≡ told (ended M (ended_by L.methods budget r c))
      unfolding told ended summed
      exact = rw (handed_back, sum, live_is, left_work L.methods budget r c)

      -- where the first work is seen as the machine m
      pub tells : {m : Machine} → view M before ≡ m → Tells (Run.steps lowest_free M budget 0 m) (ended_with s state)
      unfolding ended summed
      tells {m} q =
          let says : ended M (ended_by L.methods budget r c) ≡ Run.steps lowest_free M budget 0 m = ends.says ∙ ap (Run.steps lowest_free M budget 0) q in
          record {
            exact = exact ∙ ap told says;
            value = ap (λ (t : Summary). value_of t.value) sum ∙ (left_value L.methods budget r c ∙ ap (λ (z : Run.Ended). z.value) says);
          }
