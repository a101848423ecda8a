-- What the steps ask for, by the work in order that they begin with.
use Prim.Native.Nat.{ℕ, ◌+◌, ◌-◌, ◌≤◌, ◌<◌}
use mathlib.Core.Path.{◌≡◌, refl, sym, ap, ◌∙◌, subst}
use mathlib.Core.List.{List}
use native.Mathlib.Omega.{arith}
use lib.ListN.{length, get_or, take, drop, length-take, length-drop}
use lib.Dec.{leb}
use mathlib.Core.Bool.{Bool, true, false}
use borrow.Author.Tests.{leb-true, leb-false}
use Rattle.model.specs.Answer.{ok}
use Rattle.model.specs.Tables.{part_of}
use Rattle.model.specs.Step.{step, lowest_free}
use Rattle.loaded.specs.Holds.{part_offset, part_length}
use Rattle.state.specs.View.{Work, view}
use Rattle.state.specs.Order.{tables_of, Good, Saved, Bounded, Ranges}
use Rattle.state.specs.Work.{Tables, waits, stay_of, code_of, acts_w, step_w}
use Rattle.state.specs.Meets.{Stays, Topped, Few, Placed}
use Rattle.faithful.proofs.Sim.{Sim}
use Rattle.faithful.proofs.Runs.{step_sim}
use Rattle.faithful.proofs.Ranges.{ranges}
use Rattle.faithful.proofs.Bounds.{Keeps, acts_bounded, step_bounded}
use Rattle.between_steps.specs.Running.{Ready, Begins}

bound_of : {n r : ℕ} → Keeps n (ok (waits r)) → r ≤ n
unfolding Keeps
bound_of k = k

module _ {code : List ℕ} {P : Tables} where
  pub in_ranges : Ready code P → Ranges code P
  in_ranges r =
      subst (λ (Q : Tables). Ranges code Q) (sym r.tables) (ranges r.module_is r.fine code r.loaded r.holds r.variables r.ancestors r.chosen r.made)

  -- a step is the model's
  pub simulates : (r : Ready code P) (c : Work) → Good r.module_is c → Sim r.module_is (step_w P code c) (step lowest_free r.module_is (view r.module_is c))
  simulates r c g =
      subst (λ (Q : Tables). Sim r.module_is (step_w Q code c) (step lowest_free r.module_is (view r.module_is c))) (sym r.tables)
      (step_sim r.module_is r.fine code r.loaded r.holds r.variables r.ancestors r.chosen r.made c g)

  -- and keeps what is saved in range
  pub keeps : (r : Ready code P) (c : Work) → Good r.module_is c → Bounded P.method_count c → Keeps P.method_count (step_w P code c)
  unfolding tables_of
  keeps r c g =
      subst (λ (Q : Tables). Bounded Q.method_count c → Keeps Q.method_count (step_w Q code c)) (sym r.tables)
      (step_bounded r.module_is r.fine code r.loaded r.holds r.variables r.ancestors r.chosen r.made c g)

  -- an instruction too
  acts_keep : (r : Ready code P) (c : Work) → Good r.module_is c → Bounded P.method_count c → c.regs.at < part_length P.parts c.regs.row
      → Keeps P.method_count (acts_w P (code_of P code c.regs.row) (stay_of P c.regs) c)
  unfolding tables_of
  acts_keep r c g =
      subst (λ (Q : Tables). Bounded Q.method_count c → c.regs.at < part_length Q.parts c.regs.row → Keeps Q.method_count (acts_w Q (code_of Q code c.regs.row) (stay_of Q c.regs) c)) (sym r.tables)
      (acts_bounded r.module_is r.fine code r.loaded r.holds r.variables r.ancestors r.chosen r.made c g)

  module _ {c : Work} (b : Begins code P c) where
    pub few : Ranges code P
    few = in_ranges b.ready

    pub row_few : c.regs.row ≤ 128
    row_few = let h = b.bounded.row_few in let k = few.methods_few in omega arith

    pub frame_few : c.regs.fp ≤ 1984
    frame_few = let f = b.good.frames.framed in let l = b.good.frames.low in omega arith

    pub stays : Stays (stay_of P c.regs)
    unfolding stay_of
    stays =
        let f = frame_few in
        let r = row_few in
        record { frame = omega arith; row = omega arith; floor_is = refl; limit_most = omega (arith, few.stack_few c.regs.row) }

    pub topped : Topped (stay_of P c.regs) c.regs.sp
    unfolding stay_of
    topped = record { low = b.good.frames.bottom; high = b.good.frames.deep }

    pub kindly : Few 3 c.kinds
    kindly = record { most = b.good.frames.kindly }

    class_few : (i : ℕ) → get_or c.classes i 0 ≤ 32
    class_few i = go (leb c.regs.made i) refl where
      go : (t : Bool) → leb c.regs.made i ≡ t → get_or c.classes i 0 ≤ 32
      go true e = let h = b.good.heap.unmade i (leb-true _ _ e) in omega arith
      go false e = let h = (b.good.heap.taken i (leb-false _ _ e)).1 in let k = b.ready.fine.classes_few in omega arith

    pub placed : Placed c.classes
    placed = record { long = b.good.heap.classes_long; few = class_few }

    pub saved : Saved 128 c.cells
    saved =
        let s = b.bounded.saved in
        let k = few.methods_few in
        record { at_few = s.at_few; depth_few = s.depth_few; row_few = λ f l. let h = s.row_few f l in omega arith }

    -- the part of the code that is the running method's
    pub part_few : part_length P.parts c.regs.row ≤ 1024
    part_few = few.length_few c.regs.row

    -- the initialiser that an instruction waits for is there
    pub first_few : c.regs.at < part_length P.parts c.regs.row → {r : ℕ} → acts_w P (code_of P code c.regs.row) (stay_of P c.regs) c ≡ ok (waits r) → r ≤ 128
    first_few inside {r} e =
        let h : r ≤ P.method_count = bound_of (subst (Keeps P.method_count) e (acts_keep b.ready c b.good b.bounded inside)) in
        let k = few.methods_few in
        omega arith

    -- the running method's code as it is cut out of the buffer
    abbrev pub cut_out : List ℕ
    cut_out = take ((part_offset P.parts c.regs.row + part_length P.parts c.regs.row) - part_offset P.parts c.regs.row) (drop (part_offset P.parts c.regs.row) code)

    pub cut_is : cut_out ≡ code_of P code c.regs.row
    unfolding code_of part_of
    cut_is =
        let e : (part_offset P.parts c.regs.row + part_length P.parts c.regs.row) - part_offset P.parts c.regs.row ≡ part_length P.parts c.regs.row = omega arith in
        rw e

    module _ (some : 0 < part_length P.parts c.regs.row) where
      pub part_inside : part_offset P.parts c.regs.row + part_length P.parts c.regs.row ≤ length code
      part_inside = few.part_inside c.regs.row some

      pub cut_long : length cut_out ≡ part_length P.parts c.regs.row
      cut_long =
          let i = part_inside in
          simp (length-take, length-drop) (omega arith)

    -- the part is as long as its row says
    pub part_long : length (code_of P code c.regs.row) ≡ part_length P.parts c.regs.row
    unfolding code_of part_of
    part_long = go (leb 1 (part_length P.parts c.regs.row)) refl where
      go : (t : Bool) → leb 1 (part_length P.parts c.regs.row) ≡ t → length (code_of P code c.regs.row) ≡ part_length P.parts c.regs.row
      go true e = let h = leb-true 1 (part_length P.parts c.regs.row) e in ap (λ (l : List ℕ). length l) (sym cut_is) ∙ cut_long (omega arith)
      go false e = let h = leb-false 1 (part_length P.parts c.regs.row) e in let z : part_length P.parts c.regs.row ≡ 0 = omega arith in rw z
