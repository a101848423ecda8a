use Prim.Native.Nat.{ℕ, ◌-◌, ◌≤◌, ◌<◌}
use mathlib.Core.Path.{◌≡◌, refl, ap, ◌∙◌}
use native.Mathlib.Omega.{arith}
use Rattle.state.specs.View.{Regs}
use Rattle.state.specs.Work.{Tables, due_of_byte}
use Rattle.state.specs.Order.{tables_of}
use Rattle.state.specs.Meets.{regs_of}
use Rattle.state.specs.Layout.{work_of}
use Rattle.between_steps.specs.Running.{lent_work}
use Rattle.between_steps.proofs.Order.{frame_few, row_few, part_inside}
use Rattle.same_frame.specs.Stays.{Place}
use Rattle.same_frame.proofs.Stepped.{moves_in, one_less}
use Rattle.machine.specs.Ending.{ended_by}
use Rattle.machine.proofs.Made.{tables_in, ends, begins_so, from_start}
use Rattle.machine.proofs.Crossed.{ends_with, halts_with, place_of, due_is, asks, goes, stops, less_left, less_going}
use Rattle.machine.proofs.steps.Goals as goal
use Rattle.one_step.specs.Told.{Lends}
use Rattle.across_frames.specs.Lent.{Lends as CrossingLends}

-- the tables that were made, and the loaded module's, are what they lend
lent : {P : Tables} → Lends P P.class_count P.field_count P.methods P.variables P.fields P.initialisers P.ancestors
lent = record {
  same_classes = refl;
  same_field_count = refl;
  same_methods = refl;
  same_variables = refl;
  same_fields = refl;
  same_initialisers = refl;
  same_ancestors = refl;
}

crossing_lent : {P : Tables} → CrossingLends P P.method_count P.methods P.initialisers P.ancestors P.chosen
crossing_lent = record { same_count = refl; same_methods = refl; same_initialisers = refl; same_ancestors = refl; same_chosen = refl }

pub loop-last-init : goal.loop-last-init
loop-last-init c =
    let A = c.args in
    let S = c.requires in
    (omega arith, (λ _. from_start (begins_so _ _ _ S (c.prepare.ensures S.module_is A.code.now S.fine S.holds)), (λ n. absurd (n refl), refl)))

pub stay-y-requires : goal.stay-y-requires
stay-y-requires c =
    let g = c.loop-last.invariant.1.0 c.loop-last-test.true in (frame_few g.begins, row_few g.begins)

pub body-part-requires : goal.body-part-requires
body-part-requires c =
    let b = (c.loop-last.invariant.1.0 c.loop-last-test.true).begins in (row_few b, part_inside b)

pub same_frame-s-requires : goal.same_frame-s-requires
same_frame-s-requires c =
    let A = c.args in
    let P = tables_in A.loaded.now c.prepare.new.made in
    let l = c.loop-last in
    let g : Regs = regs_of l.last in
    let p : Place A.code.now P c.stay-y.result c.body-part.result.now g = place_of g c.stay-y.ensures c.body-part.ensures in
    record {
      code = A.code.now;
      tables = P;
      work = work_of g l.state;
      lends = lent;
      place = p;
      begins = (l.invariant.1.0 c.loop-last-test.true).begins;
    }

-- ---- After a stay

-- a stay that ends the run
ends_late : (how : ℕ) → 30 < how → how ≡ 0 → ⊥
ends_late how h e = absurd (omega arith)

pub loop-last-smaller-then-s-eq0 : goal.loop-last-smaller-then-s-eq0
loop-last-smaller-then-s-eq0 c =
    let A = c.args in
    let P = tables_in A.loaded.now c.prepare.new.made in
    let l = c.loop-last in
    let g : Regs = regs_of l.last in
    let p : Place A.code.now P c.stay-y.result c.body-part.result.now g = place_of g c.stay-y.ensures c.body-part.ensures in
    let s = c.same_frame-s in
    let k = s.ensures.came A.code.now P (work_of g l.state) A.budget _ lent p l.invariant.0 (l.invariant.1.0 c.loop-last-test.true) in
    less_going _ _ _ _ c.loop-last-test.true s.ensures.left_at_most (ends_late _ (k.late c.if-s-eq0.true))

pub loop-last-preserved-then-s-eq0 : goal.loop-last-preserved-then-s-eq0
loop-last-preserved-then-s-eq0 c =
    let A = c.args in
    let P = tables_in A.loaded.now c.prepare.new.made in
    let l = c.loop-last in
    let g : Regs = regs_of l.last in
    let p : Place A.code.now P c.stay-y.result c.body-part.result.now g = place_of g c.stay-y.ensures c.body-part.ensures in
    let s = c.same_frame-s in
    let k = s.ensures.came A.code.now P (work_of g l.state) A.budget _ lent p l.invariant.0 (l.invariant.1.0 c.loop-last-test.true) in
    let few : s.result.left ≤ A.budget = omega (arith, s.ensures.left_at_most, l.invariant.0) in
    let z = c.if-s-eq0.true in
    (few, (λ e. absurd (ends_late _ (k.late z) e), (λ n. (halts_with _ _ _ _ (k.late z) ∙ k.stops z, λ e. absurd (omega (arith, k.late z, e))), l.invariant.1.1.1)))

pub cross-r-requires : goal.cross-r-requires
cross-r-requires c =
    let A = c.args in
    let P = tables_in A.loaded.now c.prepare.new.made in
    let l = c.loop-last in
    let g : Regs = regs_of l.last in
    let p : Place A.code.now P c.stay-y.result c.body-part.result.now g = place_of g c.stay-y.ensures c.body-part.ensures in
    let s = c.same_frame-s in
    let k = s.ensures.came A.code.now P (work_of g l.state) A.budget _ lent p l.invariant.0 (l.invariant.1.0 c.loop-last-test.true) in
    let few : s.result.left ≤ A.budget = omega (arith, s.ensures.left_at_most, l.invariant.0) in
    let n = c.if-s-eq0.false in
    let m = k.leaves n in
    let q = asks _ k (moves_in s.result.at s.result.sp p) n few m.crosses.inside in
    record { in_frame = q.0; saved = q.1.0; placed = q.1.1.0; call_ranges = q.1.1.1; crosses = m.crosses }

-- ---- After a step that changed the frame

pub overflow_sub-left : goal.overflow_sub-left
overflow_sub-left c =
    let A = c.args in
    let P = tables_in A.loaded.now c.prepare.new.made in
    let l = c.loop-last in
    let g : Regs = regs_of l.last in
    let p : Place A.code.now P c.stay-y.result c.body-part.result.now g = place_of g c.stay-y.ensures c.body-part.ensures in
    let s = c.same_frame-s in
    let k = s.ensures.came A.code.now P (work_of g l.state) A.budget _ lent p l.invariant.0 (l.invariant.1.0 c.loop-last-test.true) in
    (k.leaves c.if-s-eq0.false).more

pub loop-last-smaller-then-r-eq-ON : goal.loop-last-smaller-then-r-eq-ON
loop-last-smaller-then-r-eq-ON c =
    let A = c.args in
    let P = tables_in A.loaded.now c.prepare.new.made in
    let l = c.loop-last in
    let g : Regs = regs_of l.last in
    let p : Place A.code.now P c.stay-y.result c.body-part.result.now g = place_of g c.stay-y.ensures c.body-part.ensures in
    let s = c.same_frame-s in
    let k = s.ensures.came A.code.now P (work_of g l.state) A.budget _ lent p l.invariant.0 (l.invariant.1.0 c.loop-last-test.true) in
    let few : s.result.left ≤ A.budget = omega (arith, s.ensures.left_at_most, l.invariant.0) in
    let n = c.if-s-eq0.false in
    let m = k.leaves n in
    less_left l.left (s.result.left - 1) _ c.cross-r.result.how c.loop-last-test.true (omega (arith, m.more, s.ensures.left_at_most))

pub loop-last-preserved-then-r-eq-ON : goal.loop-last-preserved-then-r-eq-ON
loop-last-preserved-then-r-eq-ON c =
    let A = c.args in
    let P = tables_in A.loaded.now c.prepare.new.made in
    let l = c.loop-last in
    let g : Regs = regs_of l.last in
    let p : Place A.code.now P c.stay-y.result c.body-part.result.now g = place_of g c.stay-y.ensures c.body-part.ensures in
    let s = c.same_frame-s in
    let k = s.ensures.came A.code.now P (work_of g l.state) A.budget _ lent p l.invariant.0 (l.invariant.1.0 c.loop-last-test.true) in
    let few : s.result.left ≤ A.budget = omega (arith, s.ensures.left_at_most, l.invariant.0) in
    let n = c.if-s-eq0.false in
    let m = k.leaves n in
    let h = moves_in s.result.at s.result.sp p in
    let after = lent_work (record { fp = l.last.fp; row = l.last.row; at = s.result.at; sp = s.result.sp; made = l.last.made }) s.new.cells s.new.kinds s.new.marks l.state.classes s.new.heap s.new.statics in (
      omega (arith, few),
      (
        λ _. one_less m.more few (omega arith)
            (goes _ k h n few m.crosses.inside _ _ _ _ (c.cross-r.ensures.leaves P after crossing_lent) c.if-r-eq-ON.true),
        (λ x. absurd (x c.if-r-eq-ON.true), l.invariant.1.1.1),
      ),
    )

pub loop-last-smaller : goal.loop-last-smaller
loop-last-smaller c =
    let A = c.args in
    let P = tables_in A.loaded.now c.prepare.new.made in
    let l = c.loop-last in
    let g : Regs = regs_of l.last in
    let p : Place A.code.now P c.stay-y.result c.body-part.result.now g = place_of g c.stay-y.ensures c.body-part.ensures in
    let s = c.same_frame-s in
    let k = s.ensures.came A.code.now P (work_of g l.state) A.budget _ lent p l.invariant.0 (l.invariant.1.0 c.loop-last-test.true) in
    less_going _ _ _ _ c.loop-last-test.true s.ensures.left_at_most c.if-r-eq-ON.false

pub loop-last-preserved : goal.loop-last-preserved
loop-last-preserved c =
    let A = c.args in
    let P = tables_in A.loaded.now c.prepare.new.made in
    let l = c.loop-last in
    let g : Regs = regs_of l.last in
    let p : Place A.code.now P c.stay-y.result c.body-part.result.now g = place_of g c.stay-y.ensures c.body-part.ensures in
    let s = c.same_frame-s in
    let k = s.ensures.came A.code.now P (work_of g l.state) A.budget _ lent p l.invariant.0 (l.invariant.1.0 c.loop-last-test.true) in
    let few : s.result.left ≤ A.budget = omega (arith, s.ensures.left_at_most, l.invariant.0) in
    let n = c.if-s-eq0.false in
    let m = k.leaves n in
    let h = moves_in s.result.at s.result.sp p in
    let after = lent_work (record { fp = l.last.fp; row = l.last.row; at = s.result.at; sp = s.result.sp; made = l.last.made }) s.new.cells s.new.kinds s.new.marks l.state.classes s.new.heap s.new.statics in (
      few,
      (
        λ e. absurd (c.if-r-eq-ON.false e),
        (
          λ x. (
            stops _ k h n few m.crosses.inside _ _ _ _ (c.cross-r.ensures.leaves P after crossing_lent)
                _ (ap due_of_byte (due_is P after.regs h.stay_is)) x c.cross-r.ensures.never_result,
            λ _. m.more,
          ),
          l.invariant.1.1.1,
        ),
      ),
    )

pub returns : goal.returns
unfolding tables_of ended_by ends_with
returns c =
    let A = c.args in
    let x = c.loop-last.invariant.1.1.0 c.loop-last-test.false in
    record {
      result_range = (c.loop-last.invariant.0, x.1);
      live = c.loop-last.invariant.1.1.1;
      ends = λ M fin hold good. ends M A.code.now A.loaded.now _ _ _ fin hold (c.prepare.ensures M A.code.now fin hold) A.budget _ good c.requires.bounded _ x.0;
    }
