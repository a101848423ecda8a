-- The run after a step that changes the frame, and how it ends.
use Prim.Native.Nat.{ℕ, suc, ◌+◌, ◌-◌, ◌*◌, ◌≤◌, ◌<◌}
use mathlib.Core.Path.{◌≡◌, refl, sym, ap, ◌∙◌, subst}
use mathlib.Core.Bool.{Bool, true, false}
use mathlib.Core.Option.{Option}
use mathlib.Core.List.{List}
use native.Mathlib.Omega.{arith}
use lib.ListN.{length, get_or}
use lib.Dec.{eqb}
use borrow.Author.Tests.{eq-eqb, ne_eqb}
use Rattle.model.specs.Answer.{pick}
use Rattle.model.specs.Tables.{part_of}
use Rattle.model.specs.State.{Value}
use Rattle.loaded.specs.Holds.{method_cell, part_offset, part_length}
use Rattle.state.specs.declared.Stay.{Stay}
use Rattle.state.specs.View.{Regs, Work}
use Rattle.state.specs.Work.{Tables, with_regs, value_due, stay_of, code_of, step_w, EndedW, halted_w, finished_w}
use Rattle.state.specs.Order.{Saved}
use Rattle.state.specs.Meets.{Stays, Topped, Placed, answer, moves, Leaves}
use Rattle.across_frames.specs.Lent.{regs_at, on_leave, CallRanges, Framed, InFrame}
use Rattle.crossing.specs.Crossing.{crossing}
use Rattle.between_steps.proofs.Order.{few as few_of, stays, topped, row_few, saved, placed}
use Rattle.between_steps.proofs.Going.{Going, halts, finishes, again}
use Rattle.same_frame.specs.Stays.{Place, Came}
use Rattle.same_frame.specs.declared.Stayed.{Stayed}
use Rattle.same_frame.proofs.Stepped.{part_size}

-- the end with a number, n steps having been made before it: 1 is a return from the entry
unfoldable pub ends_with : ℕ → ℕ → Option Value → Work → EndedW
ends_with how n v c = pick (eqb how 1) (finished_w (suc n) v c) (halted_w how n c)

pub halts_with : (how n : ℕ) (v : Option Value) (c : Work) → 30 < how → ends_with how n v c ≡ halted_w how n c
unfolding ends_with pick
halts_with how n v c h = simp (ne_eqb how 1 (λ e. absurd (omega arith)))

-- the place of the frame with these registers
pub place_of : {code : List ℕ} {P : Tables} {y : Stay} {part : List ℕ} (g : Regs)
    → y ≡ record { fp = g.fp; mp = g.row * 32; floor = g.fp + 24; limit = g.fp + 24 + method_cell P.methods g.row 27 }
    → part ≡ part_of code (part_offset P.parts g.row) (part_length P.parts g.row) → Place code P y part g
unfolding stay_of code_of
place_of g e q = record { stay_is = e; part_is = q }

-- the type of the value that its method returns
pub due_is : (P : Tables) {y : Stay} (g : Regs) → y ≡ stay_of P g → get_or P.methods (y.mp + 26) 0 ≡ method_cell P.methods g.row 26
unfolding stay_of
due_is P g e = ap (λ (z : Stay). get_or P.methods (z.mp + 26) 0) e

-- the registers of a stay are those of the frame
pub same_regs : (P : Tables) {y : Stay} (g : Regs) → y ≡ stay_of P g → regs_at y g.row g.at g.sp g.made ≡ g
unfolding stay_of
same_regs P g e = rw e

module _ {code : List ℕ} {P : Tables} {y : Stay} {part : List ℕ} {budget : ℕ} {whole : EndedW} (r : Stayed) {c : Work} (k : Came code P y part budget whole r c)
    (p : Place code P y part c.regs) (leaves : r.next ≡ 0 → ⊥) (few : r.left ≤ budget) (inside : c.regs.at < length part) where
  more : budget - r.left < budget
  more = omega (arith, (k.leaves leaves).more, few)

  within : c.regs.at < part_length P.parts c.regs.row
  within = omega (arith, part_size k.going.begins p, inside)

  -- what the step asks for
  pub asks : InFrame y c.regs.sp c.regs.row
      × (Saved 128 c.cells × (Placed c.classes × CallRanges P.method_count P.methods P.initialisers P.chosen))
  unfolding stay_of
  asks =
      let b = k.going.begins in
      let q = few_of b in (
        record {
          stays = subst (λ (z : Stay). Stays z) (sym p.stay_is) (stays b);
          topped = subst (λ (z : Stay). Topped z c.regs.sp) (sym p.stay_is) (topped b);
          frame = subst (λ (z : Stay). Framed z.fp) (sym p.stay_is) (record { top = b.good.frames.top; low = b.good.frames.low; framed = b.good.frames.framed });
          row_few = row_few b;
        },
        (
          saved b,
          (
            placed b,
            record {
              rows = record { owner_few = q.owner_few; arguments_few = q.arguments_few; locals_few = q.locals_few };
              count_few = q.methods_few;
              root_few = λ i. omega (arith, q.root_few i, q.methods_few);
              initialiser_few = record { most = λ i. omega (arith, q.initialiser_there i, q.methods_few) };
              chosen_few = record { most = λ i. omega (arith, q.chosen_there i, q.methods_few) };
            },
          ),
        ),
      )

  abbrev before : Work
  before = on_leave c (regs_at y c.regs.row c.regs.at c.regs.sp c.regs.made) c.cells c.kinds c.marks c.classes

  before_is : before ≡ c
  before_is = ap (λ (g : Regs). with_regs c g) (same_regs P c.regs p.stay_is)

  module _ (how first d : ℕ) (after : Work) (m : Leaves how first (value_due before d) after before (crossing P part y before r.next r.first)) where
    says : moves how first (value_due c d) after ≡ step_w P code c
    says =
        subst (λ (w : Work). moves how first (value_due w d) after ≡ crossing P part y w r.next r.first) before_is m.says ∙ sym (k.leaves leaves).step

    -- the run goes on in another frame
    pub goes : how ≡ 0 → Going code P budget whole ((budget - r.left) + 1) after
    unfolding moves answer pick
    goes e = again k.going more within (sym says ∙ rw e)

    kept : (how ≡ 0 → ⊥) → with_regs after c.regs ≡ c
    kept n = ap (λ (w : Work). with_regs w c.regs) (m.kept n ∙ ap (λ (w : Work). with_regs w after.regs) before_is)

    ends_so : (how ≡ 0 → ⊥) → (how ≡ 2 → ⊥) → ends_with how (budget - r.left) (value_due c d) c ≡ whole
    unfolding ends_with moves answer pick
    ends_so n t = go (eqb how 1) refl
      where
        go : (b : Bool) → eqb how 1 ≡ b → ends_with how (budget - r.left) (value_due c d) c ≡ whole
        go true e = rw e (finishes k.going more within (sym says ∙ rw e))
        go false e = rw e (halts k.going more within (sym says ∙ simp (e, ne_eqb _ _ n, ne_eqb _ _ t)))

    -- or ends where the step began
    pub stops : (e : ℕ) → d ≡ e → (how ≡ 0 → ⊥) → (how ≡ 2 → ⊥)
        → ends_with how (budget - r.left) (value_due (with_regs after c.regs) e) (with_regs after c.regs) ≡ whole
    stops e q n t =
        subst (λ (w : Work). ends_with how (budget - r.left) (value_due w e) w ≡ whole) (sym (kept n))
        (subst (λ (x : ℕ). ends_with how (budget - r.left) (value_due c x) c ≡ whole) q (ends_so n t))

-- ---- The measure: what is left, and one more while the run goes on

one_more : (how : ℕ) → pick (eqb how 0) 1 0 ≤ 1
unfolding pick
one_more how = go (eqb how 0)
  where
    go : (b : Bool) → pick b 1 0 ≤ 1
    go true = omega arith
    go false = omega arith

-- a step was taken
pub less_left : (left rest how next : ℕ) → how ≡ 0 → rest < left → rest + pick (eqb next 0) 1 0 < left + pick (eqb how 0) 1 0
unfolding pick
less_left left rest how next e h = let k = one_more next in simp (eq-eqb _ _ e) (omega arith)

-- or the run ends
pub less_going : (left rest how next : ℕ) → how ≡ 0 → rest ≤ left → (next ≡ 0 → ⊥) → rest + pick (eqb next 0) 1 0 < left + pick (eqb how 0) 1 0
unfolding pick
less_going left rest how next e h n = simp (eq-eqb _ _ e, ne_eqb _ _ n) (omega arith)
