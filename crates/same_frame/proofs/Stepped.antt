-- What a step of a stay asks for, and what it comes to for the run.
use Prim.Native.Nat.{ℕ, ◌+◌, ◌-◌, ◌≤◌, ◌<◌}
use mathlib.Core.Path.{◌≡◌, refl, sym, ap, ◌∙◌, subst}
use mathlib.Core.Bool.{Bool, true, false, not, ◌||◌}
use mathlib.Core.List.{List}
use native.Mathlib.Omega.{arith}
use lib.ListN.{length, get_or}
use lib.Dec.{eqb}
use borrow.Author.Tests.{ne_eqb}
use Rattle.model.specs.Answer.{bad, ok, ◌>>=◌, pick}
use Rattle.loaded.specs.Holds.{part_length}
use Rattle.state.specs.declared.Leave.{Leave}
use Rattle.state.specs.declared.Leave.TheVariants.{Ret, Call, Callvirt, Newobj}
use Rattle.state.specs.declared.Stay.{Stay}
use Rattle.state.specs.declared.Step.{Step}
use Rattle.state.specs.declared.Step.TheVariants.{On, Start, Ends, Leaves}
use Rattle.state.specs.View.{Regs, Work}
use Rattle.state.specs.Order.{Ranges}
use Rattle.state.specs.Work.{Tables, runs, waits, with_regs, moved_to, stay_of, code_of, acts_w, settle, step_w, EndedW, halted_w}
use Rattle.state.specs.Meets.{Stays, Topped, Few, Placed, answer}
use Rattle.state.specs.Steps.{leave_number, led, ends_run}
use Rattle.in_frame.specs.Tries.{Reads}
use Rattle.fields.specs.Members.{FieldRanges}
use Rattle.crossing.specs.Crossing.{crossing}
use Rattle.one_step.specs.Told.{RestRanges, Lends, Tells}
use Rattle.one_step.proofs.Promised.{leaves_to}
use Rattle.between_steps.specs.Running.{Begins}
use Rattle.between_steps.proofs.Order.{few, stays, topped, kindly, placed, part_few, part_long, first_few}
use Rattle.between_steps.proofs.Going.{Going, used, past_end, steps_so, halts, ends_late, again}
use Rattle.same_frame.specs.Stays.{Place, Came, stopped_by}

-- ---- What is left of a budget

pub some_left : {left : ℕ} → (left ≡ 0 → ⊥) → 0 < left
some_left n = omega arith

pub more_left : {left budget most : ℕ} → (left ≡ 0 → ⊥) → left ≤ budget → budget ≤ most → most - left < most
more_left n h k = omega arith

-- a step takes one
pub one_less : {code : List ℕ} {P : Tables} {most budget left : ℕ} {whole : EndedW} {c : Work} → 0 < left → left ≤ budget → budget ≤ most
    → Going code P most whole ((most - left) + 1) c → Going code P most whole (most - (left - 1)) c
one_less {code} {P} {most} {whole = whole} {c = c} z h k = subst (λ (n : ℕ). Going code P most whole n c) (omega arith)

-- the place is the same wherever the frame is
pub moves_in : {code : List ℕ} {P : Tables} {y : Stay} {part : List ℕ} {g : Regs} (o s : ℕ) → Place code P y part g → Place code P y part (moved_to g o s)
unfolding stay_of
moves_in o s p = record { stay_is = p.stay_is; part_is = p.part_is }

rest_ranges : {code : List ℕ} {P : Tables} {n k : ℕ} {methods variables fields initialisers ancestors : List ℕ} → Ranges code P
    → Lends P n k methods variables fields initialisers ancestors → RestRanges n k fields initialisers
rest_ranges r l =
    record {
      classes_few = omega (arith, l.same_classes, r.classes_few);
      fields_few = omega (arith, l.same_field_count, r.fields_few);
      ranges = subst (λ (f : List ℕ). FieldRanges f) l.same_fields (record { owner_few = r.field_owner_few; cell_few = r.cell_few; static_few = r.static_few });
      initialiser_few = subst (λ (f : List ℕ). Few 128 f) l.same_initialisers (record { most = λ i. omega (arith, r.initialiser_there i, r.methods_few) });
    }

-- ---- What a step came to

never_two : (l : Leave) → leave_number l ≡ 2 → ⊥
never_two Ret e = absurd (omega arith)
never_two Call e = absurd (omega arith)
never_two Callvirt e = absurd (omega arith)
never_two Newobj e = absurd (omega arith)

-- a number that ends the run does so
refuses : (first : ℕ) (c : Work) (e : ℕ) → ends_run e ≡ true → answer e first c ≡ bad e
unfolding answer pick
refuses first c e h = go (eqb e 0) refl (eqb e 2) refl h
  where
    go : (z : Bool) → eqb e 0 ≡ z → (t : Bool) → eqb e 2 ≡ t → not (z || t) ≡ true → answer e first c ≡ bad e
    go false p false q k = simp (p, q)
    go true p t q k = cc
    go false p true q k = cc

not_zero : (e : ℕ) → ends_run e ≡ true → e ≡ 0 → ⊥
not_zero e h z = let k : ends_run 0 ≡ true = subst (λ (n : ℕ). ends_run n ≡ true) z h in cc

-- the work where the step began, as the step left the arrays
as_before : (c after : Work) (t : Step) → led t after ≡ with_regs c (led t after).regs → with_regs after c.regs ≡ c
as_before c after t e = ap (λ (w : Work). with_regs w c.regs) e

-- ---- What is asked

module _ {code : List ℕ} {P : Tables} {y : Stay} {part : List ℕ} {c : Work} (b : Begins code P c) (p : Place code P y part c.regs) where
  pub part_size : length part ≡ part_length P.parts c.regs.row
  part_size = ap (λ (l : List ℕ). length l) p.part_is ∙ part_long b

  pub asks : {n k : ℕ} {methods variables fields initialisers ancestors : List ℕ} → Lends P n k methods variables fields initialisers ancestors → (x : ℕ)
      → c.regs.at < length part → (get_or part c.regs.at 0 ≡ x) × (x < 256)
      → Stays y × (Topped y c.regs.sp × (Reads c.regs.at part x × (Few 3 c.kinds × (Placed c.classes × RestRanges n k fields initialisers))))
  asks l x h e = (
    subst (λ (z : Stay). Stays z) (sym p.stay_is) (stays b),
    (
      subst (λ (z : Stay). Topped z c.regs.sp) (sym p.stay_is) (topped b),
      (record { inside = h; most = omega (arith, part_size, part_few b); byte = e.0; few = e.1 }, (kindly b, (placed b, rest_ranges (few b) l))),
    ),
  )

-- ---- What it comes to

module _ {code : List ℕ} {P : Tables} {y : Stay} {part : List ℕ} {most : ℕ} {whole : EndedW} {n : ℕ} {c : Work} (g : Going code P most whole n c)
    (p : Place code P y part c.regs) where
  -- where the run ends before a step
  stops_here : (how left : ℕ) → n ≡ most - left → 30 < how → halted_w how n c ≡ whole
      → Came code P y part most whole (stopped_by (Ends how) c.regs.at c.regs.sp left) c
  stops_here how left counted late e =
      record {
        going = subst (λ (k : ℕ). Going code P most whole k c) counted g;
        stops = λ _. subst (λ (k : ℕ). halted_w how k c ≡ whole) counted e;
        late = λ _. late;
        leaves = λ q. absurd (q refl);
      }

  -- the code ends before the offset
  pub past : (left : ℕ) → n ≡ most - left → n < most → length part ≤ c.regs.at
      → Came code P y part most whole (stopped_by (Ends 46) c.regs.at c.regs.sp left) c
  past left counted more h = stops_here 46 left counted (omega arith) (past_end g more (omega (arith, part_size g.begins p)))

  -- the budget is used
  pub used_up : n ≡ most → Came code P y part most whole (stopped_by (Ends 38) c.regs.at c.regs.sp 0) c
  used_up e = stops_here 38 0 (omega arith) (omega arith) (used g (omega arith))

  module _ (more : n < most) (inside : c.regs.at < length part) where
    within : c.regs.at < part_length P.parts c.regs.row
    within = omega (arith, part_size g.begins p, inside)

    acts_so : acts_w P (code_of P code c.regs.row) (stay_of P c.regs) c ≡ acts_w P part y c
    acts_so = rw (← p.part_is, ← p.stay_is)

    step_is : step_w P code c ≡ (acts_w P part y c >>= λ w. settle P c w)
    step_is = steps_so g more within ∙ rw acts_so

    -- the stay goes on where the step led
    goes_on : (o s : ℕ) (after : Work) → Tells P part y (On o s) c after → Going code P most whole (n + 1) after
    unfolding answer pick ◌>>=◌ settle
    goes_on o s after tells =
        let a : acts_w P part y c ≡ ok (runs after) = sym (tells.carried refl).says in
        again g more within (step_is ∙ rw a)

    pub goes_to : {t : Step} (after : Work) → Tells P part y t c (led t after) → {o s : ℕ} → t ≡ On o s
        → Going code P most whole (n + 1) (with_regs after (moved_to after.regs o s))
    goes_to after tells {o} {s} e = goes_on o s _ (subst (λ (t : Step). Tells P part y t c (led t after)) e tells)

    module _ (left : ℕ) (some : 0 < left) (counted : n ≡ most - left) where
      still : Going code P most whole (most - left) c
      still = subst (λ (k : ℕ). Going code P most whole k c) counted g

      -- the step is another function's
      leaving : (l : Leave) (after : Work) → Tells P part y (Leaves l) c after → Came code P y part most whole (stopped_by (Leaves l) c.regs.at c.regs.sp left) c
      unfolding crossing pick
      leaving l after tells =
          let z = leaves_to l in
          let u = never_two l in
          let s : crossing P part y c (leave_number l) 0 ≡ (acts_w P part y c >>= λ w. settle P c w) = simp (ne_eqb _ _ u) in
          record {
            going = still;
            stops = λ q. absurd (z q);
            late = λ q. absurd (z q);
            leaves = λ _. record {
              more = some;
              crosses = record { inside = inside; first_few = λ q. absurd (u q); opcode = λ _. tells.opcode z };
              step = step_is ∙ sym s;
            };
          }

      -- an initialiser comes before it
      waiting : (first : ℕ) (after : Work) → Tells P part y (Start first) c after → Came code P y part most whole (stopped_by (Start first) c.regs.at c.regs.sp left) c
      unfolding answer crossing pick ◌>>=◌ settle
      waiting first after tells =
          let w : acts_w P part y c ≡ ok (waits first) = sym (tells.carried refl).says in
          record {
            going = still;
            stops = λ q. absurd (omega arith);
            late = λ q. absurd (omega arith);
            leaves = λ _. record {
              more = some;
              crosses = record { inside = inside; first_few = λ _. first_few g.begins within (acts_so ∙ w); opcode = λ q. absurd (q refl) };
              step = step_is ∙ rw w;
            };
          }

      -- it ends the run
      ending : (e : ℕ) (after : Work) → Tells P part y (Ends e) c after → Came code P y part most whole (stopped_by (Ends e) c.regs.at c.regs.sp left) c
      unfolding answer pick ◌>>=◌
      ending e after tells =
          let a : acts_w P part y c ≡ bad e = sym (tells.carried refl).says ∙ refuses _ _ e tells.ended in
          let s : step_w P code c ≡ bad e = step_is ∙ rw a in
          record {
            going = still;
            stops = λ _. subst (λ (m : ℕ). halted_w e m c ≡ whole) counted (halts g more within s);
            late = λ _. ends_late g more within s;
            leaves = λ q. absurd (q refl);
          }

      from_there : (t : Step) → (after : Work) → Tells P part y t c (led t after) → ((o s : ℕ) → t ≡ On o s → ⊥)
          → (with_regs after c.regs ≡ c) × Came code P y part most whole (stopped_by t c.regs.at c.regs.sp left) c
      from_there (On o s) after tells n = absurd (n o s refl)
      from_there (Start first) after tells n = (as_before c after (Start first) ((tells.carried refl).kept (λ z. absurd (omega arith))), waiting first _ tells)
      from_there (Ends e) after tells n = (as_before c after (Ends e) ((tells.carried refl).kept (not_zero e tells.ended)), ending e _ tells)
      from_there (Leaves l) after tells n = (as_before c after (Leaves l) (tells.kept (leaves_to l)), leaving l _ tells)

      -- the stay ends where the step began
      pub ends_here : (t : Step) → (after : Work) → Tells P part y t c (led t after) → ((o s : ℕ) → t ≡ On o s → ⊥)
          → Came code P y part most whole (stopped_by t c.regs.at c.regs.sp left) (with_regs after c.regs)
      ends_here t after tells n =
          let both = from_there t after tells n in
          subst (λ (w : Work). Came code P y part most whole (stopped_by t c.regs.at c.regs.sp left) w) (sym both.0) both.1
