-- The loop over the steps: what holds before each, and how each of its exits ends the run.
use Prim.Native.Nat.{ℕ, suc, ◌+◌, ◌-◌, ◌≤◌, ◌<◌}
use mathlib.Core.Path.{◌≡◌, refl, sym, ap, ◌∙◌, subst}
use mathlib.Core.Bool.{Bool, true, false, ◌&&◌, ◌||◌}
use mathlib.Core.Option.{Option}
use mathlib.Core.List.{List}
use native.Mathlib.Omega.{arith}
use native.Mathlib.Numerals.{add-one}
use lib.Dec.{T, leb}
use borrow.Author.Tests.{lt-ltb, le-ltb, leb-true}
use Rattle.model.specs.Answer.{Answer, bad, ok, ◌>>=◌, guard}
use Rattle.model.specs.Tables.{Module}
use Rattle.model.specs.Loading.{within}
use Rattle.model.specs.State.{Value}
use Rattle.model.specs.Step.{Outcome, goes, ends, step, lowest_free}
use Rattle.model.proofs.Hoare.{Stops}
use Rattle.model.proofs.Endings.{step_ends, step_stops}
use Rattle.loaded.specs.Holds.{part_length}
use Rattle.state.specs.View.{Work, view}
use Rattle.state.specs.Order.{Good, Bounded}
use Rattle.state.specs.Work.{Tables, Went, runs, over, stay_of, code_of, acts_w, settle, step_w, EndedW, halted_w, finished_w, after_w, run_w}
use Rattle.faithful.proofs.Sim.{SimO, Sim}
use Rattle.faithful.proofs.Bounds.{Keeps}
use Rattle.between_steps.specs.Running.{Begins}
use Rattle.between_steps.proofs.Order.{simulates, keeps}

-- n steps were made, and the run from the work c on ends as the whole one does
pub record Going (code : List ℕ) (P : Tables) (budget : ℕ) (whole : EndedW) (n : ℕ) (c : Work) : Type 0 where
  pub begins : Begins code P c
  pub few : n ≤ budget
  pub rest : run_w P code (budget - n) n c ≡ whole

-- the run from the work c on, after n steps
abbrev pub From : (code : List ℕ) (P : Tables) (budget n : ℕ) (c : Work) → ℕ → Work → Type 0
From code P budget n c = Going code P budget (run_w P code (budget - n) n c)

module _ {code : List ℕ} {P : Tables} {budget : ℕ} where
  pub starts : {first : Work} → Begins code P first → Going code P budget (run_w P code budget 0 first) 0 first
  starts {first} b = record { begins = b; few = omega arith; rest = let z : budget - 0 ≡ budget = omega arith in ap (λ (k : ℕ). run_w P code k 0 first) z }

  pub enters : {n : ℕ} {c : Work} → n ≤ budget → Begins code P c → From code P budget n c n c
  enters h b = record { begins = b; few = h; rest = refl }

  -- further than where another went on from
  pub later : {whole : EndedW} {n k : ℕ} {c d : Work} → Going code P budget whole n c → From code P budget n c k d → Going code P budget whole k d
  later g h = record { begins = h.begins; few = h.few; rest = h.rest ∙ g.rest }

-- the endings of the model's steps are above 30
late_number : (k : ℕ) (a b : Bool) → leb 31 k ≡ a → leb 41 k ≡ b → T ((a && leb k 37) || (b && leb k 46)) → 30 < k
late_number k true b e f t = let h = leb-true 31 k e in omega arith
late_number k false true e f t = let h = leb-true 41 k f in omega arith
late_number k false false e f t = absurd t

late_sim : (M : Module) {n : ℕ} (s : Answer ℕ Outcome) → Sim M (bad n) s → Stops step_ends s → 30 < n
unfolding Sim Stops within
late_sim M (bad k) z t = let h : 30 < k = late_number k (leb 31 k) (leb 41 k) refl refl t in omega arith
late_sim M (ok o) z t = absurd z

module _ {code : List ℕ} {P : Tables} {budget : ℕ} {whole : EndedW} {n : ℕ} {c : Work} (g : Going code P budget whole n c) where
  -- the budget is used
  pub used : budget ≤ n → halted_w 38 n c ≡ whole
  unfolding run_w
  used h =
      let few = g.few in
      let z : budget - n ≡ 0 = omega arith in
      sym (ap (λ (k : ℕ). run_w P code k n c) z) ∙ g.rest

  module _ (more : n < budget) where
    left_over : budget - n ≡ suc (budget - suc n)
    left_over = omega arith

    -- the rest, by what the step says
    one_more : after_w (run_w P code (budget - suc n)) n c (step_w P code c) ≡ whole
    unfolding run_w
    one_more = sym (ap (λ (k : ℕ). run_w P code k n c) left_over) ∙ g.rest

    by_step : {a : Answer ℕ Went} → step_w P code c ≡ a → after_w (run_w P code (budget - suc n)) n c a ≡ whole
    by_step e = sym (ap (after_w (run_w P code (budget - suc n)) n c) e) ∙ one_more

    pub past_end : part_length P.parts c.regs.row ≤ c.regs.at → halted_w 46 n c ≡ whole
    unfolding after_w step_w guard ◌>>=◌
    past_end h = by_step {a = bad 46} (simp (le-ltb _ _ h))

    module _ (inside : c.regs.at < part_length P.parts c.regs.row) where
      abbrev pub acts : Answer ℕ Went
      acts = acts_w P (code_of P code c.regs.row) (stay_of P c.regs) c

      pub steps_so : step_w P code c ≡ (acts >>= λ w. settle P c w)
      unfolding step_w guard ◌>>=◌
      steps_so = simp (lt-ltb _ _ inside)

      -- the step ends the run
      pub halts : {e : ℕ} → step_w P code c ≡ bad e → halted_w e n c ≡ whole
      unfolding after_w
      halts e = by_step e

      pub finishes : {v : Option Value} → step_w P code c ≡ ok (over v) → finished_w (suc n) v c ≡ whole
      unfolding after_w
      finishes e = by_step e

      -- such a number is one of the endings of a step
      pub ends_late : {e : ℕ} → step_w P code c ≡ bad e → 30 < e
      ends_late e =
          let r = g.begins.ready in
          let M = r.module_is in
          late_sim M (step lowest_free M (view M c)) (subst (λ (a : Answer ℕ Went). Sim M a (step lowest_free M (view M c))) e (simulates r c g.begins.good))
          (step_stops M (view M c) lowest_free)

      good_of : {d : Work} (s : Answer ℕ Outcome) → Sim g.begins.ready.module_is (ok (runs d)) s → Good g.begins.ready.module_is d
      unfolding Sim SimO
      good_of (bad k) z = absurd z
      good_of (ok (goes t)) z = z.0
      good_of (ok (ends v)) z = absurd z

      bounded_of : {k : ℕ} {d : Work} → Keeps k (ok (runs d)) → Bounded k d
      unfolding Keeps
      bounded_of k = k

      pub again : {d : Work} → step_w P code c ≡ ok (runs d) → Going code P budget whole (n + 1) d
      unfolding after_w
      again {d} e =
          let r = g.begins.ready in
          let M = r.module_is in
          record {
            begins = record {
              ready = r;
              good = good_of _ (subst (λ (a : Answer ℕ Went). Sim M a (step lowest_free M (view M c))) e (simulates r c g.begins.good));
              bounded = bounded_of (subst (Keeps P.method_count) e (keeps r c g.begins.good g.begins.bounded));
            };
            few = omega arith;
            rest = ap (λ (k : ℕ). run_w P code (budget - k) k d) (add-one n) ∙ by_step e;
          }
