-- A run ends within its budget: finished, or with 38 where the budget is used, or before that with a number of a step.
use mathlib.Core.Path.{◌≡◌, refl, subst}
use Prim.Native.Nat.{ℕ, zero, suc, ◌+◌, ◌≤◌, ◌<◌}
use native.Mathlib.Omega.{arith}
use mathlib.Core.List.{List}
use lib.Dec.{T}
use Rattle.model.specs.Answer.{Answer, bad, ok}
use Rattle.model.specs.Tables.{Module}
use Rattle.model.specs.Loading.{within}
use Rattle.model.specs.State.{Machine}
use Rattle.model.specs.Step.{Outcome, goes, ends, Allocator, lowest_free, step}
use Rattle.model.specs.Run.{first, Ended, halted, finished, after, steps, run_module, run}
use Rattle.model.proofs.Hoare.{Stops, ok_eq, bind_inv, need_inv, guard_inv}
use Rattle.model.proofs.Endings.{step_ends, step_stops}

-- the three ways in which a run ends
pub data Within (budget : ℕ) (e : Ended) : Type 0 where
  completes : e.ending ≡ 0 → e.steps ≤ budget → Within budget e
  uses : e.ending ≡ 38 → e.steps ≡ budget → Within budget e
  stops : T (step_ends e.ending) → e.steps < budget → Within budget e

after_within : (f : ℕ → Machine → Ended) (budget n : ℕ) → ((t : Machine) → Within (suc n + budget) (f (suc n) t)) → (s : Machine) (o : Answer ℕ Outcome)
    → Stops step_ends o → Within (n + suc budget) (after f n s o)
unfolding after halted finished Stops
after_within f budget n h s (bad e) q = stops q (omega arith)
after_within f budget n h s (ok (goes t)) q = let z : suc n + budget ≡ n + suc budget = omega arith in subst (λ (b : ℕ). Within b (f (suc n) t)) z (h t)
after_within f budget n h s (ok (ends v)) q = completes refl (omega arith)

-- from any state, n steps having been made
pub steps_within : (new : Allocator) (M : Module) (budget n : ℕ) (s : Machine) → Within (n + budget) (steps new M budget n s)
unfolding steps halted
steps_within new M zero n s = uses refl (omega arith)
steps_within new M (suc budget) n s =
    after_within (steps new M budget) budget n (λ t. steps_within new M budget (suc n) t) s (step new M s) (step_stops M s new)

pub within_budget : (tables code args : List ℕ) (budget : ℕ) (e : Ended) → run tables code args budget ≡ ok e → Within budget e
unfolding run run_module
within_budget tables code args budget e r =
    let (M, _, r1) = bind_inv _ _ _ r in
    let (vs, _, r2) = need_inv _ _ _ _ r1 in
    let (_, r3) = guard_inv _ _ _ _ r2 in
    let z : 0 + budget ≡ budget = omega arith in
    subst (λ (x : Ended). Within budget x) (ok_eq r3) (rw z at (steps_within lowest_free M budget 0 (first M vs)))

-- no more steps than the budget
pub most_steps : {budget : ℕ} {e : Ended} → Within budget e → e.steps ≤ budget
most_steps (completes _ h) = h
most_steps (uses _ h) = omega arith
most_steps (stops _ h) = omega arith

-- 38 comes with all of the budget used
pub used_up : {budget : ℕ} {e : Ended} → Within budget e → e.ending ≡ 38 → e.steps ≡ budget
unfolding within
used_up (completes q h) z = let i : ◌≡◌ {A = ℕ} 0 38 = cc in absurd (omega arith)
used_up (uses q h) z = h
used_up (stops q h) z = absurd (rw z at q)
