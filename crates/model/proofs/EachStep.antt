-- Before each step of a module that loads and passes the check, the state is as the check found it, and the step does not get stuck.
use mathlib.Core.Path.{◌≡◌, subst}
use Prim.Native.Nat.{ℕ, zero, suc, ◌+◌}
use native.Mathlib.Omega.{arith}
use mathlib.Core.Option.{some}
use mathlib.Core.List.{List}
use Rattle.model.specs.Answer.{Answer, bad, ok}
use Rattle.model.specs.Tables.{Module, method_at}
use Rattle.model.specs.Loading.{load}
use Rattle.model.specs.State.{Value, Machine, state_of}
use Rattle.model.specs.Step.{Outcome, goes, lowest_free, step}
use Rattle.model.specs.Run.{admit, first, halted, after, steps}
use Rattle.model.specs.Check.{Shapes, check_module, check}
use Rattle.model.proofs.Hoare.{NotStuck, Holds}
use Rattle.model.proofs.Certificate.{check_module_lem}
use Rattle.model.proofs.Typing.{lowest_free_grows}
use Rattle.model.proofs.Loaded.{Loaded, loaded}
use Rattle.model.proofs.States.{Fine, on, AsFound, Good, good_found}
use Rattle.model.proofs.Steps.{step_ok}
use Rattle.model.proofs.Safe.{StackFound, stands_found, certified, first_good}

-- the states that a run comes to after k steps that go on
pub data Passes (M : Module) (s : Machine) : ℕ → Machine → Type 0 where
  begins : Passes M s 0 s
  later : {k : ℕ} {t u : Machine} → Passes M s k t → step lowest_free M t ≡ ok (goes u) → Passes M s (suc k) u

goes_on : {M : Module} {s t : Machine} (k : ℕ) → Passes M s k t → (budget n : ℕ) → steps lowest_free M (k + budget) n s ≡ steps lowest_free M budget (k + n) t
unfolding steps after
goes_on {M} {s} zero begins budget n = let a : 0 + budget ≡ budget = omega arith in let b : 0 + n ≡ n = omega arith in rw (a, b)
goes_on {M} {s} (suc k) (later {t = t} {u = u} p e) budget n =
    let a : suc k + budget ≡ k + suc budget = omega arith in
    let b : suc k + n ≡ suc (k + n) = omega arith in
    rw (a, b, goes_on k p (suc budget) n, e)

-- each is the state that a run with a budget of k hands back
pub passed : {M : Module} {s t : Machine} (k : ℕ) → Passes M s k t → steps lowest_free M k 0 s ≡ halted 38 k t
unfolding steps
passed k p = let a : k + 0 ≡ k = omega arith in rw a at (goes_on k p 0 0)

-- the stack and the whole state are as found, and the step to come doesn't end in 41 to 46
pub record BeforeStep (M : Module) (found : List Shapes) (s : Machine) : Type 0 where
  pub stack : StackFound M found s.heap s.top
  pub state : AsFound M found (state_of s)
  pub step : (e : ℕ) → step lowest_free M s ≡ bad e → NotStuck e

pub before_each_step : (tables code : List ℕ) (M : Module) (found : List Shapes) (args : List ℕ) (vs : List Value) (s : Machine)
    → load tables code ≡ ok M → check tables code ≡ ok found → admit (method_at M.methods M.entry).params args ≡ some vs
    → {k : ℕ} → Passes M (first M vs) k s → BeforeStep M found s
unfolding Holds
before_each_step tables code M found args vs s l c a p =
    let L = loaded tables code M l in
    let G : Good M found s = go L p in
    record {
      stack = stands_found M found L.falls _ _ G.top;
      state = good_found M found G;
      step = λ e q. subst (λ (o : Answer ℕ Outcome). Holds (Fine M found) o) q (fine_step L s G);
    }
  where
    passed_check : check_module M ≡ ok found
    passed_check = check_module_lem tables code M found l c

    fine_step : (L : Loaded code M) (t : Machine) → Good M found t → Holds (Fine M found) (step lowest_free M t)
    fine_step L t g = step_ok code M L found (certified code M L found passed_check) t g lowest_free lowest_free_grows

    good : (u : Machine) → Fine M found (goes u) → Good M found u
    good u (on g) = g

    go : (L : Loaded code M) {k : ℕ} {t : Machine} → Passes M (first M vs) k t → Good M found t
    go L begins = first_good code M L found passed_check args vs a
    go L (later {t = t} {u = u} q e) = good u (subst (λ (o : Answer ℕ Outcome). Holds (Fine M found) o) e (fine_step L t (go L q)))
