-- The line of `turn` from what loading, the check and the run of the module say.
use Prim.Native.Nat.{ℕ, ◌-◌, ◌≤◌}
use mathlib.Core.Path.{◌≡◌, refl, sym, ap, ◌∙◌, subst}
use mathlib.Core.Option.{Option, none}
use mathlib.Core.List.{List, []}
use lib.ListN.{length, take, drop}
use lib.Seq.{sets}
use Rattle.model.specs.Answer.{Answer, bad, ok, ◌>>=◌, blame}
use Rattle.model.specs.Tables.{Module}
use Rattle.model.specs.Loading.{Refusal, refusal, load}
use Rattle.model.specs.State.{Value}
use Rattle.model.specs.Check.{Shapes, fault_in, check_module, check}
use Rattle.model.specs.Check as Model
use Rattle.model.specs.Run.{run_module, run}
use Rattle.model.specs.Run as Run
use Rattle.model.specs.Turn.{Line, fault_line, ended_line, line_of, print, turn_budget, play, turn, answer}
use Rattle.loaded.specs.Holds.{Holds}
use Rattle.loaded.specs.declared.Fault.{Fault}
use Rattle.loaded.specs.declared.Loaded.{Loaded}
use Rattle.std.specs.Prelude.{Result, Ok, Err, ⊤}
use Rattle.state.specs.Order.{Fine}
use Rattle.faithful.proofs.Constants.{Bytes}
use Rattle.checker.specs.Bounded.{Bounded}
use Rattle.checker.specs.Answers.{Answers, fault_of}
use Rattle.line.specs.Append.{Alone}
use Rattle.line.specs.Values.{value_of}
use Rattle.line.specs.Announced.{answered, number_of}
use Rattle.line.specs.declared.input.Refused.{Refused}
use Rattle.std.specs.Prelude.{Result, Ok, Err}
use Rattle.runner.specs.Answers.{told, refused_by}
use Rattle.runner.specs.Answers as Ran
use Rattle.runner.specs.declared.Ended.{Ended}
use Rattle.loitsupar.specs.Public.{checked}
use Rattle.loitsupar.proofs.Answered.{Says, refused, stands, not_checked, checks, is_checked, runs}

abbrev line : ℕ → ℕ → ℕ → ℕ → Option Value → Line
line n m o s v = record { ending = n; method = m; offset = o; steps = s; value = v }

-- the same text, said otherwise
as_text : {s t t' s' : List ℕ} {r : ℕ} → t ≡ t' → Alone s t s' r → Alone s t' s' r
as_text {s} {t} {t'} {s'} {r} e a = subst (λ (u : List ℕ). Alone s u s' r) e a

pub as_line : {s s' : List ℕ} {l l' : Line} {r : ℕ} → l ≡ l' → Alone s (print l) s' r → Alone s (print l') s' r
as_line e a = as_text (ap print e) a

-- and part by part
pub apart : {s t t' s' : List ℕ} {r : ℕ} → t ≡ t' → Alone s t s' r → (s' ≡ sets s 0 t') × ((r ≡ length t') × (r ≤ 128))
apart e a = let b = as_text e a in (b.bytes, (b.size, b.room))

-- ---- The line of a fault and of a run

abbrev line_of_fault : Fault → Line
line_of_fault a = line a.number a.method a.offset 0 none

abbrev line_of_run : Ended → Line
line_of_run x = line x.end.number x.end.method x.end.offset x.steps (value_of x.value)

run_told : (A : Answer Refusal Run.Ended) (x : Ended) → Ran.Answers A x → line_of_run x ≡ line_of (blame (fault_in 0) A)
unfolding Ran.Answers line_of blame fault_line ended_line fault_in told refused_by
run_told (bad f) x h = ap line_of_run h
run_told (ok e) x h = rw (h.value, h.exact)

-- ---- What loading, the check and the run say

module _ (tables code : List ℕ) where
  -- a module is checked, then run
  plays : play tables code ≡ check tables code >>= λ _. blame (fault_in 0) (run tables code [] turn_budget)
  unfolding play check run blame ◌>>=◌
  plays = go (load tables code)
    where
      go : (A : Answer Refusal Module) → (blame (fault_in 0) A >>= λ M. check_module M >>= λ _. blame (fault_in 0) (run_module M [] turn_budget))
          ≡ (blame (fault_in 0) A >>= check_module) >>= λ _. blame (fault_in 0) (A >>= λ M. run_module M [] turn_budget)
      go (bad f) = refl
      go (ok M) = refl

  -- a fault of either, loading or the check
  not_passed : (a : Fault) → Err a ≡ checked (check tables code) → line_of_fault a ≡ line_of (play tables code)
  unfolding checked fault_of line_of fault_line ◌>>=◌
  not_passed a e = rw plays (go (check tables code) e)
    where
      go : (A : Answer Model.Fault (List Shapes)) → Err a ≡ checked A → line_of_fault a ≡ line_of (A >>= λ _. blame (fault_in 0) (run tables code [] turn_budget))
      go (bad f) q = let z : a ≡ fault_of f = cc in ap line_of_fault z
      go (ok l) q = absurd cc

  -- the run of a module that passes
  passed : Answers (check tables code) (Ok tt) → (x : Ended) → Ran.Answers (run tables code [] turn_budget) x → line_of_run x ≡ line_of (play tables code)
  unfolding Answers fault_of ◌>>=◌
  passed h x ran = rw plays (go (check tables code) h)
    where
      go : (A : Answer Model.Fault (List Shapes)) → Answers A (Ok tt) → line_of_run x ≡ line_of (A >>= λ _. blame (fault_in 0) (run tables code [] turn_budget))
      go (bad f) q = let z : ◌≡◌ {A = Result ⊤ Fault} (Ok tt) (Err (fault_of f)) = q.0 in absurd cc
      go (ok l) q = run_told _ x ran

  -- a refusal of loading
  pub refusal_line : (L : Loaded) (a : Fault) → Says tables code (Err a) L → line_of_fault a ≡ line_of (play tables code)
  refusal_line L a says = not_passed a (not_checked (refused L a says))

  module _ (L : Loaded) (says : Says tables code (Ok tt) L) where
    -- a fault of the check
    pub fault_line_lem : (a : Fault) → ((M : Module) → Bounded M → Holds M code L → Answers (check_module M) (Err a)) → line_of_fault a ≡ line_of (play tables code)
    fault_line_lem a h = not_passed a (is_checked tables code (Err a) (checks (stands L says) (Err a) h))

    -- the end of the run
    pub run_line : ((M : Module) → Bounded M → Holds M code L → Answers (check_module M) (Ok tt)) → Bytes code → (r : Ended)
        → ((M : Module) → Fine M → Holds M code L → Ran.Answers (run_module M [] turn_budget) r) → line_of_run r ≡ line_of (play tables code)
    run_line h b r runs_it = passed (checks (stands L says) (Ok tt) h) r (runs (stands L says) b [] turn_budget r runs_it)

-- ---- What the input announces

module _ (r : Result ℕ Refused) (input : List ℕ) (says : answered r input ≡ answer input) where
  announced_as : (k : Result ℕ Refused) → r ≡ k → print (line_of (answered k input)) ≡ turn input
  unfolding turn
  announced_as k e = ap (λ (x : Answer Model.Fault Run.Ended). print (line_of x)) (sym (ap (λ (x : Result ℕ Refused). answered x input) e) ∙ says)

  pub refused_line : (k : Refused) → r ≡ Err k → (n : ℕ) → n ≡ number_of k → print (line n 0 0 0 none) ≡ turn input
  unfolding answered line_of fault_line fault_in refusal
  refused_line k e n p = rw p (announced_as (Err k) e)

  pub parts_line : (at : ℕ) → r ≡ Ok at → {tables code : List ℕ} → tables ≡ take (at - 2) (drop 2 input) → code ≡ drop at input
      → print (line_of (play tables code)) ≡ turn input
  unfolding answered
  parts_line at e p q = rw (p, q) (announced_as (Ok at) e)
