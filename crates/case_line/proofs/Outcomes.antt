-- What a run's number says: refused, or ended, with a state that is told whole.
use Prim.Native.Nat.{ℕ, ◌≤◌, ◌<◌}
use mathlib.Core.Path.{◌≡◌, refl, sym, ap, ◌∙◌, subst}
use mathlib.Core.Bool.{Bool, true, false, ◌&&◌}
use mathlib.Core.Option.{Option, none, some}
use mathlib.Core.List.{List}
use native.Mathlib.Omega.{arith}
use lib.ListN.{get_or}
use lib.Dec.{T, leb, leb→le}
use borrow.Author.Tests.{lt-leb}
use Rattle.model.specs.Answer.{Answer, bad, ok, ◌>>=◌, need, guard}
use Rattle.model.specs.Tables.{Module, method_at}
use Rattle.model.specs.Loading.{Refusal, refusal, within}
use Rattle.model.specs.State.{Value}
use Rattle.model.specs.Step.{lowest_free}
use Rattle.model.specs.Run as Run
use Rattle.model.specs.Run.{admit, first, steps, run_module}
use Rattle.model.proofs.Hoare.{and_l, or_e, ok_eq, need_inv, guard_inv}
use Rattle.model.proofs.Budget.{Within, completes, uses, stops, steps_within}
use Rattle.loaded.specs.Holds.{Holds}
use Rattle.loaded.specs.declared.Loaded.{Loaded}
use Rattle.state.specs.Order.{Fine}
use Rattle.runner.specs.Answers.{Answers, Tells, told, refused_by}
use Rattle.runner.specs.declared.Ended.{Ended}
use Rattle.state_text.specs.Keeps.{Keeps}
use Rattle.state_text.proofs.Reached.{run_keeps}
use Rattle.case_line.specs.Texts.{refuses}
use Rattle.case_line.proofs.Made.{made}

-- the model's refusal
pub record Refused (M : Module) (arguments : List ℕ) (budget : ℕ) (e : Ended) : Type 0 where
  pub refusal_is : Refusal
  pub refuses_run : run_module M arguments budget ≡ bad refusal_is
  pub exact : e ≡ refused_by refusal_is

-- the model's end of the run
pub record Ran (M : Module) (arguments : List ℕ) (budget : ℕ) (e : Ended) : Type 0 where
  pub end_is : Run.Ended
  pub runs : run_module M arguments budget ≡ ok end_is
  pub tells : Tells end_is e

-- ---- Numbers

admission : (o : Option (List Value)) (k : Bool) (f : List Value → Run.Ended) (r : Refusal)
    → (need o (refusal 21 0) >>= λ vs. guard k (refusal 22 0) >>= λ _. ok (f vs)) ≡ bad r → refuses r.number ≡ true
unfolding need guard ◌>>=◌ refusal refuses within
admission none k f r e = let q : refusal 21 0 ≡ r = cc in rw (← q)
admission (some vs) false f r e = let q : refusal 22 0 ≡ r = cc in rw (← q)
admission (some vs) true f r e = let z : ◌≡◌ {A = ℕ} 0 1 = cc in absurd (omega arith)

-- a run is refused by 21 and 22 alone
refusal_number : (M : Module) (arguments : List ℕ) (budget : ℕ) (r : Refusal) → run_module M arguments budget ≡ bad r → refuses r.number ≡ true
unfolding run_module
refusal_number M arguments budget r e = admission _ _ _ r e

from_31 : (n : ℕ) → 31 ≤ n → refuses n ≡ false
unfolding refuses within
from_31 n h = rw (lt-leb n 30 (omega arith)) (none_of (leb 1 n))
  where
    none_of : (b : Bool) → b && false ≡ false
    none_of true = refl
    none_of false = refl

-- and ends with other numbers
ending_number : {budget : ℕ} {e : Run.Ended} → Within budget e → refuses e.ending ≡ false
unfolding refuses within
ending_number (completes z _) = rw z
ending_number (uses z _) = rw z
ending_number {e = e} (stops h _) = from_31 e.ending (or_e (within 31 37 e.ending) (within 41 46 e.ending) h low high)
  where
    low : T (within 31 37 e.ending) → 31 ≤ e.ending
    low k = leb→le 31 e.ending (and_l (leb 31 e.ending) (leb e.ending 37) k)

    high : T (within 41 46 e.ending) → 31 ≤ e.ending
    high k = let h = leb→le 41 e.ending (and_l (leb 41 e.ending) (leb e.ending 46) k) in omega arith

-- ---- Outcomes

module _ (M : Module) (arguments : List ℕ) (budget : ℕ) where
  -- the steps that a run is, and the values that its arguments are
  stepped : (x : Run.Ended) → run_module M arguments budget ≡ ok x
      → (vs : List Value) × ((admit (method_at M.methods M.entry).params arguments ≡ some vs) × (steps lowest_free M budget 0 (first M vs) ≡ x))
  unfolding run_module
  stepped x r = let (vs, a, s) = need_inv _ _ _ _ r in let (_, q) = guard_inv _ _ _ _ s in (vs, (a, ok_eq q))

  ends_otherwise : (x : Run.Ended) → run_module M arguments budget ≡ ok x → refuses x.ending ≡ false
  ends_otherwise x r =
      let (vs, (_, q)) = stepped x r in
      subst (λ (y : Run.Ended). refuses y.ending ≡ false) q (ending_number (steps_within lowest_free M budget 0 (first M vs)))

  -- every state that a run ends with is told whole
  pub keeps : Fine M → (code : List ℕ) (L : Loaded) → Holds M code L → ((i : ℕ) → get_or arguments i 0 < 18446744073709551616) → (x : Run.Ended)
      → run_module M arguments budget ≡ ok x → Keeps M x.state
  keeps fin code L hold wide x r =
      let (vs, (a, q)) = stepped x r in
      subst (λ (y : Run.Ended). Keeps M y.state) q (run_keeps M fin code L hold arguments vs wide a _ _ _ (made M fin L) budget)

  module _ (e : Ended) (says : Answers (run_module M arguments budget) e) where
    pub is_refused : refuses e.end.number ≡ true → Refused M arguments budget e
    unfolding Answers told
    is_refused b = go (run_module M arguments budget) refl says
      where
        go : (A : Answer Refusal Run.Ended) → run_module M arguments budget ≡ A → Answers A e → Refused M arguments budget e
        go (bad f) q s = record { refusal_is = f; refuses_run = q; exact = s }
        go (ok x) q s =
            let n : e.end.number ≡ x.ending = ap (λ (y : Ended). y.end.number) s.exact in
            let z : true ≡ false = sym b ∙ ap refuses n ∙ ends_otherwise x q in
            let w : ◌≡◌ {A = ℕ} 0 1 = cc in
            absurd (omega arith)

    pub has_ended : refuses e.end.number ≡ false → Ran M arguments budget e
    unfolding Answers refused_by
    has_ended b = go (run_module M arguments budget) refl says
      where
        go : (A : Answer Refusal Run.Ended) → run_module M arguments budget ≡ A → Answers A e → Ran M arguments budget e
        go (bad f) q s =
            let n : e.end.number ≡ f.number = ap (λ (y : Ended). y.end.number) s in
            let z : true ≡ false = sym (refusal_number M arguments budget f q) ∙ ap refuses (sym n) ∙ b in
            let w : ◌≡◌ {A = ℕ} 0 1 = cc in
            absurd (omega arith)
        go (ok x) q s = record { end_is = x; runs = q; tells = s }
