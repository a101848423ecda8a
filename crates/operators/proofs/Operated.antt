-- The answers of the steps that an operator decides.
use Prim.Native.Nat.{ℕ, ◌+◌, ◌-◌, ◌≤◌, ◌<◌}
use mathlib.Core.Path.{◌≡◌, refl, sym, ◌∙◌}
use mathlib.Core.Bool.{Bool, true, false, not, ◌||◌}
use mathlib.Core.Option.{Option, none, some}
use native.Mathlib.Omega.{arith}
use lib.Dec.{eqb}
use borrow.Author.Tests.{le-leb, lt-leb}
use Rattle.model.specs.Answer.{Answer, bad, ok, ◌>>=◌, guard, need, pick}
use Rattle.model.specs.Code.{Binary, Unary}
use Rattle.model.specs.Operators.{Meaning, Conversion, binary_of, unary_of}
use Rattle.state.specs.declared.Stay.{Stay}
use Rattle.state.specs.View.{Work, kind_by, kind_of_type}
use Rattle.state.specs.Work.{Went, runs, waits, sp_of, kind_at, bits_at, put, few, binary_w, unary_w}
use Rattle.state.specs.Meets.{answer, Meets}
use Rattle.operators.specs.Gives.{binary_gives, unary_gives}
use Rattle.operators.proofs.Faults.{ends_run, numbered, binary_numbered, unary_numbered}

-- ---- A step ends, or goes on

ended : (z t : Bool) (e at : ℕ) (c : Work) → not (z || t) ≡ true → pick z (ok (runs c)) (pick t (ok (waits at)) (bad e)) ≡ bad e
unfolding pick
ended false false e at c h = refl
ended false true e at c h = let q : ◌≡◌ {A = ℕ} 0 1 = cc in absurd (omega arith)
ended true t e at c h = let q : ◌≡◌ {A = ℕ} 0 1 = cc in absurd (omega arith)

pub stops : {e : ℕ} (at : ℕ) {c : Work} {said : Answer ℕ Went} → ends_run e ≡ true → said ≡ bad e → Meets e at c c said
unfolding answer
stops {e} at {c} n s = record { says = ended (eqb e 0) (eqb e 2) e at c n ∙ sym s; kept = λ _. refl }

pub goes : (at : ℕ) {after before : Work} {said : Answer ℕ Went} → said ≡ ok (runs after) → Meets 0 at after before said
unfolding answer pick
goes at s = record { says = sym s; kept = λ n. absurd (n refl) }

-- ---- What is given goes on to the cells

inner : (x : Answer ℕ ℕ) (k : ℕ) (f : ℕ → ℕ → Answer ℕ Went) → (x >>= λ n. f k n) ≡ ((x >>= λ n. ok (k, n)) >>= λ (p : ℕ × ℕ). f p.0 p.1)
unfolding ◌>>=◌
inner (bad e) k f = refl
inner (ok n) k f = refl

two : (o : Option Meaning) (a b : ℕ) (f : ℕ → ℕ → Answer ℕ Went)
    → (need o 45 >>= λ g. g.bits_of a b >>= λ n. f (kind_of_type g.gives) n)
    ≡ ((need o 45 >>= λ g. g.bits_of a b >>= λ n. ok (kind_of_type g.gives, n)) >>= λ (p : ℕ × ℕ). f p.0 p.1)
unfolding need ◌>>=◌
two none a b f = refl
two (some g) a b f = inner (g.bits_of a b) (kind_of_type g.gives) f

one : (o : Option Conversion) (a : ℕ) (f : ℕ → ℕ → Answer ℕ Went)
    → (need o 45 >>= λ g. f (kind_of_type g.gives) (g.bits_of a))
    ≡ ((need o 45 >>= λ g. ok (kind_of_type g.gives, g.bits_of a)) >>= λ (p : ℕ × ℕ). f p.0 p.1)
unfolding need ◌>>=◌
one none a f = refl
one (some g) a f = refl

module _ (y : Stay) (c : Work) (o : Binary) (next : ℕ) where
  pub binary_none : {at : ℕ} → sp_of c < y.floor + 2 → Meets 43 at c c (binary_w y c o next)
  unfolding binary_w few guard ◌>>=◌
  binary_none h = stops _ refl (simp (lt-leb _ _ h))

  abbrev pub both_give : Answer ℕ (ℕ × ℕ)
  both_give = binary_gives o (kind_at c (sp_of c - 2)) (kind_at c (sp_of c - 1)) (bits_at c (sp_of c - 2)) (bits_at c (sp_of c - 1))

  binary_says : y.floor + 2 ≤ sp_of c → binary_w y c o next ≡ (both_give >>= λ (p : ℕ × ℕ). ok (runs (put c next (sp_of c - 2) p.0 p.1)))
  unfolding binary_w binary_gives few guard ◌>>=◌
  binary_says h =
      simp (le-leb _ _ h)
      (two (binary_of o (kind_by (kind_at c (sp_of c - 2))) (kind_by (kind_at c (sp_of c - 1)))) _ _ (λ k n. ok (runs (put c next (sp_of c - 2) k n))))

  pub binary_cell : {at : ℕ} → y.floor + 2 ≤ sp_of c → {k n : ℕ} → ok (k, n) ≡ both_give → Meets 0 at (put c next (sp_of c - 2) k n) c (binary_w y c o next)
  unfolding ◌>>=◌
  binary_cell h q = goes _ (binary_says h ∙ rw (← q))

  pub binary_ends : {at : ℕ} → y.floor + 2 ≤ sp_of c → {e : ℕ} → bad e ≡ both_give → Meets e at c c (binary_w y c o next)
  unfolding ◌>>=◌
  binary_ends h q = stops _ (numbered q (binary_numbered o _ _ _ _)) (binary_says h ∙ rw (← q))

module _ (y : Stay) (c : Work) (o : Unary) (next : ℕ) where
  pub unary_none : {at : ℕ} → sp_of c < y.floor + 1 → Meets 43 at c c (unary_w y c o next)
  unfolding unary_w few guard ◌>>=◌
  unary_none h = stops _ refl (simp (lt-leb _ _ h))

  abbrev pub one_gives : Answer ℕ (ℕ × ℕ)
  one_gives = unary_gives o (kind_at c (sp_of c - 1)) (bits_at c (sp_of c - 1))

  unary_says : y.floor + 1 ≤ sp_of c → unary_w y c o next ≡ (one_gives >>= λ (p : ℕ × ℕ). ok (runs (put c next (sp_of c - 1) p.0 p.1)))
  unfolding unary_w unary_gives few guard ◌>>=◌
  unary_says h = simp (le-leb _ _ h) (one (unary_of o (kind_by (kind_at c (sp_of c - 1)))) _ (λ k n. ok (runs (put c next (sp_of c - 1) k n))))

  pub unary_cell : {at : ℕ} → y.floor + 1 ≤ sp_of c → {k n : ℕ} → ok (k, n) ≡ one_gives → Meets 0 at (put c next (sp_of c - 1) k n) c (unary_w y c o next)
  unfolding ◌>>=◌
  unary_cell h q = goes _ (unary_says h ∙ rw (← q))

  pub unary_ends : {at : ℕ} → y.floor + 1 ≤ sp_of c → {e : ℕ} → bad e ≡ one_gives → Meets e at c c (unary_w y c o next)
  unfolding ◌>>=◌
  unary_ends h q = stops _ (numbered q (unary_numbered o _ _)) (unary_says h ∙ rw (← q))
