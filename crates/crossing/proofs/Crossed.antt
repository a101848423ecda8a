-- The answers of a step that changes the frame.
use Prim.Native.Nat.{ℕ}
use mathlib.Core.Path.{◌≡◌, refl, sym, ap, subst, ◌∙◌}
use mathlib.Core.Bool.{Bool, true, false}
use mathlib.Core.Option.{Option}
use mathlib.Core.List.{List, []}
use native.Mathlib.Omega.{arith}
use lib.Dec.{eqb}
use borrow.Author.Tests.{eq-eqb, ne_eqb, eqb-true}
use Rattle.model.specs.Answer.{Answer, bad, ok, ◌>>=◌, guard, pick}
use Rattle.model.specs.State.{Value}
use Rattle.state.specs.declared.Stay.{Stay}
use Rattle.state.specs.View.{Work}
use Rattle.state.specs.Work.{Tables, Went, runs, over, waits, room_above, start_w, acts_w, settle}
use Rattle.state.specs.Meets.{answer, moves, Leaves}
use Rattle.crossing.specs.Crossing.{crossing}

-- ---- The start of a class waits for nothing

goes_or_ends : (b : Bool) (d : Work) (k : ℕ) → ◌≡◌ {A = Answer ℕ Went} (guard b 36 >>= λ _. ok (runs d)) (ok (waits k)) → ⊥
unfolding guard ◌>>=◌
goes_or_ends true d k e = let z : ◌≡◌ {A = ℕ} 0 1 = cc in absurd (omega arith)
goes_or_ends false d k e = let z : ◌≡◌ {A = ℕ} 0 1 = cc in absurd (omega arith)

pub no_wait : (methods : List ℕ) (c : Work) (r : ℕ) {after before : Work} {how first : ℕ} {value : Option Value} → Leaves how first value after before (start_w methods c r) → how ≡ 2 → ⊥
unfolding moves answer pick start_w
no_wait methods c r {first = first} m e = goes_or_ends (room_above c) _ first (sym m.says ∙ simp e)

-- ---- The instruction, and what comes before it

module _ (P : Tables) (part : List ℕ) (y : Stay) (c : Work) (next first : ℕ) where
  -- an initialiser comes
  pub starts : next ≡ 2 → crossing P part y c next first ≡ start_w P.methods c first
  unfolding crossing pick
  starts e = simp (eq-eqb _ _ e)

  acts : (next ≡ 2 → ⊥) → crossing P part y c next first ≡ (acts_w P part y c >>= λ w. settle P c w)
  unfolding crossing pick
  acts n = simp (ne_eqb _ _ n)

  -- the instruction has to wait for one
  pub waited : (next ≡ 2 → ⊥) → {k : ℕ} → acts_w P part y c ≡ ok (waits k) → crossing P part y c next first ≡ start_w P.methods c k
  unfolding ◌>>=◌ settle
  waited n e = acts n ∙ simp e

settled : (P : Tables) (c : Work) (a : Answer ℕ Went) → ((k : ℕ) → a ≡ ok (waits k) → ⊥) → (a >>= λ w. settle P c w) ≡ a
unfolding ◌>>=◌ settle
settled P c (bad e) n = refl
settled P c (ok (runs d)) n = refl
settled P c (ok (over v)) n = refl
settled P c (ok (waits k)) n = absurd (n k refl)

module _ {how first : ℕ} {value : Option Value} {after before : Work} {said : Answer ℕ Went} (m : Leaves how first value after before said) where
  pub says_wait : how ≡ 2 → said ≡ ok (waits first)
  unfolding moves answer pick
  says_wait e = sym m.says ∙ simp e

  waits_two : {k : ℕ} → said ≡ ok (waits k) → how ≡ 2
  unfolding moves answer pick
  waits_two {k} q = eqb-true how 2 (two_of (eqb how 1) (eqb how 0) (eqb how 2) (m.says ∙ q)) where
    two_of : (a b t : Bool) → ◌≡◌ {A = Answer ℕ Went} (pick a (ok (over value)) (pick b (ok (runs after)) (pick t (ok (waits first)) (bad how)))) (ok (waits k)) → t ≡ true
    two_of a b true e = refl
    two_of true b false e = let z : ◌≡◌ {A = ℕ} 0 1 = cc in absurd (omega arith)
    two_of false true false e = let z : ◌≡◌ {A = ℕ} 0 1 = cc in absurd (omega arith)
    two_of false false false e = let z : ◌≡◌ {A = ℕ} 0 1 = cc in absurd (omega arith)

  -- it goes on, ends, or is over
  pub crossed : (P : Tables) (part : List ℕ) (y : Stay) (c : Work) (next f : ℕ) → said ≡ acts_w P part y c → (next ≡ 2 → ⊥) → (how ≡ 2 → ⊥) → Leaves how first value after before (crossing P part y c next f)
  crossed P part y c next f e n h =
      record { says = m.says ∙ (e ∙ sym (acts P part y c next f n ∙ settled P c (acts_w P part y c) (λ k q. h (waits_two (e ∙ q))))); kept = m.kept }

instead : {how first : ℕ} {value : Option Value} {after before : Work} {said other : Answer ℕ Went} → said ≡ other → Leaves how first value after before other → Leaves how first value after before said
instead e m = record { says = m.says ∙ sym e; kept = m.kept }

-- the frame of an initialiser, first or before the instruction
module _ (P : Tables) (part : List ℕ) (y : Stay) (before : Work) (next first : ℕ) {methods : List ℕ} (same : P.methods ≡ methods) {how f : ℕ} {value : Option Value} {after : Work} where
  pub comes : next ≡ 2 → Leaves how f value after before (start_w methods before first) → Leaves how f value after before (crossing P part y before next first)
  comes e m = instead (starts P part y before next first e ∙ ap (λ (l : List ℕ). start_w l before first) same) m

  pub comes_before : (next ≡ 2 → ⊥) → {k : ℕ} → acts_w P part y before ≡ ok (waits k) → (mid : Work) → mid ≡ before
      → Leaves how f value after mid (start_w methods mid k) → Leaves how f value after before (crossing P part y before next first)
  comes_before n {k} e mid q m =
      instead (waited P part y before next first n e ∙ ap (λ (l : List ℕ). start_w l before k) same)
      (subst (λ (x : Work). Leaves how f value after x (start_w methods x k)) q m)

-- some work, where any will do
pub nothing : Work
nothing = record { regs = record { fp = 0; row = 0; at = 0; sp = 0; made = 0 }; cells = []; kinds = []; statics = []; marks = []; classes = []; heap = [] }
