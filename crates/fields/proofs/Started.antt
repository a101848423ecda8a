-- The start of a class: its initialiser comes first, or the instruction goes on and the class is marked.
use Prim.Native.Nat.{ℕ}
use mathlib.Core.Path.{◌≡◌, refl, sym, ◌∙◌}
use mathlib.Core.List.{List}
use native.Mathlib.Omega.{arith}
use lib.ListN.{get_or, set}
use borrow.Author.Tests.{eq-eqb, ne_eqb}
use Rattle.std.specs.Prelude.{Option, Some, None}
use Rattle.model.specs.Answer.{Answer, ok, pick}
use Rattle.state.specs.View.{Work}
use Rattle.state.specs.Work.{Went, waits, starting_w}
use Rattle.state.specs.Meets.{answer, Few, Meets}
use Rattle.fields.specs.Members.{first_or, Starts}

-- ---- What comes before the class k is used

module _ (initialisers : List ℕ) (c : Work) (k : ℕ) (then : List ℕ → Answer ℕ Went) {marks : List ℕ} (m : c.marks ≡ marks) where
  said_marked : (get_or marks k 0 ≡ 0 → ⊥) → starting_w initialisers c k then ≡ then (set marks k 1)
  unfolding starting_w pick
  said_marked n = simp (m, ne_eqb _ _ n)

  said_none : get_or marks k 0 ≡ 0 → get_or initialisers k 0 ≡ 0 → starting_w initialisers c k then ≡ then (set marks k 1)
  unfolding starting_w pick
  said_none z q = simp (m, eq-eqb _ _ z, q)

  said_first : get_or marks k 0 ≡ 0 → (get_or initialisers k 0 ≡ 0 → ⊥) → starting_w initialisers c k then ≡ ok (waits (get_or initialisers k 0))
  unfolding starting_w pick
  said_first z q = simp (m, eq-eqb _ _ z, ne_eqb _ _ q)

module _ (initialisers marks : List ℕ) (k : ℕ) where
  pub starts_marked : (get_or marks k 0 ≡ 0 → ⊥) → Starts initialisers marks k None
  unfolding first_or
  starts_marked n = record { few = λ e q. cc; says = λ c then m. said_marked initialisers c k then m n }

  pub starts_none : get_or marks k 0 ≡ 0 → get_or initialisers k 0 ≡ 0 → Starts initialisers marks k None
  unfolding first_or
  starts_none z q = record { few = λ e q. cc; says = λ c then m. said_none initialisers c k then m z q }

  pub starts_first : {e : ℕ} → get_or marks k 0 ≡ 0 → (get_or initialisers k 0 ≡ 0 → ⊥) → e ≡ get_or initialisers k 0 → Few 128 initialisers
      → Starts initialisers marks k (Some e)
  unfolding first_or
  starts_first {e} z n q f =
      record {
        few = λ i p. let same : i ≡ get_or initialisers k 0 = cc in omega (arith, f.most k, same);
        says = λ c then m. rw q (said_first initialisers c k then m z n);
      }

-- ---- The instruction

module _ (initialisers : List ℕ) (c : Work) (then : List ℕ → Answer ℕ Went) {k : ℕ} {first : Option ℕ} (s : Starts initialisers c.marks k first)
    {said : Answer ℕ Went} (q : said ≡ starting_w initialisers c k then) where
  pub started : first ≡ None → said ≡ then (set c.marks k 1)
  unfolding first_or
  started z = q ∙ (s.says c then refl ∙ rw z refl)

  comes : {e : ℕ} → first ≡ Some e → said ≡ ok (waits e)
  unfolding first_or
  comes n = q ∙ (s.says c then refl ∙ rw n refl)

  pub comes_first : {e : ℕ} → first ≡ Some e → Meets 2 e c c said
  unfolding answer pick
  comes_first n = record { says = sym (comes n); kept = λ _. refl }
