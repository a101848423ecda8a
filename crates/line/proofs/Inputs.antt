-- What an input announces is what the model's guards find.
use mathlib.Core.Path.{◌≡◌, refl, ap, ◌∙◌}
use mathlib.Core.Bool.{Bool, true, false}
use mathlib.Core.List.{List}
use Prim.Native.Nat.{ℕ, ◌+◌, ◌-◌, ◌≤◌, ◌<◌}
use native.Mathlib.Omega.{arith}
use lib.Dec.{leb}
use lib.ListN.{length, take, drop, length-drop}
use borrow.Author.Tests.{le-leb, lt-leb}
use Rattle.model.specs.Answer.{◌>>=◌, guard, pick}
use Rattle.model.specs.Tables.{most_tables, most_code, part_of}
use Rattle.model.specs.Loading.{refusal, little}
use Rattle.model.specs.Check.{fault_in}
use Rattle.model.specs.Turn.{play, answer}
use Rattle.std.specs.Prelude.{Result, Ok, Err}
use Rattle.line.specs.declared.input.Refused.{Refused}
use Rattle.line.specs.declared.input.Refused.TheVariants.{Cut, TooLong}
use Rattle.line.specs.Announced.{announced_by, answered}

-- the four tests, whichever way each goes
abbrev chosen : (a b c d : Bool) → ℕ → Result ℕ Refused
chosen a b c d t = pick a (pick b (pick c (pick d (Ok (2 + t)) (Err TooLong)) (Err Cut)) (Err TooLong)) (Err Cut)

guarded : (a b c d : Bool) (t : ℕ) (l : List ℕ) → answered (chosen a b c d t) l
    ≡ (guard a (fault_in 0 (refusal 9 0)) >>= λ _. guard b (fault_in 0 (refusal 1 0)) >>= λ _. guard c (fault_in 0 (refusal 9 0)) >>= λ _. guard d (fault_in 0 (refusal 1 0)) >>= λ _. play (take t (drop 2 l)) (drop (2 + t) l))
unfolding answered pick guard ◌>>=◌
guarded true true true true t l = let e : (2 + t) - 2 ≡ t = omega arith in ap (λ (k : ℕ). play (take k (drop 2 l)) (drop (2 + t) l)) e
guarded true true true false t l = refl
guarded true true false d t l = refl
guarded true false c d t l = refl
guarded false b c d t l = refl

parts : (a b c d : Bool) (t n : ℕ) → chosen a b c d t ≡ Ok n → n ≡ 2 + t
unfolding pick
parts true true true true t n e = cc
parts true true true false t n e = cc
parts true true false d t n e = cc
parts true false c d t n e = cc
parts false b c d t n e = cc

module _ (l : List ℕ) where
  announced_answer : answered (announced_by l) l ≡ answer l
  unfolding announced_by answer
  announced_answer =
      guarded (leb 2 (length l)) (leb (little 2 l) most_tables) (leb (2 + little 2 l) (length l)) (leb (length (drop (2 + little 2 l) l)) most_code) (little 2 l) l

  -- the code begins after the two bytes and the tables
  pub begins : (n : ℕ) → announced_by l ≡ Ok n → n ≡ 2 + little 2 l
  unfolding announced_by
  begins n e = parts (leb 2 (length l)) (leb (little 2 l) most_tables) (leb (2 + little 2 l) (length l)) (leb (length (drop (2 + little 2 l) l)) most_code) (little 2 l) n e

  -- the promise of what is announced
  pub said : (r : Result ℕ Refused) → r ≡ announced_by l → (answered r l ≡ answer l) × (r ≡ announced_by l)
  said r e = (ap (λ (i : Result ℕ Refused). answered i l) e ∙ announced_answer, e)

  pub under_two : length l < 2 → Err Cut ≡ announced_by l
  unfolding announced_by pick
  under_two h = simp (lt-leb 2 (length l) h)

  module _ (t : ℕ) (e : t ≡ little 2 l) (two : 2 ≤ length l) where
    pub tables_long : most_tables < t → Err TooLong ≡ announced_by l
    unfolding announced_by pick
    tables_long h = simp (le-leb 2 (length l) two, ← e, lt-leb t most_tables h)

    pub cut_short : t ≤ most_tables → length l < 2 + t → Err Cut ≡ announced_by l
    unfolding announced_by pick
    cut_short a h = simp (le-leb 2 (length l) two, ← e, le-leb t most_tables a, lt-leb (2 + t) (length l) h)

    pub code_long : t ≤ most_tables → 2 + t ≤ length l → most_code < length l - (2 + t) → Err TooLong ≡ announced_by l
    unfolding announced_by pick
    code_long a b h = simp (le-leb 2 (length l) two, ← e, le-leb t most_tables a, le-leb (2 + t) (length l) b, length-drop, lt-leb (length l - (2 + t)) most_code h)

    pub whole : t ≤ most_tables → 2 + t ≤ length l → length l - (2 + t) ≤ most_code → Ok (2 + t) ≡ announced_by l
    unfolding announced_by pick
    whole a b h = simp (le-leb 2 (length l) two, ← e, le-leb t most_tables a, le-leb (2 + t) (length l) b, length-drop, le-leb (length l - (2 + t)) most_code h)

  -- the parts by where the code begins, and by the announced length
  pub tables_part : (r : List ℕ) (n k : ℕ) → k ≡ n - 2 → r ≡ part_of l 2 k
      → (r ≡ take (n - 2) (drop 2 l)) × (announced_by l ≡ Ok n → r ≡ take (little 2 l) (drop 2 l))
  unfolding part_of
  tables_part r n k e p =
      let q : r ≡ take (n - 2) (drop 2 l) = p ∙ ap (λ (m : ℕ). take m (drop 2 l)) e in
      (q, λ a. let z : n - 2 ≡ little 2 l = omega (arith, begins n a) in q ∙ ap (λ (m : ℕ). take m (drop 2 l)) z)

  pub code_part : (r : List ℕ) (n : ℕ) → r ≡ drop n l → (r ≡ drop n l) × (announced_by l ≡ Ok n → r ≡ drop (2 + little 2 l) l)
  code_part r n p = (p, λ a. p ∙ ap (λ (m : ℕ). drop m l) (begins n a))
