-- The parts of a case by their places, and its numbers one more at a time.
use Prim.Native.Nat.{ℕ, zero, suc, ◌+◌, ◌*◌, ◌≤◌, ◌<◌}
use mathlib.Core.Path.{◌≡◌, refl, sym, ap, ◌∙◌}
use mathlib.Core.Bool.{Bool, true, false}
use mathlib.Core.Option.{Option, none, some}
use mathlib.Core.List.{List, [], ◌∷◌, ◌++◌}
use native.Mathlib.Omega.{arith}
use native.Mathlib.Numerals.{add-one}
use lib.ListN.{length, take, drop, set, length-drop}
use lib.Seq.{drop-drop, take-suc-set}
use lib.Dec.{leb}
use borrow.Author.Tests.{le-leb, leb-true, eq-eqb, ne_eqb}
use Rattle.model.specs.Answer.{only_if}
use Rattle.model.specs.Tables.{part_of}
use Rattle.model.specs.Loading.{little}
use Rattle.model.specs.Replay.{replay}
use Rattle.line.specs.Append.{appended, Appended}
use Rattle.line.specs.declared.text.Text.{Text}
use Rattle.line.proofs.Appending.{nothing, same}
use Rattle.case_line.specs.Case.{Case, words, beyond, case_of, Whole, line_feed, answer_to, line_of}
use Rattle.case_line.specs.Places.{places_by, size_after, count_after, places_of, announced_by, Found}
use Rattle.case_line.specs.declared.reading.Places.{Places}

-- ---- Arguments

words_more : (n : ℕ) (l : List ℕ) → words n l ++ (little 8 (drop (8 * n) l) ∷ []) ≡ words (suc n) l
unfolding words
words_more zero l = refl
words_more (suc n) l =
    let e : 8 * suc n ≡ 8 + 8 * n = omega arith in
    ap (λ (k : List ℕ). little 8 l ∷ k)
    (ap (λ (k : List ℕ). words n (drop 8 l) ++ (little 8 k ∷ [])) (ap (λ (k : ℕ). drop k l) e ∙ sym (drop-drop (8 * n) 8 l)) ∙ words_more n (drop 8 l))

pub next_word : (w l : List ℕ) (i v : ℕ) → i < length w → v ≡ little 8 (drop (8 * i) l) → take i w ≡ words i l → take (i + 1) (set w i v) ≡ words (i + 1) l
next_word w l i v h e t = rw (add-one i) (take-suc-set w i v h ∙ rw (t, e) (words_more i l))

-- ---- Places

pub located : (l : List ℕ) (t s n : ℕ) → t ≡ little 2 l → s ≡ little 2 (drop (2 + t) l) → n ≡ little 1 (drop (2 + t + 2 + s) l) → places_by t s n ≡ places_of l
unfolding places_of size_after count_after
located l t s n a b c = rw (c, b, a)

-- ---- Cases

-- the next part is there
there : (l : List ℕ) (a n : ℕ) (f : List ℕ → Option Case) {o : Option Case} → a + n ≤ length l → f (drop (a + n) l) ≡ o → beyond n (drop a l) f ≡ o
unfolding beyond only_if
there l a n f h e = rw (le-leb n (length (drop a l)) (omega (arith, length-drop a l)), drop-drop n a l) e

-- or nothing is made of the bytes
cut : (l : List ℕ) (a n : ℕ) (f : List ℕ → Option Case) → a ≤ length l → (a + n ≤ length l → f (drop (a + n) l) ≡ none) → beyond n (drop a l) f ≡ none
unfolding beyond only_if
cut l a n f h k = go (leb n (length (drop a l))) refl
  where
    go : (b : Bool) → leb n (length (drop a l)) ≡ b → only_if b (f (drop n (drop a l))) ≡ none
    go true e = rw (drop-drop n a l) (k (omega (arith, leb-true n (length (drop a l)) e, length-drop a l)))
    go false e = refl

-- the case whose parts lie there
abbrev by : List ℕ → Places → Case
by l p =
    record {
      tables = part_of l 2 p.tables;
      code = part_of l p.code p.size;
      arguments = words p.count (drop p.arguments l);
      budget = little 4 (drop p.budget l);
    }

module _ (l : List ℕ) where
  abbrev t : ℕ
  t = little 2 l

  abbrev s : ℕ
  s = size_after l t

  abbrev n : ℕ
  n = count_after l t s

  abbrev budget_at : ℕ
  budget_at = 2 + t + 2 + s + 1 + 8 * n

  whole_case : length l ≡ budget_at + 4 → case_of l ≡ some (by l (places_of l))
  unfolding case_of only_if places_of places_by size_after count_after part_of
  whole_case e =
      there l 0 2 _ (omega arith) (there l 2 t _ (omega arith) (there l (2 + t) 2 _ (omega arith) (there l (2 + t + 2) s _ (omega arith)
      (there l (2 + t + 2 + s) 1 _ (omega arith) (there l (2 + t + 2 + s + 1) (8 * n) _ (omega arith) (there l budget_at 4 _ (omega arith)
      (rw (eq-eqb (length (drop (budget_at + 4) l)) 0 (omega (arith, length-drop (budget_at + 4) l))))))))))

  no_case : (length l ≡ budget_at + 4 → ⊥) → case_of l ≡ none
  unfolding case_of only_if size_after count_after
  no_case k =
      cut l 0 2 _ (omega arith) λ a. cut l 2 t _ (omega arith) λ b. cut l (2 + t) 2 _ (omega arith) λ c. cut l (2 + t + 2) s _ (omega arith) λ d.
      cut l (2 + t + 2 + s) 1 _ (omega arith) λ e. cut l (2 + t + 2 + s + 1) (8 * n) _ (omega arith) λ f. cut l budget_at 4 _ (omega arith) λ g.
      rw (ne_eqb (length (drop (budget_at + 4) l)) 0 (λ z. k (omega (arith, length-drop (budget_at + 4) l))))

  -- bytes that are as many as they announce are a case
  pub whole : announced_by l ≡ length l → Whole l
  unfolding announced_by places_of places_by
  whole e = record { case_is = by l (places_of l); is = whole_case (sym e) }

module _ (l : List ℕ) (p : Places) (found : Found l p) where
  end_is : p.end ≡ budget_at l + 4
  unfolding places_of places_by
  end_is = ap (λ (q : Places). q.end) found.exact

  -- bytes that end elsewhere have no line
  pub no_line : (length l ≡ p.end → ⊥) → (out : List ℕ) → Appended out 0 (line_of l) out 0
  unfolding line_of answer_to
  no_line k out = rw (no_case l (λ z. k (z ∙ sym end_is))) (nothing out 0)

  -- and a case has that of its parts
  pub whole_line : length l ≡ p.end → (tables code arguments : List ℕ) (budget : ℕ)
      → tables ≡ part_of l 2 p.tables → code ≡ part_of l p.code p.size
      → arguments ≡ words p.count (drop p.arguments l) → budget ≡ little 4 (drop p.budget l)
      → (x y : Text) → y ≡ appended x (replay tables code arguments budget ++ line_feed) → y ≡ appended x (line_of l)
  unfolding line_of answer_to
  whole_line k tables code arguments budget a b c d x y h =
      let w : case_of l ≡ some (by l p) = whole_case l (k ∙ end_is) ∙ ap (λ (q : Places). some (by l q)) (sym found.exact) in
      rw w (same x y _ _ h (rw (a, b, c, d)))
