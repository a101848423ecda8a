-- Operands and shapes in one pass are the check's two passes.
use Prim.Native.Nat.{ℕ, zero, suc, ◌≤◌, ◌<◌}
use mathlib.Core.Path.{◌≡◌, refl, sym, ap, ◌∙◌}
use mathlib.Core.Bool.{Bool, true, false, ◌||◌}
use mathlib.Core.Option.{Option, none, some}
use mathlib.Core.List.{List, [], ◌∷◌, ◌++◌, append_assoc}
use native.Mathlib.Omega.{arith}
use borrow.Author.Tests.{le-leb, lt-leb}
use lib.Dec.{eqb}
use lib.ListN.{length}
use Rattle.model.specs.Answer.{Answer, bad, ok, ◌>>=◌, guard, need, blame, pick, only_if}
use Rattle.model.specs.Tables.{Method, Module}
use Rattle.model.specs.Loading.{Refusal, refusal}
use Rattle.model.specs.Code.{Ins, Act, Decoded, decode, and_then, operands}
use Rattle.model.specs.Check.{Shapes, Site, starts, targets, all_start, find_operands, visit, visits, decode_from}
use Rattle.passes.specs.Fused.{onward}
use Rattle.visits.specs.Visits.{act_of}

-- ---- Decoding

unfoldable pub site : ℕ → Decoded → Site Ins
site o d = record { offset = o; what = d.ins; next = d.next }

-- a list that begins with sites read already
unfoldable pub onto : List (Site Ins) → Answer Refusal (List (Site Ins)) → Answer Refusal (List (Site Ins))
onto p (bad f) = bad f
onto p (ok l) = ok (p ++ l)

pub decode_more : (k : ℕ) (code : List ℕ) (o : ℕ) (d : Decoded) → o < length code → decode code o ≡ some d
    → decode_from (suc k) code o ≡ onto (site o d ∷ []) (decode_from k code d.next)
unfolding decode_from pick need ◌>>=◌ site onto
decode_more k code o d h e = rw (lt-leb (length code) o h, e) (by (decode_from k code d.next))
  where
    by : (A : Answer Refusal (List (Site Ins))) → (A >>= λ l. ok (record { offset = o; what = d.ins; next = d.next } ∷ l)) ≡ onto
        (record { offset = o; what = d.ins; next = d.next } ∷ []) A
    by (bad f) = refl
    by (ok l) = refl

pub decode_stop : (k : ℕ) (code : List ℕ) (o : ℕ) → o < length code → decode code o ≡ none → decode_from (suc k) code o ≡ bad (refusal 11 o)
unfolding decode_from pick need ◌>>=◌
decode_stop k code o h e = rw (lt-leb (length code) o h, e) refl

pub decode_end : (k : ℕ) (code : List ℕ) (o : ℕ) → length code ≤ o → decode_from k code o ≡ ok []
unfolding decode_from pick
decode_end zero code o h = refl
decode_end (suc k) code o h = rw (le-leb (length code) o h) refl

pub onto_onto : (p : List (Site Ins)) (s : Site Ins) (A : Answer Refusal (List (Site Ins))) → onto p (onto (s ∷ []) A) ≡ onto (p ++ (s ∷ [])) A
unfolding onto
onto_onto p s (bad f) = refl
onto_onto p s (ok l) = ap ok (sym (append_assoc p (s ∷ []) l))

-- what is left begins with what is read here
pub record Next (k : ℕ) (code : List ℕ) (o : ℕ) (d : Decoded) (l : List (Site Ins)) : Type 0 where
  pub rest : List (Site Ins)
  pub is : l ≡ site o d ∷ rest
  pub left : decode_from k code d.next ≡ ok rest

pub next_of : (k : ℕ) (code : List ℕ) (o : ℕ) (d : Decoded) (l : List (Site Ins)) → o < length code → decode code o ≡ some d
    → decode_from (suc k) code o ≡ ok l → Next k code o d l
unfolding onto
next_of k code o d l h e q = by (decode_from k code d.next) refl (sym (decode_more k code o d h e) ∙ q)
  where
    by : (A : Answer Refusal (List (Site Ins))) → decode_from k code d.next ≡ A → onto (site o d ∷ []) A ≡ ok l → Next k code o d l
    by (bad f) p z = let y : ◌≡◌ {A = ℕ} 0 1 = cc in absurd (omega arith)
    by (ok r) p z = record { rest = r; is = (let y : site o d ∷ r ≡ l = cc in sym y); left = p }

pub never_stops : (k : ℕ) (code : List ℕ) (o : ℕ) (l : List (Site Ins)) → o < length code → decode code o ≡ none → decode_from (suc k) code o ≡ ok l → ⊥
never_stops k code o l h e q =
    let y : ◌≡◌ {A = Answer Refusal (List (Site Ins))} (bad (refusal 11 o)) (ok l) = sym (decode_stop k code o h e) ∙ q in let z : ◌≡◌ {A = ℕ} 0 1 = cc in
    omega arith

-- ---- Starts

pub starts_snoc : (p : List (Site Ins)) (s : Site Ins) (o : ℕ) → starts (p ++ (s ∷ [])) o ≡ (starts p o || eqb s.offset o)
unfolding starts
starts_snoc [] s o = or_false (eqb s.offset o)
  where
    or_false : (b : Bool) → (b || false) ≡ b
    or_false true = refl
    or_false false = refl
starts_snoc (t ∷ p) s o = rw (starts_snoc p s o) (group (eqb t.offset o) (starts p o) (eqb s.offset o))
  where
    group : (a b c : Bool) → (a || (b || c)) ≡ ((a || b) || c)
    group true b c = refl
    group false b c = refl

-- ---- The two passes

module _ (M : Module) (m : Method) (all : List (Site Ins)) (s : Site Ins) (l : List (Site Ins)) where
  pub finds_none : act_of M m all s.what ≡ none → find_operands M m all (s ∷ l) ≡ bad (refusal 12 s.offset)
  unfolding find_operands act_of and_then only_if need guard ◌>>=◌
  finds_none e = by (operands M m s.what) e
    where
      test : (b : Bool) (a : Act) → only_if b (some a) ≡ none
          → (guard b (refusal 12 s.offset) >>= λ _. find_operands M m all l >>= λ k. ok (record { offset = s.offset; what = a; next = s.next } ∷ k))
          ≡ bad (refusal 12 s.offset)
      test true a e = let z : ◌≡◌ {A = ℕ} 0 1 = cc in absurd (omega arith)
      test false a e = refl

      by : (o : Option Act) → and_then o (λ a. only_if (all_start all (targets a)) (some a)) ≡ none
          → (need o (refusal 12 s.offset) >>= λ a. guard (all_start all (targets a)) (refusal 12 s.offset) >>= λ _. find_operands M m all l >>= λ k. ok
          (record { offset = s.offset; what = a; next = s.next } ∷ k)) ≡ bad (refusal 12 s.offset)
      by none e = refl
      by (some a) e = test (all_start all (targets a)) a e

  pub finds_some : (a : Act) → act_of M m all s.what ≡ some a
      → find_operands M m all (s ∷ l) ≡ (find_operands M m all l >>= λ k. ok (record { offset = s.offset; what = a; next = s.next } ∷ k))
  unfolding find_operands act_of and_then only_if need guard ◌>>=◌
  finds_some a e = by (operands M m s.what) e
    where
      test : (b : Bool) (c : Act) → only_if b (some c) ≡ some a
          → (guard b (refusal 12 s.offset) >>= λ _. find_operands M m all l >>= λ k. ok (record { offset = s.offset; what = c; next = s.next } ∷ k))
          ≡ (find_operands M m all l >>= λ k. ok (record { offset = s.offset; what = a; next = s.next } ∷ k))
      test true c e = let z : c ≡ a = cc in rw z refl
      test false c e = let z : ◌≡◌ {A = ℕ} 0 1 = cc in absurd (omega arith)

      by : (o : Option Act) → and_then o (λ a. only_if (all_start all (targets a)) (some a)) ≡ some a
          → (need o (refusal 12 s.offset) >>= λ c. guard (all_start all (targets c)) (refusal 12 s.offset) >>= λ _. find_operands M m all l >>= λ k. ok
          (record { offset = s.offset; what = c; next = s.next } ∷ k))
          ≡ (find_operands M m all l >>= λ k. ok (record { offset = s.offset; what = a; next = s.next } ∷ k))
      by none e = let z : ◌≡◌ {A = ℕ} 0 1 = cc in absurd (omega arith)
      by (some c) e = test (all_start all (targets c)) c e

  pub pass_operand : (F : Shapes) → act_of M m all s.what ≡ none → onward M m all (s ∷ l) F ≡ bad (refusal 12 s.offset)
  unfolding onward ◌>>=◌
  pass_operand F e = rw (finds_none e) refl

  pub pass_on : (F G : Shapes) (a : Act) → act_of M m all s.what ≡ some a → visit M m F (record { offset = s.offset; what = a; next = s.next }) ≡ ok G
      → onward M m all (s ∷ l) F ≡ onward M m all l G
  unfolding onward ◌>>=◌ visits blame
  pass_on F G a e v = rw (finds_some a e) (by (find_operands M m all l))
    where
      by : (A : Answer Refusal (List (Site Act))) → ((A >>= λ k. ok (record { offset = s.offset; what = a; next = s.next } ∷ k)) >>= λ k. visits M m F k)
          ≡ (A >>= λ k. visits M m G k)
      by (bad f) = refl
      by (ok k) = rw v refl

  -- a fault of a shape comes after every operand fault
  pub pass_fault : (F : Shapes) (a : Act) (k : ℕ) → act_of M m all s.what ≡ some a
      → visit M m F (record { offset = s.offset; what = a; next = s.next }) ≡ bad k
      → onward M m all (s ∷ l) F ≡ (find_operands M m all l >>= λ _. bad (refusal k s.offset))
  unfolding onward ◌>>=◌ visits blame
  pass_fault F a k e v = rw (finds_some a e) (by (find_operands M m all l))
    where
      by : (A : Answer Refusal (List (Site Act))) → ((A >>= λ k. ok (record { offset = s.offset; what = a; next = s.next } ∷ k)) >>= λ k. visits M m F k)
          ≡ (A >>= λ _. bad (refusal k s.offset))
      by (bad f) = refl
      by (ok k) = rw v refl
