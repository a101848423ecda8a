-- What the functions on lists and rows say.
use mathlib.Core.Path.{◌≡◌, refl, sym, ap, ◌∙◌, subst}
use Prim.Native.Nat.{ℕ, zero, suc, ◌+◌, ◌≤◌, ◌<◌}
use native.Mathlib.Nat.{le_of_suc-le-suc}
use native.Mathlib.Omega.{arith}
use mathlib.Core.Bool.{Bool, true, false, not}
use mathlib.Core.Option.{Option, none, some}
use mathlib.Core.List.{List, [], ◌∷◌, ◌++◌, map}
use lib.ListN.{length, take}
use lib.Dec.{T}
use Rattle.model.specs.Answer.{pick, or_else, at, row, keep_if, those, first_row, last_of, on_last}
use Rattle.model.specs.Tables.{Method, method_at}
use Rattle.model.proofs.Hoare.{none_some, some_eq}

-- ---- Elements by index

pub at_some : {A : Type 0} (l : List A) (i : ℕ) → i < length l → (a : A) × (at l i ≡ some a)
unfolding at
at_some [] i h = absurd (omega arith)
at_some (x ∷ l) zero h = (x, refl)
at_some (x ∷ l) (suc i) h = at_some l i (le_of_suc-le-suc h)

pub at_append : {A : Type 0} (l r : List A) (i : ℕ) (a : A) → at l i ≡ some a → at (l ++ r) i ≡ some a
unfolding at
at_append [] r i a e = none_some e
at_append (x ∷ l) r zero a e = e
at_append (x ∷ l) r (suc i) a e = at_append l r i a e

pub at_after : {A : Type 0} (l r : List A) (i : ℕ) → at (l ++ r) (length l + i) ≡ at r i
unfolding at
at_after [] r i = let z : 0 + i ≡ i = omega arith in rw z
at_after (x ∷ l) r i = let z : suc (length l) + i ≡ suc (length l + i) = omega arith in rw z (at_after l r i)

-- an element of a list with one more is an element of the list, or the one more
pub at_snoc : {X : Type 0} {A : Type 0} (l : List A) (a : A) (i : ℕ) (x : A) → at (l ++ (a ∷ [])) i ≡ some x → (at l i ≡ some x → X)
    → (i ≡ length l → a ≡ x → X) → X
unfolding at
at_snoc [] a zero x e f g = g refl (some_eq e)
at_snoc [] a (suc i) x e f g = none_some e
at_snoc (y ∷ l) a zero x e f g = f e
at_snoc (y ∷ l) a (suc i) x e f g = at_snoc l a i x e f (λ q r. g (ap suc q) r)

pub at_map : {A B : Type 0} (f : A → B) (l : List A) (i : ℕ) (a : A) → at l i ≡ some a → at (map f l) i ≡ some (f a)
unfolding at
at_map f [] i a e = none_some e
at_map f (x ∷ l) zero a e = ap (λ (y : _). some (f y)) (some_eq e)
at_map f (x ∷ l) (suc i) a e = at_map f l i a e

pub length_snoc : {A : Type 0} (l : List A) (a : A) → length (l ++ (a ∷ [])) ≡ suc (length l)
length_snoc [] a = refl
length_snoc (x ∷ l) a = ap suc (length_snoc l a)

pub row_at : {A : Type 0} (l : List A) (r : ℕ) (a : A) → row l r ≡ some a → (i : ℕ) × (r ≡ suc i) × (at l i ≡ some a)
unfolding row
row_at l zero a e = none_some e
row_at l (suc i) a e = (i, refl, e)

pub row_append : {A : Type 0} (l k : List A) (r : ℕ) (a : A) → row l r ≡ some a → row (l ++ k) r ≡ some a
unfolding row
row_append l k zero a e = none_some e
row_append l k (suc i) a e = at_append l k i a e

pub method_is : (ms : List Method) (r : ℕ) (m : Method) → row ms r ≡ some m → method_at ms r ≡ m
unfolding method_at or_else
method_is ms r m e = rw e

-- a row in range
pub row_inside : (ms : List Method) (r : ℕ) → 1 ≤ r → r ≤ length ms → row ms r ≡ some (method_at ms r)
row_inside ms zero h k = absurd (omega arith)
row_inside ms (suc i) h k =
    let (m, e) = at_some ms i (omega arith) in let q : row ms (suc i) ≡ some m = (unfold row in e) in q ∙ ap some (sym (method_is ms (suc i) m q))

-- ---- Those that pass a test

pub those_snoc : {A : Type 0} (p : A → Bool) (l : List A) (a : A) → those p (l ++ (a ∷ [])) ≡ those p l ++ keep_if (p a) a []
unfolding those
those_snoc p [] a = refl
those_snoc p (x ∷ l) a = ap (λ (k : List _). keep_if (p x) x k) (those_snoc p l a) ∙ keep_append (p x) x (those p l) (keep_if (p a) a [])
  where
    keep_append : {A : Type 0} (b : Bool) (x : A) (l k : List A) → keep_if b x (l ++ k) ≡ keep_if b x l ++ k
    keep_append true x l k = unfold keep_if in refl
    keep_append false x l k = unfold keep_if in refl

-- the one at an index is among them, after those before it
pub at_those : {A : Type 0} (p : A → Bool) (l : List A) (i : ℕ) (a : A) → at l i ≡ some a → T (p a) → at (those p l) (length (those p (take i l))) ≡ some a
unfolding at those
at_those p [] i a e t = none_some e
at_those p (x ∷ l) zero a e t = here (p x) x a (those p l) (some_eq e) (subst (λ y. T (p y)) (sym (some_eq e)) t)
  where
    here : {A : Type 0} (b : Bool) (x a : A) (l : List A) → x ≡ a → T b → at (keep_if b x l) 0 ≡ some a
    here true x a l e t = unfold keep_if at in (ap some e)
    here false x a l e t = absurd t
at_those p (x ∷ l) (suc i) a e t = later (p x) x (those p l) (those p (take i l)) ∙ at_those p l i a e t
  where
    later : {A : Type 0} (b : Bool) (x : A) (l k : List A) → at (keep_if b x l) (length (keep_if b x k)) ≡ at l (length k)
    later true x l k = unfold keep_if at in refl
    later false x l k = unfold keep_if in refl

-- none of them, where none passes
pub those_none : {A : Type 0} (p : A → Bool) (l : List A) → ((i : ℕ) (a : A) → at l i ≡ some a → T (not (p a))) → those p l ≡ []
unfolding those at
those_none p [] h = refl
those_none p (x ∷ l) h = skip (p x) x (those p l) (h 0 x refl) ∙ those_none p l (λ i a e. h (suc i) a e)
  where
    skip : {A : Type 0} (b : Bool) (x : A) (l : List A) → T (not b) → keep_if b x l ≡ l
    skip true x l t = absurd t
    skip false x l t = unfold keep_if in refl

-- ---- The first that passes a test

-- what was found, at index i of a list that begins at row r
pub record FirstAt {A : Type 0} (p : ℕ → A → Bool) (r : ℕ) (l : List A) (n : ℕ) : Type 0 where
  pub index : ℕ
  pub place : n ≡ r + index
  pub what : A
  pub is : at l index ≡ some what
  pub passes : T (p n what)

pub first_at : {A : Type 0} (p : ℕ → A → Bool) (r : ℕ) (l : List A) (n : ℕ) → first_row p r l ≡ some n → FirstAt p r l n
unfolding first_row at
first_at p r [] n e = none_some e
first_at p r (x ∷ l) n e = go (p r x) refl (λ q. first_at p (suc r) l n q) e
  where
    go : (b : Bool) → p r x ≡ b → (first_row p (suc r) l ≡ some n → FirstAt p (suc r) l n) → pick b (some r) (first_row p (suc r) l) ≡ some n
        → FirstAt p r (x ∷ l) n
    go true q ih f =
        let z : r ≡ n = some_eq (unfold pick in f) in
        record { index = 0; place = sym z ∙ omega arith; what = x; is = unfold at in refl; passes = subst (λ (y : ℕ). T (p y x)) z (rw q tt) }
    go false q ih f =
        let h = ih (unfold pick in f) in
        record { index = suc h.index; place = h.place ∙ omega arith; what = h.what; is = unfold at in h.is; passes = h.passes }

pick_none : (b : Bool) (r : ℕ) (o : Option ℕ) → pick b (some r) o ≡ none → T (not b) × (o ≡ none)
unfolding pick
pick_none true r o e = none_some (sym e)
pick_none false r o e = (tt, e)

pub first_none : {A : Type 0} (p : ℕ → A → Bool) (r : ℕ) (l : List A) → first_row p r l ≡ none → (i : ℕ) (a : A) → at l i ≡ some a → T (not (p (r + i) a))
unfolding first_row at
first_none p r [] e i a q = none_some q
first_none p r (x ∷ l) e zero a q =
    let z : r + 0 ≡ r = omega arith in
    rw z (subst (λ y. T (not (p r y))) (some_eq q) (pick_none (p r x) r (first_row p (suc r) l) e).0)
first_none p r (x ∷ l) e (suc i) a q =
    let z : r + suc i ≡ suc r + i = omega arith in
    rw z (first_none p (suc r) l (pick_none (p r x) r (first_row p (suc r) l) e).1 i a q)

-- ---- The last, changed

pub last_snoc : {A : Type 0} (d : A) (l : List A) (a : A) → last_of d (l ++ (a ∷ [])) ≡ a
unfolding last_of
last_snoc d [] a = refl
last_snoc d (x ∷ l) a = last_snoc x l a

pub length_on_last : {A : Type 0} (f : A → A) (l : List A) → length (on_last f l) ≡ length l
unfolding on_last
length_on_last f [] = refl
length_on_last f (x ∷ []) = refl
length_on_last f (x ∷ y ∷ l) = ap suc (length_on_last f (y ∷ l))

-- an element of the changed list stood there before, or is the last one changed
pub on_last_at : {X : Type 0} {A : Type 0} (f : A → A) (d : A) (l : List A) (i : ℕ) (y : A) → at (on_last f l) i ≡ some y
    → (at l i ≡ some y → X) → (at l i ≡ some (last_of d l) → f (last_of d l) ≡ y → X) → X
unfolding on_last at last_of
on_last_at f d [] i y e g h = none_some e
on_last_at f d (x ∷ []) zero y e g h = h refl (some_eq e)
on_last_at f d (x ∷ []) (suc i) y e g h = none_some e
on_last_at f d (x ∷ z ∷ l) zero y e g h = g e
on_last_at f d (x ∷ z ∷ l) (suc i) y e g h = on_last_at f x (z ∷ l) i y e g h

-- and what stood there stands there, changed perhaps
pub at_on_last : {A : Type 0} (f : A → A) (R : A → A → Type 0) → ((x : A) → R x x) → ((x : A) → R x (f x)) → (l : List A) (i : ℕ) (x : A) → at l i ≡ some x
    → (y : A) × (at (on_last f l) i ≡ some y) × R x y
unfolding on_last at
at_on_last f R r s [] i x e = none_some e
at_on_last f R r s (a ∷ []) zero x e = (f x, ap (λ z. some (f z)) (some_eq e), s x)
at_on_last f R r s (a ∷ []) (suc i) x e = none_some e
at_on_last f R r s (a ∷ b ∷ l) zero x e = (x, e, r x)
at_on_last f R r s (a ∷ b ∷ l) (suc i) x e = at_on_last f R r s (b ∷ l) i x e

pub row_on_last : {A : Type 0} (f : A → A) (R : A → A → Type 0) → ((x : A) → R x x) → ((x : A) → R x (f x)) → (l : List A) (r : ℕ) (x : A) → row l r ≡ some x
    → (y : A) × (row (on_last f l) r ≡ some y) × R x y
unfolding row
row_on_last f R r s l zero x e = none_some e
row_on_last f R r s l (suc i) x e = at_on_last f R r s l i x e
