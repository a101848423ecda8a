-- Going down shapes: two side by side, and one beside types.
use Prim.Native.Nat.{ℕ, zero, suc, ◌+◌, ◌-◌, ◌%◌, ◌≤◌, ◌<◌}
use mathlib.Core.Path.{◌≡◌, refl, sym, ap, ◌∙◌, subst}
use mathlib.Core.Bool.{Bool, true, false, ◌&&◌}
use Rattle.std.specs.Prelude.{None, Some}
use mathlib.Core.Option.{Option, some}
use mathlib.Core.List.{List, [], ◌∷◌}
use native.Mathlib.Omega.{arith}
use borrow.Author.Tests.{eq-eqb, ne_eqb}
use lib.Dec.{eqb}
use lib.ListN.{length, get_or, drop}
use lib.Seq.{take_all}
use Rattle.model.specs.Answer.{at}
use Rattle.model.specs.Tables.{Ty, byte_of, eq_ty, eq_tys}
use Rattle.model.specs.Operators.{fits}
use Rattle.model.specs.State.{fit_all, firsts}
use Rattle.model.specs.Check.{Shape}
use Rattle.shapes.specs.Pool.{Pool, Shows, Fine}
use Rattle.shapes.specs.Effects.{Types, Pops}
use Rattle.shapes.proofs.Showing.{height, one_shape}
use Rattle.shapes.proofs.Replies.{One, one}
use Rattle.shapes.proofs.Doing.{fit_at, fit_down, down}

-- ---- Two shapes

pub record Walk (P : Pool) (A B : Shape) (n x y : ℕ) : Type 0 where
  pub left : Shape
  pub right : Shape
  pub at_left : Shows P left x
  pub at_right : Shows P right y
  pub size_left : length left ≡ n
  pub size_right : length right ≡ n
  pub rest : eq_tys A B ≡ eq_tys left right

pub walk_start : (P : Pool) (A B : Shape) (n x y : ℕ) → Shows P A x → Shows P B y → n ≡ get_or P.heights x 0
    → get_or P.heights x 0 ≡ get_or P.heights y 0 → Walk P A B n x y
walk_start P A B n x y a b e h =
    record {
      left = A;
      right = B;
      at_left = a;
      at_right = b;
      size_left = sym (e ∙ height P A x a);
      size_right = sym (e ∙ (h ∙ height P B y b));
      rest = refl;
    }

eq_tys_refl : (A : Shape) → eq_tys A A ≡ true
unfolding eq_tys eq_ty
eq_tys_refl [] = refl
eq_tys_refl (t ∷ A) = rw (eq-eqb (byte_of t) (byte_of t) refl) (eq_tys_refl A)

eq_tys_length : (A B : Shape) → (length A ≡ length B → ⊥) → false ≡ eq_tys A B
unfolding eq_tys eq_ty
eq_tys_length [] [] h = absurd (h refl)
eq_tys_length [] (u ∷ B) h = refl
eq_tys_length (t ∷ A) [] h = refl
eq_tys_length (t ∷ A) (u ∷ B) h = by (eqb (byte_of t) (byte_of u)) (eq_tys_length A B (λ e. h (ap suc e)))
  where
    by : (b : Bool) → false ≡ eq_tys A B → false ≡ (b && eq_tys A B)
    by true e = e
    by false e = refl

pub walk_heights : (P : Pool) (A B : Shape) (x y : ℕ) → Shows P A x → Shows P B y → (get_or P.heights x 0 ≡ get_or P.heights y 0 → ⊥) → false ≡ eq_tys A B
walk_heights P A B x y a b h = eq_tys_length A B (λ e. h (height P A x a ∙ (e ∙ sym (height P B y b))))

pub walk_meet : (P : Pool) (A B : Shape) (n x y : ℕ) → Walk P A B n x y → x ≡ y → true ≡ eq_tys A B
walk_meet P A B n x y w e =
    let s : w.left ≡ w.right = one_shape P w.left w.right y (subst (λ (k : ℕ). Shows P w.left k) e w.at_left) w.at_right in
    sym (w.rest ∙ (ap (λ (l : Shape). eq_tys l w.right) s ∙ eq_tys_refl w.right))

eq_tys_top : (A B C D : Shape) (t u : Ty) → A ≡ t ∷ C → B ≡ u ∷ D → eq_tys A B ≡ (eqb (byte_of t) (byte_of u) && eq_tys C D)
unfolding eq_tys eq_ty
eq_tys_top A B C D t u a b = rw (a, b)

module _ (P : Pool) (A B : Shape) (n x y : ℕ) (f : Fine P) (w : Walk P A B n x y) (more : 0 < n) where
  left_one : One P w.left x
  left_one = one P w.left x f (rw (height P w.left x w.at_left, w.size_left) more) w.at_left

  right_one : One P w.right y
  right_one = one P w.right y f (rw (height P w.right y w.at_right, w.size_right) more) w.at_right

  pub walk_differ : (get_or P.tops x 0 ≡ get_or P.tops y 0 → ⊥) → false ≡ eq_tys A B
  walk_differ h =
      sym (w.rest ∙ (eq_tys_top w.left w.right left_one.rest right_one.rest left_one.top right_one.top left_one.is right_one.is
      ∙ rw (ne_eqb (byte_of left_one.top) (byte_of right_one.top) (λ e. h (sym left_one.byte ∙ (e ∙ right_one.byte))))))

  pub walk_next : (m c d : ℕ) → m + 1 ≡ n → get_or P.tops x 0 ≡ get_or P.tops y 0 → c ≡ get_or P.belows x 0 % 2048 → d ≡ get_or P.belows y 0 % 2048
      → Walk P A B m c d
  walk_next m c d k h p q =
      let a : length w.left ≡ n = w.size_left in
      let b : length w.right ≡ n = w.size_right in
      let e : length w.left ≡ suc (length left_one.rest) = ap length left_one.is in
      let g : length w.right ≡ suc (length right_one.rest) = ap length right_one.is in
      record {
        left = left_one.rest;
        right = right_one.rest;
        at_left = left_one.below c p;
        at_right = right_one.below d q;
        size_left = omega arith;
        size_right = omega arith;
        rest = w.rest ∙ (eq_tys_top w.left w.right left_one.rest right_one.rest left_one.top right_one.top left_one.is right_one.is
            ∙ rw (eq-eqb (byte_of left_one.top) (byte_of right_one.top) (left_one.byte ∙ (h ∙ sym right_one.byte))));
      }

nil_of : (A : Shape) → length A ≡ 0 → A ≡ []
nil_of [] e = refl
nil_of (t ∷ A) e = absurd (omega arith)

pub walk_end : (P : Pool) (A B : Shape) (n x y : ℕ) → Walk P A B n x y → n ≡ 0 → true ≡ eq_tys A B
walk_end P A B n x y w e =
    sym (w.rest ∙ (ap (λ (l : Shape). eq_tys l w.right) (nil_of w.left (w.size_left ∙ e) ∙ sym (nil_of w.right (w.size_right ∙ e))) ∙ eq_tys_refl
    w.right))

-- ---- Values and types

pub record Popping (P : Pool) (ps : List ℕ) (ts : List Ty) (S : Shape) (n i x : ℕ) : Type 0 where
  pub rest : Shape
  pub shows : Shows P rest x
  pub enough : i ≤ length rest
  pub fit : fit_down (fits ps) ts n S ≡ fit_down (fits ps) ts i rest
  pub left : drop n S ≡ drop i rest

pub popping_start : (P : Pool) (ps : List ℕ) (ts : List Ty) (S : Shape) (n x : ℕ) → Shows P S x → n ≤ length S → Popping P ps ts S n n x
popping_start P ps ts S n x w h = record { rest = S; shows = w; enough = h; fit = refl; left = refl }

at_less : (ts : List Ty) (i : ℕ) → i < length ts → (C : Option Ty → Type 0) → ((t : Ty) → at ts i ≡ some t → C (some t)) → C (at ts i)
unfolding at
at_less [] i h C g = absurd (omega arith)
at_less (t ∷ ts) zero h C g = g t refl
at_less (t ∷ ts) (suc i) h C g = at_less ts i (omega arith) C g

fit_top : (ps : List ℕ) (ts : List Ty) (i : ℕ) (S R : Shape) (v : Ty) → S ≡ v ∷ R
    → fit_down (fits ps) ts (suc i) S ≡ (fit_at (fits ps) v (at ts i) && fit_down (fits ps) ts i R)
unfolding fit_down
fit_top ps ts i S R v e = rw e

and_true : (a r b : Bool) → a ≡ r → r ≡ true → (a && b) ≡ b
and_true a r b p q = rw (p, q)

and_false : (a r b : Bool) → a ≡ r → r ≡ false → (a && b) ≡ false
and_false a r b p q = rw (p, q)

drop_top : (i : ℕ) (S R : Shape) (v : Ty) → S ≡ v ∷ R → drop (suc i) S ≡ drop i R
drop_top i S R v e = rw e

module _ (P : Pool) (ps l : List ℕ) (ts : List Ty) (S : Shape) (n i x : ℕ) (r : Bool) (f : Fine P) (p : Popping P ps ts S n (suc i) x)
    (types : Types l 0 ts) (inside : i < length ts) (said : (A B : Ty) → byte_of A ≡ get_or P.tops x 0 → byte_of B ≡ get_or l i 0
    → r ≡ fits ps A B) where
  top_one : One P p.rest x
  top_one =
      one P p.rest x f (let h : get_or P.heights x 0 ≡ length p.rest = height P p.rest x p.shows in let k : suc i ≤ length p.rest =
      p.enough in omega arith) p.shows

  fit_said : fit_at (fits ps) top_one.top (at ts i) ≡ r
  unfolding fit_at
  fit_said = at_less ts i inside (λ o. fit_at (fits ps) top_one.top o ≡ r) (λ t e. sym (said top_one.top t top_one.byte
      (sym (subst (λ (k : ℕ). get_or l k 0 ≡ byte_of t) (let z : 0 + i ≡ i = omega arith in z) (types i t e)))))

  pub popping_next : (b : ℕ) → r ≡ true → b ≡ get_or P.belows x 0 % 2048 → Popping P ps ts S n i b
  popping_next b e h =
      let k : suc i ≤ length p.rest = p.enough in
      let g : length p.rest ≡ suc (length top_one.rest) = ap length top_one.is in
      record {
        rest = top_one.rest;
        shows = top_one.below b h;
        enough = omega arith;
        fit = p.fit ∙ (fit_top ps ts i p.rest top_one.rest top_one.top top_one.is ∙ and_true _ _ _ fit_said e);
        left = p.left ∙ drop_top i p.rest top_one.rest top_one.top top_one.is;
      }

  pub popping_wrong : r ≡ false → fit_down (fits ps) ts n S ≡ false
  popping_wrong e = p.fit ∙ (fit_top ps ts i p.rest top_one.rest top_one.top top_one.is ∙ and_false _ _ _ fit_said e)

-- as the code counts down
pub stepped : (P : Pool) (ps : List ℕ) (ts : List Ty) (S : Shape) (n i x : ℕ) → 0 < i → Popping P ps ts S n i x → Popping P ps ts S n (suc (i - 1)) x
stepped P ps ts S n i x h p = let e : i ≡ suc (i - 1) = omega arith in subst (λ (k : ℕ). Popping P ps ts S n k x) e p

module _ (P : Pool) (ps : List ℕ) (ts : List Ty) (S : Shape) (n : ℕ) (size : length ts ≡ n) (enough : n ≤ length S) where
  all_down : fit_all (fits ps) ts (firsts n S []) ≡ fit_down (fits ps) ts n S
  all_down =
      ap (λ (l : List Ty). fit_all (fits ps) l (firsts n S [])) (sym (take_all n ts (omega arith)))
      ∙ down (fits ps) ts n S (omega arith) enough

  pub popped_wrong : fit_down (fits ps) ts n S ≡ false → Pops P None (fit_all (fits ps) ts (firsts n S [])) (drop n S)
  unfolding Pops
  popped_wrong e = all_down ∙ e

  pub popped_right : (i x : ℕ) → Popping P ps ts S n i x → i ≡ 0 → Pops P (Some x) (fit_all (fits ps) ts (firsts n S [])) (drop n S)
  unfolding Pops fit_down
  popped_right i x p e =
      (all_down ∙ (p.fit ∙ rw e refl), subst (λ (R : Shape). Shows P R x) (sym (p.left ∙ ap (λ (k : ℕ). drop k p.rest) e)) p.shows)
