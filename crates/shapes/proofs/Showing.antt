-- What numbers stand for.
use Prim.Native.Nat.{ℕ, suc, ◌%◌, ◌≤◌, ◌<◌}
use mathlib.Core.Path.{◌≡◌, refl, sym, ◌∙◌, subst}
use mathlib.Core.List.{[], ◌∷◌}
use native.Mathlib.Omega.{arith}
use lib.ListN.{length, get_or, length-set}
use lib.Seq.{get_or-set_same, get_or-set_other}
use Rattle.model.specs.Tables.{Ty, byte_of}
use Rattle.model.specs.Check.{Shape}
use Rattle.shapes.specs.Pool.{Pool, Shows, Fine, Grown, grown}
use Rattle.shapes.proofs.Bytes.{byte_inj}

-- the height is the length
pub height : (P : Pool) (S : Shape) (n : ℕ) → Shows P S n → get_or P.heights n 0 ≡ length S
unfolding Shows
height P [] n h = h.1
height P (t ∷ S) n h = h.0.height

-- the number is in use
pub used : (P : Pool) (S : Shape) (n : ℕ) → Fine P → Shows P S n → n < P.made
unfolding Shows
used P [] n f h = let k : n ≡ 1 = h.0 in let g : 1 < P.made = f.some in omega arith
used P (t ∷ S) n f h = h.0.used

-- none is 0
pub not_none : (P : Pool) (S : Shape) (n : ℕ) → Shows P S n → 0 < n
unfolding Shows
not_none P [] n h = let k : n ≡ 1 = h.0 in omega arith
not_none P (t ∷ S) n h = let k : 1 < n = h.0.after in omega arith

-- what stands before stands after
pub later : (P Q : Pool) (S : Shape) (n : ℕ) → Fine P → Grown P Q → Shows P S n → Shows Q S n
unfolding Shows
later P Q [] n f g h =
    let u : n < P.made = used P [] n f h in
    (h.0, g.heights n u ∙ h.1)
later P Q (t ∷ S) n f g h =
    let u : n < P.made = h.0.used in
    let m : P.made ≤ Q.made = g.more in (
      record { after = h.0.after; used = omega arith; type = g.tops n u ∙ h.0.type; height = g.heights n u ∙ h.0.height },
      subst (λ (k : ℕ). Shows Q S k) (sym (g.belows n u)) (later P Q S (get_or P.belows n 0) f g h.1),
    )

pub same_grown : (P : Pool) → Fine P → Grown P P
same_grown P f = record { fine = f; more = omega arith; tops = λ n h. refl; belows = λ n h. refl; heights = λ n h. refl }

pub empty_shows : (P : Pool) → Fine P → Shows P [] 1
unfolding Shows
empty_shows P f = (refl, f.empty)

-- a number stands for one shape
pub one_shape : (P : Pool) (A B : Shape) (n : ℕ) → Shows P A n → Shows P B n → A ≡ B
unfolding Shows
one_shape P [] [] n a b = refl
one_shape P [] (u ∷ B) n a b = let x : n ≡ 1 = a.0 in let y : 1 < n = b.0.after in absurd (omega arith)
one_shape P (t ∷ A) [] n a b = let x : n ≡ 1 = b.0 in let y : 1 < n = a.0.after in absurd (omega arith)
one_shape P (t ∷ A) (u ∷ B) n a b =
    let e : t ≡ u = byte_inj t u (sym a.0.type ∙ b.0.type) in
    let f : A ≡ B = one_shape P A B (get_or P.belows n 0) a.1 b.1 in
    cc

-- the shape below, as the code reads it
pub under : (P : Pool) (t : Ty) (S : Shape) (n b : ℕ) → Fine P → Shows P (t ∷ S) n → b ≡ get_or P.belows n 0 % 2048 → Shows P S b
unfolding Shows
under P t S n b f h e =
    let u : get_or P.belows n 0 < P.made = used P S (get_or P.belows n 0) f h.1 in
    let w : P.made ≤ 2048 = f.few in
    let x : b ≡ get_or P.belows n 0 = omega arith in
    subst (λ (k : ℕ). Shows P S k) (sym x) h.1

pub top_byte : (P : Pool) (t : Ty) (S : Shape) (n : ℕ) → Shows P (t ∷ S) n → byte_of t ≡ get_or P.tops n 0
unfolding Shows
top_byte P t S n h = sym h.0.type

-- ---- A new shape

module _ (P : Pool) (s t h : ℕ) (room : P.made < 2048) (f : Fine P) where
  pub put_grown : Grown P (grown P s t h)
  put_grown =
      let n : 1 < P.made = f.some in
      record {
        fine = record {
          tops = length-set P.tops P.made t ∙ f.tops;
          belows = length-set P.belows P.made s ∙ f.belows;
          heights = length-set P.heights P.made h ∙ f.heights;
          some = omega arith;
          few = omega arith;
          empty = get_or-set_other P.heights P.made 1 h 0 (λ e. omega arith) ∙ f.empty;
        };
        more = omega arith;
        tops = λ k l. get_or-set_other P.tops P.made k t 0 (λ e. omega arith);
        belows = λ k l. get_or-set_other P.belows P.made k s 0 (λ e. omega arith);
        heights = λ k l. get_or-set_other P.heights P.made k h 0 (λ e. omega arith);
      }

  pub put_shows : (u : Ty) (S : Shape) → byte_of u ≡ t → h ≡ suc (length S) → Shows P S s → Shows (grown P s t h) (u ∷ S) P.made
  unfolding Shows
  put_shows u S e l w =
      let a : P.made < length P.tops = rw f.tops room in
      let b : P.made < length P.belows = rw f.belows room in
      let c : P.made < length P.heights = rw f.heights room in
      let o : 1 < P.made = f.some in (
        record {
          after = o;
          used = omega arith;
          type = get_or-set_same P.tops P.made t 0 a ∙ sym e;
          height = get_or-set_same P.heights P.made h 0 c ∙ l;
        },
        subst (λ (k : ℕ). Shows (grown P s t h) S k) (sym (get_or-set_same P.belows P.made s 0 b)) (later P (grown P s t h) S s f put_grown w),
      )
