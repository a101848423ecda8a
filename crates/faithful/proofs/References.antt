-- References in a running work: a cell that fits a class is null or names an object whose class descends from it.
use Prim.Native.Nat.{ℕ, zero, suc, ◌+◌, ◌-◌, ◌%◌, ◌≤◌, ◌<◌}
use mathlib.Core.Path.{◌≡◌, refl, sym, ◌∙◌}
use mathlib.Core.Bool.{Bool, true, false, ◌&&◌, ◌||◌}
use native.Mathlib.Omega.{arith}
use native.Mathlib.Nat.{mod-eq_of_lt}
use lib.ListN.{length, get_or}
use lib.Dec.{leb, ltb, eqb}
use borrow.Author.Tests.{lt-leb, ltb-false, ne_eqb, eqb-true}
use Rattle.model.specs.Answer.{pick}
use Rattle.model.specs.Tables.{class, byte_of, descends}
use Rattle.model.specs.State.{bits_in, object_at, fits_value}
use Rattle.state.specs.View.{shown, heap_of}
use Rattle.state.specs.Order.{Named}
use Rattle.state.specs.Work.{kind_at, bits_at, class_of, place_of, in_set, refers_w, fits_w}
use Rattle.faithful.proofs.Lists.{and_l, and_r}
use Rattle.faithful.proofs.Seen.{climbs_row, class_seen, refers_seen, refers_type}
use Rattle.faithful.proofs.Heap.{made_below}
use Rattle.faithful.proofs.Sim.{Running, H, floor, classes_few, fits_at, fit_cell}
use Rattle.faithful.proofs.Values.{bits_seen}

or_r : (a b : Bool) → a ≡ false → (a || b) ≡ true → b ≡ true
or_r true b e q = let z : ◌≡◌ {A = ℕ} 0 1 = cc in absurd (omega arith)
or_r false b e q = q

-- a number that names an object of a class which descends from o
pub record Names (R : Running) (b o : ℕ) : Type 0 where
  pub class_above : 0 < class_of R.c.classes b
  pub class_row : class_of R.c.classes b ≤ length R.M.parents
  pub class_descends : descends R.M.parents (class_of R.c.classes b) o ≡ true
  pub place_is : place_of b ≡ b - 1

module _ (R : Running) where
  -- a cell that fits a class is a reference
  pub reference_fits : (i o : ℕ) → fits_at R i (32 + o) ≡ true → (kind_at R.c i ≡ 0) × (refers_w R.ancestors R.c.classes (bits_at R.c i) (32 + o) ≡ true)
  unfolding fits_w pick
  reference_fits i o e =
      let few = R.g.frames.kindly i in
      let n : eqb (kind_at R.c i) (32 + o) ≡ false = ne_eqb (kind_at R.c i) (32 + o) (λ z. omega arith) in
      let t : leb (32 + o) 3 ≡ false = lt-leb (32 + o) 3 (omega arith) in
      let q : (eqb (kind_at R.c i) 0 && refers_w R.ancestors R.c.classes (bits_at R.c i) (32 + o)) ≡ true = rw (n, t) at e in
      (eqb-true _ _ (and_l (eqb (kind_at R.c i) 0) _ q), and_r (eqb (kind_at R.c i) 0) (refers_w R.ancestors R.c.classes (bits_at R.c i) (32 + o)) q)

  -- whether it fits says the same by the class's row and by the byte of its type
  pub class_fit : (i d o : ℕ) → i ≡ floor R + d → 0 < o → o ≤ 32
      → fits_value R.M (heap_of R.M R.c) (H R d) (class o) ≡ (eqb (kind_at R.c i) 0 && refers_w R.ancestors R.c.classes (bits_at R.c i) o)
  unfolding Named byte_of fits_w pick
  class_fit i d o x lo hi =
      let few = R.g.frames.kindly i in
      let n : eqb (kind_at R.c i) (32 + o) ≡ false = ne_eqb (kind_at R.c i) (32 + o) (λ z. omega arith) in
      let t : leb (32 + o) 3 ≡ false = lt-leb (32 + o) 3 (omega arith) in
      let b : ℕ = bits_at R.c i in
      let long = R.g.heap.classes_long in
      let same : refers_w R.ancestors R.c.classes (bits_at R.c i) (32 + o) ≡ refers_w R.ancestors R.c.classes (bits_at R.c i) o =
      sym (refers_type R.M R.ancestors R.made.by_class R.c long (classes_few R) b o lo hi) ∙ refers_seen R.M R.ancestors R.made.by_class R.c long (classes_few R) b o lo hi in
      fit_cell R i d (class o) x (lo, hi) ∙ rw (n, t, same)

  pub reference_bits : (i d : ℕ) → i ≡ floor R + d → kind_at R.c i ≡ 0 → bits_in (H R d) ≡ bits_at R.c i
  unfolding shown pick
  reference_bits i d x e = bits_seen R i d x ∙ rw e

  -- one that is not null, t standing for the class o in the sets
  refers_as : (b t o : ℕ) → ((k : ℕ) → k ≤ 32 → in_set (get_or R.ancestors k 0) (t % 64) ≡ descends R.M.parents k o) → refers_w R.ancestors R.c.classes b t ≡ true → (b ≡ 0 → ⊥) → Names R b o
  unfolding refers_w pick
  refers_as b t o s e nz = go (ltb 256 b) refl e where
    go : (x : Bool) → ltb 256 b ≡ x → pick x false (eqb b 0 || in_set (get_or R.ancestors (class_of R.c.classes b) 0) (t % 64)) ≡ true → Names R b o
    go true q r = let z : ◌≡◌ {A = ℕ} 0 1 = cc in absurd (omega arith)
    go false q r =
        let few : b ≤ 256 = ltb-false 256 b q in
        let up : in_set (get_or R.ancestors (class_of R.c.classes b) 0) (t % 64) ≡ true = or_r (eqb b 0) (in_set (get_or R.ancestors (class_of R.c.classes b) 0) (t % 64)) (ne_eqb b 0 nz) r in
        let ds : descends R.M.parents (class_of R.c.classes b) o ≡ true = sym (s (class_of R.c.classes b) (classes_few R (b - 1))) ∙ up in
        let pos = climbs_row R.M.parents (class_of R.c.classes b) o ds in
        record {
          class_above = pos;
          class_row = (R.g.heap.taken (b - 1) (made_below R.M R.fin R.c.regs.made R.c.classes R.c.heap R.g.heap (b - 1) pos)).1;
          class_descends = ds;
          place_is = mod-eq_of_lt (omega arith);
        }

  pub refers_by_type : (b o : ℕ) → 0 < o → o ≤ 32 → refers_w R.ancestors R.c.classes b (32 + o) ≡ true → (b ≡ 0 → ⊥) → Names R b o
  refers_by_type b o lo hi e nz = refers_as b (32 + o) o (λ k h. R.made.by_class.by_type k o h lo hi) e nz

  pub refers_by_row : (b o : ℕ) → 0 < o → o ≤ 32 → refers_w R.ancestors R.c.classes b o ≡ true → (b ≡ 0 → ⊥) → Names R b o
  refers_by_row b o lo hi e nz = let x : o % 64 ≡ o = mod-eq_of_lt (omega arith) in refers_as b o o (λ k h. rw x (R.made.by_class.by_row k o h lo hi)) e nz

  pub object_class : (b : ℕ) → (b ≡ 0 → ⊥) → (object_at (heap_of R.M R.c) b).class ≡ class_of R.c.classes b
  object_class zero nz = absurd (nz refl)
  object_class (suc n) nz = let x : suc n - 1 ≡ n = omega arith in rw x (class_seen R.M R.c n R.g.heap.classes_long)
