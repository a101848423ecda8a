-- newobj, by the tests that led to its answers.
use Prim.Native.Nat.{ℕ, ◌+◌, ◌-◌, ◌≤◌, ◌<◌}
use mathlib.Core.Path.{◌≡◌, ◌∙◌}
use mathlib.Core.List.{List}
use native.Mathlib.Omega.{arith}
use native.Mathlib.Numerals.{add-one}
use lib.ListN.{set}
use lib.Dec.{ltb}
use borrow.Author.Tests.{lt-ltb, le-ltb, eq-eqb, ne_eqb}
use Rattle.model.specs.Answer.{Answer, bad, ok, ◌>>=◌, guard}
use Rattle.loaded.specs.Holds.{method_cell}
use Rattle.state.specs.declared.Stay.{Stay}
use Rattle.state.specs.View.{Work}
use Rattle.state.specs.Work.{Went, runs, with_regs, with_cells, with_marks, with_heap, starting_w, copy_of, fours, entered, room_above, taking_w, made_w, newobj_row}
use Rattle.across_frames.specs.Lent.{newobj_w}

-- its class being started, an object is made and its constructor's frame entered
abbrev pub making : List ℕ → Work → ℕ → ℕ → ℕ → List ℕ → Answer ℕ Went
making methods c k n r marks =
    guard (ltb c.regs.made 256) 37 >>= λ _.
    guard (room_above c) 36 >>= λ _.
    ok (runs (entered methods (with_marks (made_w c k n) marks) r (c.regs.sp - n + 1)))

module _ (methods initialisers ancestors : List ℕ) (y : Stay) (c : Work) (r : ℕ) where
  pub new_none : (method_cell methods r 24 ≡ 3 → ⊥) → newobj_w methods initialisers ancestors y c r ≡ bad 42
  unfolding newobj_w guard ◌>>=◌
  new_none h = simp (ne_eqb _ _ h)

  pub new_takes : method_cell methods r 24 ≡ 3 → {n w k : ℕ} → w ≡ method_cell methods r 28 → n ≡ w - 1 → k ≡ method_cell methods r 25
      → newobj_w methods initialisers ancestors y c r ≡ (taking_w methods ancestors y c r n 1 1 >>= λ _. starting_w initialisers c k (making methods c (method_cell methods r 25) n r))
  unfolding newobj_w newobj_row guard ◌>>=◌
  new_takes h e d f = rw (d, e, f) (simp (eq-eqb _ _ h))

module _ (methods : List ℕ) (c : Work) (k n r : ℕ) (marks : List ℕ) where
  pub making_none : 256 ≤ c.regs.made → making methods c k n r marks ≡ bad 37
  unfolding guard ◌>>=◌
  making_none h = simp (le-ltb _ _ h)

  pub making_full : c.regs.made < 256 → 1984 ≤ c.regs.fp → making methods c k n r marks ≡ bad 36
  unfolding room_above guard ◌>>=◌
  making_full h f = simp (lt-ltb _ _ h, le-ltb _ _ f)

  -- the marks stored before or after the object is made
  pub making_goes : c.regs.made < 256 → c.regs.fp < 1984 → making methods c k n r marks ≡ ok (runs (entered methods (made_w (with_marks c marks) k n) r (c.regs.sp - n + 1)))
  unfolding room_above made_w guard ◌>>=◌
  making_goes h f = simp (lt-ltb _ _ h, lt-ltb _ _ f)

-- the work in which the constructor's frame is entered, its arguments laid
abbrev pub made_on : Work → List ℕ → ℕ → ℕ → Work
made_on c laid k d =
    with_heap
    (with_regs
    (with_cells c (set (set laid (c.regs.fp + 64) (c.regs.made + 1)) d (c.regs.made + 1)) (set c.kinds d 0))
    (record { fp = c.regs.fp; row = c.regs.row; at = c.regs.at; sp = d + 1; made = c.regs.made + 1 }))
    (set c.classes c.regs.made k)
    c.heap

pub made_frame : (methods : List ℕ) (c : Work) (k n row : ℕ) {laid : List ℕ} {x : Work} → laid ≡ copy_of (fours n) c.cells (c.regs.sp - n) (c.regs.fp + 64 + 1) c.cells
    → x ≡ entered methods (made_on c laid k (c.regs.sp - n)) row (c.regs.sp - n + 1) → x ≡ entered methods (made_w c k n) row (c.regs.sp - n + 1)
unfolding made_w
made_frame methods c k n row q h =
    let a : c.regs.fp + 64 + 1 ≡ c.regs.fp + 65 = omega arith in
    h ∙ simp (q, a, add-one)
