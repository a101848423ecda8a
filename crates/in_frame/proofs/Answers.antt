-- The answers of the steps, by the tests that led to them.
use Rattle.std.proofs.Common.{◌≡◌, ℕ, ◌+◌, ◌-◌, ◌<◌, ◌≤◌, Bool, true, false, eqb, List, get_or, set, sym, refl, ◌∙◌, arith, le-ltb, lt-ltb, ne_eqb, le-leb}
use borrow.Author.Tests.{lt-leb}
use Rattle.model.specs.Answer.{Answer, bad, ok, ◌>>=◌, guard, pick}
use Rattle.state.specs.declared.Stay.{Stay}
use Rattle.state.specs.View.{Work}
use Rattle.state.specs.Work.{Went, runs, with_cells, kind_at, bits_at, goto, put, few, push_w, pop_w, dup_w, load_w, store_w, ldarg_w, starg_w, ldloc_w, stloc_w, fits_w}
use Rattle.state.specs.Meets.{answer, Meets}

-- ---- A step ends, or goes on

pub stops : {e o : ℕ} {c : Work} {said : Answer ℕ Went} → eqb e 0 ≡ false → eqb e 2 ≡ false → said ≡ bad e → Meets e o c c said
unfolding answer pick
stops n m s = record { says = simp (n, m, s); kept = λ _. refl }

pub goes : {o : ℕ} {after before : Work} {said : Answer ℕ Went} → said ≡ ok (runs after) → Meets 0 o after before said
unfolding answer pick
goes s = record { says = sym s; kept = λ n. absurd (n refl) }

pub instead : {e o : ℕ} {after before : Work} {said other : Answer ℕ Went} → said ≡ other → Meets e o after before other
    → Meets e o after before said
instead q m = record { says = m.says ∙ sym q; kept = m.kept }

-- ---- The stack

-- n values are there, or not
module _ (y : Stay) (c : Work) where
  pub none_there : (n : ℕ) → c.regs.sp < y.floor + n → few y c n ≡ false
  unfolding few
  none_there n h = lt-leb _ _ h

  pub all_there : (n : ℕ) → y.floor + n ≤ c.regs.sp → few y c n ≡ true
  unfolding few
  all_there n h = le-leb _ _ h

module _ (y : Stay) (c : Work) (k b next : ℕ) where
  pub push_full : {o : ℕ} → y.limit ≤ c.regs.sp → Meets 44 o c c (push_w y c k b next)
  unfolding push_w guard ◌>>=◌
  push_full h = stops refl refl (simp (le-ltb _ _ h))

  pub push_goes : {o : ℕ} → c.regs.sp < y.limit → Meets 0 o (put c next c.regs.sp k b) c (push_w y c k b next)
  unfolding push_w guard ◌>>=◌
  push_goes h = goes (simp (lt-ltb _ _ h))

module _ (y : Stay) (c : Work) (next : ℕ) where
  pub pop_none : {o : ℕ} → c.regs.sp ≤ y.floor → Meets 43 o c c (pop_w y c next)
  unfolding pop_w guard ◌>>=◌
  pop_none h = stops refl refl (simp (none_there y c 1 (omega arith)))

  pub pop_goes : {o : ℕ} → y.floor < c.regs.sp → Meets 0 o (goto c next (c.regs.sp - 1)) c (pop_w y c next)
  unfolding pop_w guard ◌>>=◌
  pop_goes h = goes (simp (all_there y c 1 (omega arith)))

  pub dup_none : {o : ℕ} → c.regs.sp ≤ y.floor → Meets 43 o c c (dup_w y c next)
  unfolding dup_w guard ◌>>=◌
  dup_none h = stops refl refl (simp (none_there y c 1 (omega arith)))

  pub dup_pushes : y.floor < c.regs.sp → dup_w y c next ≡ push_w y c (kind_at c (c.regs.sp - 1)) (bits_at c (c.regs.sp - 1)) next
  unfolding dup_w guard ◌>>=◌
  dup_pushes h = simp (all_there y c 1 (omega arith))

-- ---- Arguments and locals

module _ (variables : List ℕ) (y : Stay) (c : Work) (i next : ℕ) where
  pub load_none : {o : ℕ} → 3 < get_or variables (y.mp + i) 0 → Meets 42 o c c (load_w variables y c i next)
  unfolding load_w guard ◌>>=◌
  load_none h = stops refl refl (simp (lt-leb _ _ h))

  pub load_pushes : get_or variables (y.mp + i) 0 ≤ 3 → load_w variables y c i next ≡ push_w y c (get_or variables (y.mp + i) 0) (bits_at c (y.fp + i)) next
  unfolding load_w guard ◌>>=◌
  load_pushes h = simp (le-leb _ _ h)

  pub ldarg_out : {o : ℕ} → 8 ≤ i → Meets 42 o c c (ldarg_w variables y c i next)
  unfolding ldarg_w guard ◌>>=◌
  ldarg_out h = stops refl refl (simp (le-ltb _ _ h))

  pub ldarg_loads : i < 8 → ldarg_w variables y c i next ≡ load_w variables y c i next
  unfolding ldarg_w guard ◌>>=◌
  ldarg_loads h = simp (lt-ltb _ _ h)

  pub ldloc_out : {o : ℕ} → 16 ≤ i → Meets 42 o c c (ldloc_w variables y c i next)
  unfolding ldloc_w guard ◌>>=◌
  ldloc_out h = stops refl refl (simp (le-ltb _ _ h))

  pub ldloc_loads : i < 16 → ldloc_w variables y c i next ≡ load_w variables y c (8 + i) next
  unfolding ldloc_w guard ◌>>=◌
  ldloc_loads h = simp (lt-ltb _ _ h)

module _ (methods ancestors : List ℕ) (y : Stay) (c : Work) (i next : ℕ) where
  pub store_none : {o : ℕ} → get_or methods (y.mp + i) 0 ≡ 0 → Meets 42 o c c (store_w methods ancestors y c i next)
  unfolding store_w guard ◌>>=◌
  store_none h = stops refl refl (simp h)

  module _ (there : get_or methods (y.mp + i) 0 ≡ 0 → ⊥) where
    pub store_empty : {o : ℕ} → c.regs.sp ≤ y.floor → Meets 43 o c c (store_w methods ancestors y c i next)
    unfolding store_w guard ◌>>=◌
    store_empty h = stops refl refl (simp (ne_eqb _ _ there, none_there y c 1 (omega arith)))

    module _ (one : y.floor < c.regs.sp) {t : Bool} {classes : List ℕ} (e : c.classes ≡ classes)
        (q : t ≡ fits_w ancestors classes (kind_at c (c.regs.sp - 1)) (bits_at c (c.regs.sp - 1)) (get_or methods (y.mp + i) 0)) where
      pub store_wrong : {o : ℕ} → t ≡ false → Meets 45 o c c (store_w methods ancestors y c i next)
      unfolding store_w guard ◌>>=◌
      store_wrong f = stops refl refl (simp (ne_eqb _ _ there, all_there y c 1 (omega arith), e, ← q, f))

      pub store_goes : {o : ℕ} → t ≡ true
          → Meets 0 o (with_cells (goto c next (c.regs.sp - 1)) (set c.cells (y.fp + i) (bits_at c (c.regs.sp - 1))) c.kinds) c
          (store_w methods ancestors y c i next)
      unfolding store_w guard ◌>>=◌
      store_goes f = goes (simp (ne_eqb _ _ there, all_there y c 1 (omega arith), e, ← q, f))

  pub starg_out : {o : ℕ} → 8 ≤ i → Meets 42 o c c (starg_w methods ancestors y c i next)
  unfolding starg_w guard ◌>>=◌
  starg_out h = stops refl refl (simp (le-ltb _ _ h))

  pub starg_stores : i < 8 → starg_w methods ancestors y c i next ≡ store_w methods ancestors y c i next
  unfolding starg_w guard ◌>>=◌
  starg_stores h = simp (lt-ltb _ _ h)

  pub stloc_out : {o : ℕ} → 16 ≤ i → Meets 42 o c c (stloc_w methods ancestors y c i next)
  unfolding stloc_w guard ◌>>=◌
  stloc_out h = stops refl refl (simp (le-ltb _ _ h))

  pub stloc_stores : i < 16 → stloc_w methods ancestors y c i next ≡ store_w methods ancestors y c (8 + i) next
  unfolding stloc_w guard ◌>>=◌
  stloc_stores h = simp (lt-ltb _ _ h)
