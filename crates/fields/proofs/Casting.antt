-- castclass and isinst, by the tests that led to their answers.
use Prim.Native.Nat.{ℕ, ◌-◌, ◌≤◌, ◌<◌}
use mathlib.Core.Path.{◌≡◌, refl}
use mathlib.Core.Bool.{Bool, true, false}
use mathlib.Core.List.{List}
use native.Mathlib.Omega.{arith}
use lib.ListN.{set}
use lib.Seq.{set-get_or}
use lib.Dec.{eqb}
use borrow.Author.Tests.{eq-eqb, ne_eqb}
use Rattle.model.specs.Answer.{Answer, bad, ok, ◌>>=◌, guard, pick}
use Rattle.state.specs.declared.Stay.{Stay}
use Rattle.state.specs.View.{Work}
use Rattle.state.specs.Work.{Went, runs, with_cells, sp_of, kind_at, bits_at, goto, few, refers_w}
use Rattle.state.specs.Meets.{Meets}
use Rattle.in_frame.proofs.Answers.{stops, goes, none_there, all_there}

-- what a miss gives: null of isinst, 35 of castclass
unfoldable pub missed : Bool → Answer ℕ ℕ
missed true = ok 0
missed false = bad 35

-- the cast to the class k: isinst, or castclass
unfoldable pub cast_row : List ℕ → Stay → Work → Bool → ℕ → ℕ → Answer ℕ Went
cast_row ancestors y c isinst k next =
    guard (few y c 1) 43 >>= λ _.
    guard (eqb (kind_at c (sp_of c - 1)) 0) 45 >>= λ _.
    pick (refers_w ancestors c.classes (bits_at c (sp_of c - 1)) k) (ok (bits_at c (sp_of c - 1))) (missed isinst) >>= λ b.
    ok (runs (with_cells (goto c next (sp_of c)) (set c.cells (sp_of c - 1) b) c.kinds))

module _ (ancestors : List ℕ) (y : Stay) (c : Work) (isinst : Bool) (row next : ℕ) where
  pub cast_none : {o : ℕ} → sp_of c ≤ y.floor → Meets 43 o c c (cast_row ancestors y c isinst row next)
  unfolding cast_row guard ◌>>=◌
  cast_none h = stops refl refl (simp (none_there y c 1 (omega arith)))

  module _ (one : y.floor < sp_of c) where
    pub cast_kind : {o : ℕ} → (kind_at c (sp_of c - 1) ≡ 0 → ⊥) → Meets 45 o c c (cast_row ancestors y c isinst row next)
    unfolding cast_row guard ◌>>=◌
    cast_kind n = stops refl refl (simp (all_there y c 1 (omega arith), ne_eqb _ _ n))

    module _ (k : kind_at c (sp_of c - 1) ≡ 0) {classes : List ℕ} (e : c.classes ≡ classes) {t : Bool}
        (q : t ≡ refers_w ancestors classes (bits_at c (sp_of c - 1)) row) where
      pub cast_hit : {o : ℕ} → t ≡ true → Meets 0 o (goto c next (sp_of c)) c (cast_row ancestors y c isinst row next)
      unfolding cast_row guard ◌>>=◌ pick goto
      cast_hit h = goes (simp (all_there y c 1 (omega arith), eq-eqb _ _ k, e, ← q, h, set-get_or c.cells (sp_of c - 1) 0))

      module _ (h : t ≡ false) where
        pub cast_null : {o : ℕ} → isinst ≡ true
            → Meets 0 o (with_cells (goto c next (sp_of c)) (set c.cells (sp_of c - 1) 0) c.kinds) c (cast_row ancestors y c isinst row next)
        unfolding cast_row guard ◌>>=◌ pick missed
        cast_null i = goes (simp (all_there y c 1 (omega arith), eq-eqb _ _ k, e, ← q, h, i))

        pub cast_ends : {o : ℕ} → isinst ≡ false → Meets 35 o c c (cast_row ancestors y c isinst row next)
        unfolding cast_row guard ◌>>=◌ pick missed
        cast_ends i = stops refl refl (simp (all_there y c 1 (omega arith), eq-eqb _ _ k, e, ← q, h, i))
