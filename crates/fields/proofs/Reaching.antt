-- Fields, by the tests that led to the answers of the instructions on them.
use Prim.Native.Nat.{ℕ, ◌+◌, ◌-◌, ◌*◌, ◌≤◌, ◌<◌}
use mathlib.Core.Path.{◌≡◌, refl, sym, ap, ◌∙◌}
use mathlib.Core.Bool.{Bool, true, false, not}
use mathlib.Core.List.{List}
use native.Mathlib.Omega.{arith}
use lib.ListN.{get_or, set}
use lib.Dec.{eqb}
use borrow.Author.Tests.{lt-ltb, le-ltb, eq-eqb, ne_eqb, not-true, not-false}
use Rattle.std.specs.Prelude.{Option, Some, None}
use Rattle.model.specs.Answer.{Answer, ok, ◌>>=◌, guard}
use Rattle.loaded.specs.Holds.{field_cell}
use Rattle.state.specs.declared.Stay.{Stay}
use Rattle.state.specs.View.{Work, kind_of_byte}
use Rattle.state.specs.Work.{Went, runs, with_cells, with_statics, with_marks, with_heap, sp_of, kind_at, bits_at, goto, put, place_of, heap_cell, refers_w, fits_w, starting_w, ldfld_row, stfld_row, ldsfld_row, stsfld_row}
use Rattle.state.specs.Meets.{Meets}
use Rattle.in_frame.proofs.Answers.{stops, goes, none_there, all_there}
use Rattle.fields.specs.Members.{Starts}
use Rattle.fields.proofs.Started.{started, comes_first}

-- ---- What an instruction does once the class is started

abbrev loads : List ℕ → Work → ℕ → ℕ → List ℕ → Answer ℕ Went
loads fields c r next marks =
    guard (not (eqb (bits_at c (sp_of c - 1)) 0)) 34 >>= λ _.
    ok (runs (with_marks (put c next (sp_of c - 1) (kind_of_byte (field_cell fields r 2)) (get_or c.heap (heap_cell fields (bits_at c (sp_of c - 1)) r) 0)) marks))

-- the value on top in the heap's cell i, and these marks
abbrev pub stored_at : Work → ℕ → ℕ → List ℕ → Work
stored_at c next i marks = with_marks (with_heap (goto c next (sp_of c - 2)) c.classes (set c.heap i (bits_at c (sp_of c - 1)))) marks

abbrev stores : List ℕ → Work → ℕ → ℕ → List ℕ → Answer ℕ Went
stores fields c r next marks =
    guard (not (eqb (bits_at c (sp_of c - 2)) 0)) 34 >>= λ _.
    ok (runs (stored_at c next (heap_cell fields (bits_at c (sp_of c - 2)) r) marks))

abbrev loads_static : List ℕ → Work → ℕ → ℕ → List ℕ → Answer ℕ Went
loads_static fields c r next marks =
    ok (runs (with_marks (put c next (sp_of c) (kind_of_byte (field_cell fields r 2)) (get_or c.statics (field_cell fields r 3) 0)) marks))

abbrev stores_static : List ℕ → Work → ℕ → ℕ → List ℕ → Answer ℕ Went
stores_static fields c r next marks =
    ok (runs (with_marks (with_statics (goto c next (sp_of c - 1)) (set c.statics (field_cell fields r 3) (bits_at c (sp_of c - 1)))) marks))

-- ---- The answers: w is the class, e the initialiser that comes first, if any, j the kind and x the slot of the field

module _ (fields initialisers ancestors : List ℕ) (y : Stay) (c : Work) (r next : ℕ) where
  pub ldfld_none : {o : ℕ} → sp_of c ≤ y.floor → Meets 43 o c c (ldfld_row fields initialisers ancestors y c r next)
  unfolding ldfld_row guard ◌>>=◌
  ldfld_none h = stops refl refl (simp (none_there y c 1 (omega arith)))

  module _ (one : y.floor < sp_of c) where
    pub ldfld_kind : {o : ℕ} → (kind_at c (sp_of c - 1) ≡ 0 → ⊥) → Meets 45 o c c (ldfld_row fields initialisers ancestors y c r next)
    unfolding ldfld_row guard ◌>>=◌
    ldfld_kind n = stops refl refl (simp (all_there y c 1 (omega arith), ne_eqb _ _ n))

    module _ (k : kind_at c (sp_of c - 1) ≡ 0) {t : Bool} (q : t ≡ refers_w ancestors c.classes (bits_at c (sp_of c - 1)) (field_cell fields r 0)) where
      pub ldfld_other : {o : ℕ} → not t ≡ true → Meets 45 o c c (ldfld_row fields initialisers ancestors y c r next)
      unfolding ldfld_row guard ◌>>=◌
      ldfld_other f = stops refl refl (simp (all_there y c 1 (omega arith), eq-eqb _ _ k, ← q, not-true t f))

      module _ (f : not t ≡ false) {w : ℕ} {e : Option ℕ} (v : w ≡ field_cell fields r 0) (s : Starts initialisers c.marks w e) where
        ldfld_starts : ldfld_row fields initialisers ancestors y c r next ≡ starting_w initialisers c w (loads fields c r next)
        unfolding ldfld_row guard ◌>>=◌
        ldfld_starts = simp (all_there y c 1 (omega arith), eq-eqb _ _ k, ← q, not-false t f, v)

        pub ldfld_waits : {first : ℕ} → e ≡ Some first → Meets 2 first c c (ldfld_row fields initialisers ancestors y c r next)
        ldfld_waits n = comes_first initialisers c (loads fields c r next) s ldfld_starts n

        module _ (z : e ≡ None) where
          pub ldfld_null : {o : ℕ} → bits_at c (sp_of c - 1) ≡ 0 → Meets 34 o c c (ldfld_row fields initialisers ancestors y c r next)
          unfolding guard ◌>>=◌
          ldfld_null b = stops refl refl (started initialisers c (loads fields c r next) s ldfld_starts z ∙ simp (eq-eqb _ _ b))

          pub ldfld_goes : {o j x : ℕ} → (bits_at c (sp_of c - 1) ≡ 0 → ⊥) → j ≡ kind_of_byte (field_cell fields r 2) → x ≡ field_cell fields r 3
              → Meets 0 o (with_marks (with_cells (goto c next (sp_of c)) (set c.cells (sp_of c - 1) (get_or c.heap
              (place_of (bits_at c (sp_of c - 1)) * 8 + x) 0)) (set c.kinds (sp_of c - 1) j)) (set c.marks w 1)) c
              (ldfld_row fields initialisers ancestors y c r next)
          unfolding guard ◌>>=◌ put
          ldfld_goes n g h =
              let top : sp_of c - 1 + 1 ≡ sp_of c = omega arith in
              goes (started initialisers c (loads fields c r next) s ldfld_starts z ∙ simp (ne_eqb _ _ n, g, h, top))

  pub stfld_few : {o : ℕ} → sp_of c < y.floor + 2 → Meets 43 o c c (stfld_row fields initialisers ancestors y c r next)
  unfolding stfld_row guard ◌>>=◌
  stfld_few h = stops refl refl (simp (none_there y c 2 h))

  module _ (two : y.floor + 2 ≤ sp_of c) where
    pub stfld_kind : {o : ℕ} → (kind_at c (sp_of c - 2) ≡ 0 → ⊥) → Meets 45 o c c (stfld_row fields initialisers ancestors y c r next)
    unfolding stfld_row guard ◌>>=◌
    stfld_kind n = stops refl refl (simp (all_there y c 2 two, ne_eqb _ _ n))

    module _ (k : kind_at c (sp_of c - 2) ≡ 0) {t : Bool} (q : t ≡ refers_w ancestors c.classes (bits_at c (sp_of c - 2)) (field_cell fields r 0)) where
      pub stfld_other : {o : ℕ} → not t ≡ true → Meets 45 o c c (stfld_row fields initialisers ancestors y c r next)
      unfolding stfld_row guard ◌>>=◌
      stfld_other f = stops refl refl (simp (all_there y c 2 two, eq-eqb _ _ k, ← q, not-true t f))

      module _ (f : not t ≡ false) {u : Bool} (p : u ≡ fits_w ancestors c.classes (kind_at c (sp_of c - 1)) (bits_at c (sp_of c - 1))
          (field_cell fields r 2)) where
        pub stfld_unfit : {o : ℕ} → not u ≡ true → Meets 45 o c c (stfld_row fields initialisers ancestors y c r next)
        unfolding stfld_row guard ◌>>=◌
        stfld_unfit g = stops refl refl (simp (all_there y c 2 two, eq-eqb _ _ k, ← q, not-false t f, ← p, not-true u g))

        module _ (g : not u ≡ false) {w : ℕ} {e : Option ℕ} (v : w ≡ field_cell fields r 0) (s : Starts initialisers c.marks w e) where
          stfld_starts : stfld_row fields initialisers ancestors y c r next ≡ starting_w initialisers c w (stores fields c r next)
          unfolding stfld_row guard ◌>>=◌
          stfld_starts = simp (all_there y c 2 two, eq-eqb _ _ k, ← q, not-false t f, ← p, not-false u g, v)

          pub stfld_waits : {first : ℕ} → e ≡ Some first → Meets 2 first c c (stfld_row fields initialisers ancestors y c r next)
          stfld_waits n = comes_first initialisers c (stores fields c r next) s stfld_starts n

          module _ (z : e ≡ None) where
            pub stfld_null : {o : ℕ} → bits_at c (sp_of c - 2) ≡ 0 → Meets 34 o c c (stfld_row fields initialisers ancestors y c r next)
            unfolding guard ◌>>=◌
            stfld_null b = stops refl refl (started initialisers c (stores fields c r next) s stfld_starts z ∙ simp (eq-eqb _ _ b))

            pub stfld_goes : {o x : ℕ} → (bits_at c (sp_of c - 2) ≡ 0 → ⊥) → x ≡ field_cell fields r 3
                → Meets 0 o (stored_at c next (place_of (bits_at c (sp_of c - 2)) * 8 + x) (set c.marks w 1)) c
                (stfld_row fields initialisers ancestors y c r next)
            unfolding guard ◌>>=◌
            stfld_goes n h =
                let stored : stores fields c r next (set c.marks w 1) ≡ ok (runs (stored_at c next
                (place_of (bits_at c (sp_of c - 2)) * 8 + field_cell fields r 3) (set c.marks w 1))) = simp (ne_eqb _ _ n) in
                goes (started initialisers c (stores fields c r next) s stfld_starts z
                ∙ (stored ∙ ap (λ (i : ℕ). ok (runs (stored_at c next (place_of (bits_at c (sp_of c - 2)) * 8 + i) (set c.marks w 1)))) (sym h)))

  pub stsfld_none : {o : ℕ} → sp_of c ≤ y.floor → Meets 43 o c c (stsfld_row fields initialisers ancestors y c r next)
  unfolding stsfld_row guard ◌>>=◌
  stsfld_none h = stops refl refl (simp (none_there y c 1 (omega arith)))

  module _ (one : y.floor < sp_of c) {u : Bool} (p : u ≡ fits_w ancestors c.classes (kind_at c (sp_of c - 1)) (bits_at c (sp_of c - 1))
      (field_cell fields r 2)) where
    pub stsfld_unfit : {o : ℕ} → not u ≡ true → Meets 45 o c c (stsfld_row fields initialisers ancestors y c r next)
    unfolding stsfld_row guard ◌>>=◌
    stsfld_unfit g = stops refl refl (simp (all_there y c 1 (omega arith), ← p, not-true u g))

    module _ (g : not u ≡ false) {w : ℕ} {e : Option ℕ} (v : w ≡ field_cell fields r 0) (s : Starts initialisers c.marks w e) where
      stsfld_starts : stsfld_row fields initialisers ancestors y c r next ≡ starting_w initialisers c w (stores_static fields c r next)
      unfolding stsfld_row guard ◌>>=◌
      stsfld_starts = simp (all_there y c 1 (omega arith), ← p, not-false u g, v)

      pub stsfld_waits : {first : ℕ} → e ≡ Some first → Meets 2 first c c (stsfld_row fields initialisers ancestors y c r next)
      stsfld_waits n = comes_first initialisers c (stores_static fields c r next) s stsfld_starts n

      pub stsfld_goes : {o x : ℕ} → e ≡ None → x ≡ field_cell fields r 3
          → Meets 0 o (with_marks (with_statics (goto c next (sp_of c - 1)) (set c.statics x (bits_at c (sp_of c - 1)))) (set c.marks w 1)) c
          (stsfld_row fields initialisers ancestors y c r next)
      stsfld_goes z h = goes (started initialisers c (stores_static fields c r next) s stsfld_starts z ∙ simp h)

module _ (fields initialisers : List ℕ) (y : Stay) (c : Work) (r next : ℕ) where
  pub ldsfld_full : {o : ℕ} → y.limit ≤ sp_of c → Meets 44 o c c (ldsfld_row fields initialisers y c r next)
  unfolding ldsfld_row guard ◌>>=◌
  ldsfld_full h = stops refl refl (simp (le-ltb _ _ h))

  module _ (room : sp_of c < y.limit) {w : ℕ} {e : Option ℕ} (v : w ≡ field_cell fields r 0) (s : Starts initialisers c.marks w e) where
    ldsfld_starts : ldsfld_row fields initialisers y c r next ≡ starting_w initialisers c w (loads_static fields c r next)
    unfolding ldsfld_row guard ◌>>=◌
    ldsfld_starts = simp (lt-ltb _ _ room, v)

    pub ldsfld_waits : {first : ℕ} → e ≡ Some first → Meets 2 first c c (ldsfld_row fields initialisers y c r next)
    ldsfld_waits n = comes_first initialisers c (loads_static fields c r next) s ldsfld_starts n

    pub ldsfld_goes : {o j x : ℕ} → e ≡ None → j ≡ kind_of_byte (field_cell fields r 2) → x ≡ field_cell fields r 3
        → Meets 0 o (with_marks (put c next (sp_of c) j (get_or c.statics x 0)) (set c.marks w 1)) c (ldsfld_row fields initialisers y c r next)
    ldsfld_goes z g h = goes (started initialisers c (loads_static fields c r next) s ldsfld_starts z ∙ simp (g, h))
