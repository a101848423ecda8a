-- What loading answers after the records, and what a loaded module holds.
use mathlib.Core.Path.{◌≡◌, refl, sym, ap, ◌∙◌, subst}
use Rattle.std.specs.Prelude.{Ok, Err, ⊤}
use Prim.Native.Nat.{ℕ, zero, suc, ◌+◌, ◌-◌, ◌*◌, ◌≤◌, ◌<◌}
use mathlib.Core.Bool.{Bool, true, false, not, ◌&&◌}
use mathlib.Core.Option.{Option, none, some}
use mathlib.Core.List.{List, [], ◌∷◌}
use native.Mathlib.Omega.{arith}
use lib.ListN.{length, get_or}
use lib.Dec.{leb, eqb}
use Rattle.model.specs.Answer.{Answer, bad, ok, ◌>>=◌, guard, pick, or_else, at, row, first_row}
use Rattle.model.specs.Tables.{Method, Module, part_of, method_at, parent_of}
use Rattle.model.specs.Loading.{Loading, Refusal, refusal, nothing, records, differs, agreed, load}
use Rattle.loaded.specs.declared.Fault.{Fault}
use Rattle.loaded.specs.declared.Counts.{Counts}
use Rattle.loaded.specs.declared.Loaded.{Loaded}
use Rattle.loaded.specs.Holds.{Holds}
use Rattle.loader.specs.declared.notes.Notes.{Notes}
use Rattle.loader.specs.Kinds.{last_byte}
use Rattle.loader.specs.Refusals.{fault_of}
use Rattle.loader.specs.Answers.{Answers}
use Rattle.loader.specs.Stands.{field_column, field_at, method_column, root_at, method_cell, part_cell, MethodCells, Sound, Stands, counts_of, Earlier}
use Rattle.loader.proofs.Methods.{argument_column, local_column}
use Rattle.loader.proofs.Climb.{fine, low_overrides}
use Rattle.loader.proofs.Reading.{refused_at, refuses}

-- ---- An answer

-- a fault tells a refusal from a module
module _ {V : Type 0} (m : Answer Refusal Module) (P : Type 0) (Q : V → Module → Type 0) where
  pub answers_refused : (a : Fault) → Answers m (Err a) P Q → {W : Type 0} (X : Type 0) (Y : W → Module → Type 0) → X → Answers {A = W} m (Err a) X Y
  unfolding Answers
  answers_refused a h X Y x = go m h
    where
      go : (m : Answer Refusal Module) → Answers m (Err a) P Q → Answers m (Err a) X Y
      go (bad f) h = (h.0, h.1, x)
      go (ok M) h = absurd h

  pub answers_loaded : (v : V) → Answers m (Ok v) P Q → {W : Type 0} (X : Type 0) (Y : W → Module → Type 0) (w : W) → ((M : Module) → Q v M → Y w M) → Answers m (Ok w) X Y
  unfolding Answers
  answers_loaded v h X Y w f = go m h
    where
      go : (m : Answer Refusal Module) → Answers m (Ok v) P Q → Answers m (Ok w) X Y
      go (bad g) h = absurd h
      go (ok M) h = f M h

-- ---- The module

cell : (l : List ℕ) (k : ℕ) → or_else (at l k) 0 ≡ get_or l k 0
unfolding or_else at
cell [] zero = refl
cell [] (suc k) = refl
cell (x ∷ l) zero = refl
cell (x ∷ l) (suc k) = cell l k

place_at : (l : List ℕ) (r : ℕ) → 0 < r → or_else (row l r) 0 ≡ get_or l (r - 1) 0
unfolding row
place_at l zero h = absurd (omega arith)
place_at l (suc r) h = cell l r ∙ ap (λ (i : ℕ). get_or l i 0) same
  where
    same : r ≡ suc r - 1
    same = omega arith

-- what stands at the end is what a loaded module holds
holds : (code : List ℕ) (L : Loading) (N : Loaded) (S : Notes) → Stands code L N S → Holds (record { parents = L.parents; fields = L.fields; methods = L.methods; entry = L.entry }) code N
unfolding counts_of parent_of field_at field_column method_cell method_column root_at part_cell pick
holds code L N S Z = record {
  class_count = ap (λ (n : Counts). n.classes) Z.counted;
  field_count = ap (λ (n : Counts). n.fields) Z.counted;
  static_count = ap (λ (n : Counts). n.statics) Z.counted;
  method_count = ap (λ (n : Counts). n.methods) Z.counted;
  entry_row = ap (λ (n : Counts). n.entry) Z.counted;
  lengths = record {
    parents = Z.classes.parent.long;
    initialisers = Z.methods.initialiser.long;
    fields = Z.fields.cell.long;
    methods = Z.methods.cell.long;
    parts = Z.methods.part.long;
  };
  by_class = record { parent = Z.classes.parent.each; initialiser = Z.methods.initialiser.each };
  by_field = record {
    owner = λ r. Z.fields.cell.each r 0 (omega arith);
    static = λ r. Z.fields.cell.each r 1 (omega arith);
    type = λ r. Z.fields.cell.each r 2 (omega arith);
    slot_at = λ r. Z.fields.cell.each r 3 (omega arith);
  };
  by_method = record {
    argument_type = λ r i h. Z.methods.cell.each r i (omega arith) ∙ argument_column (root_at L.methods r) (method_at L.methods r) i h;
    local_type_lem = λ r i h. Z.methods.cell.each r (8 + i) (omega arith) ∙ local_column (root_at L.methods r) (method_at L.methods r) i h;
    sort = λ r. Z.methods.cell.each r 24 (omega arith);
    owner = λ r. Z.methods.cell.each r 25 (omega arith);
    returns = λ r. Z.methods.cell.each r 26 (omega arith);
    stack = λ r. Z.methods.cell.each r 27 (omega arith);
    argument_count = λ r. Z.methods.cell.each r 28 (omega arith);
    local_count_lem = λ r. Z.methods.cell.each r 29 (omega arith);
    root_at_lem = λ r. Z.methods.cell.each r 30 (omega arith);
    overridden = λ r. Z.methods.cell.each r 31 (omega arith);
    offset = offset;
    size = size;
    part = λ r. Z.methods.sound.part r ∙ sym (ap (λ (i : ℕ). part_of code i (get_or N.parts (r * 2 + 1) 0)) (offset r) ∙ ap (part_of code (method_at L.methods r).offset) (size r));
  };
}
  where
    offset : (r : ℕ) → get_or N.parts (r * 2) 0 ≡ (method_at L.methods r).offset
    offset r = let q : r * 2 ≡ r * 2 + 0 = omega arith in ap (λ (i : ℕ). get_or N.parts i 0) q ∙ Z.methods.part.each r 0 (omega arith)

    size : (r : ℕ) → get_or N.parts (r * 2 + 1) 0 ≡ length (method_at L.methods r).code
    size r = Z.methods.part.each r 1 (omega arith)

-- ---- After the records

closed_by : (b : Bool) → true ≡ not b → b ≡ false
closed_by true e = e
closed_by false e = refl

open_by : (b : Bool) → false ≡ not b → b ≡ true
open_by true e = refl
open_by false e = e

module _ (tables code : List ℕ) where
  after : Loading → Answer Refusal Module
  after L =
      guard (eqb L.last 6) (refused_at (length tables) 3) >>= λ _.
      agreed L (first_row (differs L.methods) 1 L.methods) >>= λ _.
      ok (record { parents = L.parents; fields = L.fields; methods = L.methods; entry = L.entry })

  -- 1: too long
  pub ends_long : true ≡ not (leb (length tables) 8192 && leb (length code) 32768) → (a : Fault) → a ≡ fault_of (refused_at 0 1) → {V : Type 0} (loaded : V → Module → Type 0) → Answers (load tables code) (Err a) ⊤ loaded
  unfolding load guard ◌>>=◌ after refusal
  ends_long e a ea loaded = refuses (load tables code) 0 1 (ap (λ (b : Bool). guard b (refused_at 0 1) >>= λ _. records (length tables) tables code 0 nothing >>= after) (closed_by _ e)) (omega arith) a ea loaded

  module _ (short : false ≡ not (leb (length tables) 8192 && leb (length code) 32768)) where
    opened : load tables code ≡ (records (length tables) tables code 0 nothing >>= after)
    unfolding load guard ◌>>=◌ after refusal
    opened = ap (λ (b : Bool). guard b (refused_at 0 1) >>= λ _. records (length tables) tables code 0 nothing >>= after) (open_by _ short)

    -- 2 to 6: at the record
    pub ends_record : (a : Fault) (P : Loading → Type 0) → Answers {A = ⊤} (records (length tables) tables code 0 nothing) (Err a) ⊤ (λ u L. P L)
        → {V : Type 0} (loaded : V → Module → Type 0) → Answers (load tables code) (Err a) ⊤ loaded
    unfolding ◌>>=◌ Answers
    ends_record a P R loaded = go (records (length tables) tables code 0 nothing) refl R
      where
        go : (m : Answer Refusal Loading) → records (length tables) tables code 0 nothing ≡ m → Answers {A = ⊤} m (Err a) ⊤ (λ u L. P L) → Answers (load tables code) (Err a) ⊤ loaded
        go (bad f) e h =
            refuses (load tables code) f.place f.number (opened ∙ ap (λ (x : Answer Refusal Loading). x >>= after) e) h.1 a h.0 loaded
        go (ok L) e h = absurd h

    module _ (N : Loaded) (S : Notes) (v : ⊤) (R : Answers (records (length tables) tables code 0 nothing) (Ok v) ⊤ (λ u L. Stands code L N S)) where
      -- what is known where every record is taken
      pub taken : (L : Loading) × (records (length tables) tables code 0 nothing ≡ ok L) × Stands code L N S
      unfolding Answers
      taken = go (records (length tables) tables code 0 nothing) refl R
        where
          go : (m : Answer Refusal Loading) → records (length tables) tables code 0 nothing ≡ m → Answers m (Ok v) ⊤ (λ u L. Stands code L N S) → (L : Loading) × (records (length tables) tables code 0 nothing ≡ ok L) × Stands code L N S
          go (bad f) e h = absurd h
          go (ok L) e h = (L, e, h)

      pub few_methods : N.counts.methods ≤ 128
      few_methods = (fine taken.2).methods

      pub low_methods : Earlier N.methods
      low_methods = let w = taken in low_overrides w.2.methods.sound w.2.methods.few w.2.methods.cell

      -- 3: no entry
      pub ends_open : eqb (last_byte S.last) 6 ≡ false → (a : Fault) → a ≡ fault_of (refused_at (length tables) 3) → {V : Type 0} (loaded : V → Module → Type 0) → Answers (load tables code) (Err a) ⊤ loaded
      unfolding ◌>>=◌ after guard
      ends_open n a ea loaded =
          let w = taken in
          refuses (load tables code) (length tables) 3
          (opened
          ∙ ap (λ (x : Answer Refusal Loading). x >>= after) w.1
          ∙ ap (λ (b : Bool). guard b (refused_at (length tables) 3) >>= λ _. agreed w.0 (first_row (differs w.0.methods) 1 w.0.methods) >>= λ _. ok (record { parents = w.0.parents; fields = w.0.fields; methods = w.0.methods; entry = w.0.entry }))
          (ap (λ (i : ℕ). eqb i 6) (sym w.2.last) ∙ n)) (omega arith) a ea loaded

      module _ (six : eqb (last_byte S.last) 6 ≡ true) (o : Option ℕ)
          (first : (buffer : List ℕ) (ms : List Method) → N.counts.methods ≡ length ms → Sound buffer ms → MethodCells ms N.methods → first_row (differs ms) 1 ms ≡ o) where
        closed : load tables code ≡ (agreed taken.0 o >>= λ _. ok (record { parents = taken.0.parents; fields = taken.0.fields; methods = taken.0.methods; entry = taken.0.entry }))
        unfolding ◌>>=◌ after guard counts_of
        closed =
            let w = taken in
            opened
            ∙ ap (λ (x : Answer Refusal Loading). x >>= after) w.1
            ∙ ap (λ (b : Bool). guard b (refused_at (length tables) 3) >>= λ _. agreed w.0 (first_row (differs w.0.methods) 1 w.0.methods) >>= λ _. ok (record { parents = w.0.parents; fields = w.0.fields; methods = w.0.methods; entry = w.0.entry }))
            (ap (λ (i : ℕ). eqb i 6) (sym w.2.last) ∙ six)
            ∙ ap (λ (o : Option ℕ). agreed w.0 o >>= λ _. ok (record { parents = w.0.parents; fields = w.0.fields; methods = w.0.methods; entry = w.0.entry }))
            (first code w.0.methods (ap (λ (n : Counts). n.methods) w.2.counted) w.2.methods.sound w.2.methods.cell)

      -- 7: at the lowest method that differs from what it overrides
      pub ends_differing : eqb (last_byte S.last) 6 ≡ true → (k : ℕ) → 1 ≤ k
          → ((buffer : List ℕ) (ms : List Method) → N.counts.methods ≡ length ms → Sound buffer ms → MethodCells ms N.methods → first_row (differs ms) 1 ms ≡ some k)
          → (a : Fault) → a ≡ fault_of (refused_at (get_or S.places k 0) 7) → {V : Type 0} (loaded : V → Module → Type 0) → Answers (load tables code) (Err a) ⊤ loaded
      unfolding ◌>>=◌ agreed refusal
      ends_differing six k lo first a ea loaded =
          let w = taken in
          refuses (load tables code) (get_or S.places k 0) 7 (closed six (some k) first ∙ ap (λ (i : ℕ). bad (refused_at i 7)) (sym (w.2.place.each k ∙ place_at w.0.places k lo))) (omega arith) a ea loaded

      -- loaded
      pub ends_loaded : eqb (last_byte S.last) 6 ≡ true
          → ((buffer : List ℕ) (ms : List Method) → N.counts.methods ≡ length ms → Sound buffer ms → MethodCells ms N.methods → first_row (differs ms) 1 ms ≡ none)
          → {V : Type 0} (v : V) → Answers (load tables code) (Ok v) ⊤ (λ u M. Holds M code N)
      unfolding ◌>>=◌ agreed Answers
      ends_loaded six first v =
          let w = taken in
          subst (λ (x : Answer Refusal Module). Answers x (Ok v) ⊤ (λ u M. Holds M code N)) (sym (closed six none first)) (holds code w.0 N S w.2)
