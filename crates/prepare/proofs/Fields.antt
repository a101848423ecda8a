-- The fields in their cells, a row at a time, and with those inherited.
use Prim.Native.Nat.{ℕ, zero, suc, ◌+◌, ◌-◌, ◌*◌, ◌%◌, ◌≤◌, ◌<◌}
use mathlib.Core.Path.{◌≡◌, refl, sym, ap, ◌∙◌}
use mathlib.Core.Bool.{Bool, true, false, ◌&&◌}
use mathlib.Core.Option.{some}
use mathlib.Core.List.{List, [], ◌∷◌, ◌++◌}
use native.Mathlib.Omega.{arith}
use native.Mathlib.Decide.{ℕ_discrete}
use native.Mathlib.Nat.{mod-eq_of_lt}
use lib.ListN.{length, get_or, set, replicate, take, length-map}
use lib.Seq.{take-length}
use lib.Dec.{eqb, ltb, eqb-zero-suc, eqb-suc-zero, eqb-suc-suc}
use borrow.Author.Tests.{le-ltb, ltb-true, ltb-false, eq-eqb, ne_eqb}
use Rattle.model.specs.Answer.{pick, at, row, those}
use Rattle.model.specs.Operators.{flag}
use Rattle.model.specs.Tables.{Ty, byte_of, Field, parent_of, is_own, layout, layout_up, field_types, is_static_field, slot}
use Rattle.loaded.specs.Holds.{byte_at}
use Rattle.prepare.specs.Rows.{or_other, Inherited}
use Rattle.prepare.specs.Told.{FieldTold, FieldsTold, inherits, laid, LaidTo}
use Rattle.prepare.proofs.Lists.{There, there, at_past, at_left, at_right, those_one, those_none, those_less, those_nothing, map_joined}
use Rattle.prepare.proofs.Up.{layout_once}
use Rattle.prepare.proofs.Turns.{stored_one, stored, zeros, rows_are}

-- ---- Types that lie from a cell on

laid_none : (base i : ℕ) → laid base [] i ≡ 0
unfolding laid at byte_at pick
laid_none base i = go (ltb i base)
  where
    go : (b : Bool) → ◌≡◌ {A = ℕ} (pick b 0 0) 0
    go true = refl
    go false = refl

last_at : (ts : List Ty) (t : Ty) (j : ℕ) → byte_at (at (ts ++ (t ∷ [])) j) ≡ pick (eqb (length ts) j) (byte_of t) (byte_at (at ts j))
unfolding at byte_at pick
last_at [] t zero = refl
last_at [] t (suc j) = rw (eqb-zero-suc j)
last_at (x ∷ ts) t zero = rw (eqb-suc-zero (length ts))
last_at (x ∷ ts) t (suc j) = rw (eqb-suc-suc (length ts) j) (last_at ts t j)

laid_more : (base : ℕ) (ts : List Ty) (t : Ty) (i : ℕ) → laid base (ts ++ (t ∷ [])) i ≡ pick (eqb (base + length ts) i) (byte_of t) (laid base ts i)
unfolding laid pick
laid_more base ts t i = go (ltb i base) refl
  where
    go : (b : Bool) → ltb i base ≡ b → pick b 0 (byte_at (at (ts ++ (t ∷ [])) (i - base))) ≡ pick (eqb (base + length ts) i) (byte_of t)
        (pick b 0 (byte_at (at ts (i - base))))
    go true e = let l : i < base = ltb-true i base e in rw (ne_eqb (base + length ts) i (λ z. omega arith))
    go false e =
        let l : base ≤ i = ltb-false i base e in
        last_at ts t (i - base) ∙ ap (λ b. pick b (byte_of t) (byte_at (at ts (i - base)))) (same (ℕ_discrete (length ts) (i - base)) l)
      where
        same : Dec (length ts ≡ i - base) → base ≤ i → eqb (length ts) (i - base) ≡ eqb (base + length ts) i
        same (yes z) l = eq-eqb _ _ z ∙ sym (eq-eqb (base + length ts) i (omega arith))
        same (no n) l = ne_eqb _ _ n ∙ sym (ne_eqb (base + length ts) i (λ z. n (omega arith)))

-- what lies after other types, where those have no cell
laid_over : (xs ys : List Ty) (i : ℕ) → byte_at (at (xs ++ ys) i) ≡ or_other (laid (length xs) ys i) (byte_at (at xs i))
unfolding laid or_other pick byte_at
laid_over xs ys i = go (ltb i (length xs)) refl
  where
    last : (n : ℕ) → n ≡ pick (eqb n 0) 0 n
    last zero = refl
    last (suc n) = rw (eqb-suc-zero n)

    go : (b : Bool) → ltb i (length xs) ≡ b → byte_at (at (xs ++ ys) i) ≡ or_other (pick b 0 (byte_at (at ys (i - length xs)))) (byte_at (at xs i))
    go true e = ap byte_at (at_left xs ys i (ltb-true i (length xs) e))
    go false e =
        let l : length xs ≤ i = ltb-false i (length xs) e in
        rw (at_right xs ys i l, at_past xs i l) (last (byte_at (at ys (i - length xs))))

types_joined : (l k : List Field) → field_types (l ++ k) ≡ field_types l ++ field_types k
unfolding field_types
types_joined l k = map_joined (λ f. f.type) l k

pub types_long : (l : List Field) → length (field_types l) ≡ length l
unfolding field_types
types_long l = length-map l (λ f. f.type)

-- ---- A row at a time

pub laid_first : (ps : List ℕ) (fs : List Field) (cells statics : List ℕ) → cells ≡ replicate 264 0 → statics ≡ replicate 64 0 → LaidTo ps fs 0 cells statics
unfolding those field_types
laid_first ps fs cells statics B S = record {
  cell = λ c i _ _. zeros 264 cells B (c * 8 + i) ∙ sym (laid_none (inherits ps fs c) i);
  static = λ i _. zeros 64 statics S i ∙ sym (laid_none 0 i);
}

-- a test on the field of the row: it lies next, or nothing changes
module _ (p : Field → Bool) (fs : List Field) (n : ℕ) (t : There fs n) (base i : ℕ) where
  lies_next : p t.one ≡ true → laid base (field_types (those p (take (suc n) fs))) i ≡ pick (eqb (base + length (those p (take n fs))) i)
      (byte_of t.one.type) (laid base (field_types (those p (take n fs))) i)
  unfolding field_types
  lies_next e =
      rw (those_one p fs n t e, types_joined)
      (laid_more base (field_types (those p (take n fs))) t.one.type i
      ∙ ap (λ k. pick (eqb (base + k) i) (byte_of t.one.type) (laid base (field_types (those p (take n fs))) i)) (types_long (those p (take n fs))))

  lies_as_before : p t.one ≡ false → laid base (field_types (those p (take (suc n) fs))) i ≡ laid base (field_types (those p (take n fs))) i
  lies_as_before e = rw (those_none p fs n t e)

flag_off : (b : Bool) → flag b ≡ 0 → b ≡ false
unfolding flag
flag_off true e = absurd (omega arith)
flag_off false e = refl

flag_on : (b : Bool) → (flag b ≡ 0 → ⊥) → b ≡ true
unfolding flag
flag_on true n = refl
flag_on false n = absurd (n refl)

module _ (ps : List ℕ) (fs : List Field) (fields : List ℕ) (T : FieldsTold ps fs fields)
    (n : ℕ) (h : n < length fs) (cells statics : List ℕ) (K : LaidTo ps fs n cells statics) where
  told : FieldTold ps fs fields (suc n) (there fs n h).one
  unfolding row
  told = T.told (suc n) (there fs n h).one (there fs n h).at_is

  module _ (o : ℕ) (owner : (there fs n h).one.owner ≡ o) where
    module _ (e : (there fs n h).one.is_static ≡ false) where
      is_own_lem : is_own o (there fs n h).one ≡ true
      unfolding is_own
      is_own_lem = rw (e, eq-eqb _ _ owner)

      own_slot : get_or fields (suc n * 4 + 3) 0 ≡ inherits ps fs o + length (those (is_own o) (take n fs))
      unfolding slot pick inherits
      own_slot = let one : suc n - 1 ≡ n = omega arith in told.slot_at ∙ rw (e, owner, one)

      slot_small : inherits ps fs o + length (those (is_own o) (take n fs)) < 8
      slot_small =
          let pos : 0 < o = rw owner at told.owned.0 in
          omega (arith, T.cells_few o pos, those_less (is_own o) fs n (there fs n h) is_own_lem)

  not_own : (c : ℕ) → ((there fs n h).one.owner ≡ c → ⊥) → is_own c (there fs n h).one ≡ false
  unfolding is_own
  not_own c w = rw (ne_eqb _ _ w)

  never_own : (c : ℕ) → (there fs n h).one.is_static ≡ true → is_own c (there fs n h).one ≡ false
  unfolding is_own
  never_own c e = rw e (both (eqb (there fs n h).one.owner c))
    where
      both : (b : Bool) → b && false ≡ false
      both true = refl
      both false = refl

  static_test : (b : Bool) → (there fs n h).one.is_static ≡ b → is_static_field (there fs n h).one ≡ b
  unfolding is_static_field
  static_test b e = e

  static_slot : (there fs n h).one.is_static ≡ true → get_or fields (suc n * 4 + 3) 0 ≡ length (those is_static_field (take n fs))
  unfolding slot pick
  static_slot e = let one : suc n - 1 ≡ n = omega arith in told.slot_at ∙ rw (e, one)

  cell_turn : get_or fields (suc n * 4 + 1) 0 ≡ 0 → length cells ≡ 264
      → LaidTo ps fs (suc n) (set cells (get_or fields (suc n * 4 + 0) 0 % 33 * 8 + get_or fields (suc n * 4 + 3) 0 % 64 % 8)
      (get_or fields (suc n * 4 + 2) 0)) statics
  unfolding pick
  cell_turn z long = record {
    cell = λ c i hc hi. cell c i hc hi (ℕ_discrete (there fs n h).one.owner c);
    static = λ i hi. K.static i hi ∙ sym (lies_as_before is_static_field fs n (there fs n h) 0 i (static_test false off));
  }
    where
      off : (there fs n h).one.is_static ≡ false
      off = flag_off _ (sym told.flagged ∙ z)

      cell : (c i : ℕ) → c < 33 → i < 8 → Dec ((there fs n h).one.owner ≡ c)
          → get_or (set cells (get_or fields (suc n * 4 + 0) 0 % 33 * 8 + get_or fields (suc n * 4 + 3) 0 % 64 % 8) (get_or fields (suc n * 4 + 2) 0))
          (c * 8 + i) 0 ≡ laid (inherits ps fs c) (field_types (those (is_own c) (take (suc n) fs))) i
      cell c i hc hi (yes w) =
          let small : inherits ps fs c + length (those (is_own c) (take n fs)) < 8 = slot_small c w off in
          let owner : get_or fields (suc n * 4 + 0) 0 % 33 ≡ c = ap (λ k. k % 33) (told.owner ∙ w) ∙ mod-eq_of_lt hc in
          let place : get_or fields (suc n * 4 + 3) 0 % 64 % 8 ≡ inherits ps fs c + length (those (is_own c) (take n fs)) = ap (λ k. k % 64 % 8)
          (own_slot c w off) ∙ omega arith in
          rw (owner, place, told.type, lies_next (is_own c) fs n (there fs n h) (inherits ps fs c) i (is_own_lem c w off), ← K.cell c i hc hi)
          (stored 8 cells c (inherits ps fs c + length (those (is_own c) (take n fs))) (byte_of (there fs n h).one.type) c i (omega arith) small hi ∙ rw
          (eq-eqb c c refl))
      cell c i hc hi (no w) =
          let low : (there fs n h).one.owner < 33 = told.owned.1 in
          let owner : get_or fields (suc n * 4 + 0) 0 % 33 ≡ (there fs n h).one.owner = ap (λ k. k % 33) told.owner ∙ mod-eq_of_lt low in
          rw (owner, lies_as_before (is_own c) fs n (there fs n h) (inherits ps fs c) i (not_own c w), ← K.cell c i hc hi)
          (stored 8 cells (there fs n h).one.owner (get_or fields (suc n * 4 + 3) 0 % 64 % 8) (get_or fields (suc n * 4 + 2) 0) c i (omega arith)
          (omega arith) hi ∙ rw (ne_eqb _ _ w))

  static_turn : (get_or fields (suc n * 4 + 1) 0 ≡ 0 → ⊥) → length statics ≡ 64
      → LaidTo ps fs (suc n) cells (set statics (get_or fields (suc n * 4 + 3) 0 % 64) (get_or fields (suc n * 4 + 2) 0))
  static_turn z long = record {
    cell = λ c i hc hi. K.cell c i hc hi ∙ sym (lies_as_before (is_own c) fs n (there fs n h) (inherits ps fs c) i (never_own c on));
    static = λ i hi.
        let small : length (those is_static_field (take n fs)) < 64 = omega
        (arith, T.statics_few, those_less is_static_field fs n (there fs n h) (static_test true on)) in
        let place : get_or fields (suc n * 4 + 3) 0 % 64 ≡ length (those is_static_field (take n fs)) = ap (λ k. k % 64) (static_slot on) ∙ mod-eq_of_lt small in
        let none : 0 + length (those is_static_field (take n fs)) ≡ length (those is_static_field (take n fs)) = omega arith in
        rw (place, told.type, lies_next is_static_field fs n (there fs n h) 0 i (static_test true on), none, ← K.static i hi)
        (stored_one statics (length (those is_static_field (take n fs))) (byte_of (there fs n h).one.type) i (omega arith));
  }
    where
      on : (there fs n h).one.is_static ≡ true
      on = flag_on _ (λ e. z (told.flagged ∙ e))

  -- the row, as a loop over the rows counts it
  module _ {row next : ℕ} (e : row ≡ suc n) (f : next ≡ suc n) where
    pub lay_cell : get_or fields (row * 4 + 1) 0 ≡ 0 → length cells ≡ 264
        → LaidTo ps fs next (set cells (get_or fields (row * 4 + 0) 0 % 33 * 8 + get_or fields (row * 4 + 3) 0 % 64 % 8)
        (get_or fields (row * 4 + 2) 0)) statics
    lay_cell z long = rw (f, e) (cell_turn (rw e at z) long)

    pub lay_static : (get_or fields (row * 4 + 1) 0 ≡ 0 → ⊥) → length statics ≡ 64
        → LaidTo ps fs next cells (set statics (get_or fields (row * 4 + 3) 0 % 64) (get_or fields (row * 4 + 2) 0))
    lay_static z long = rw (f, e) (static_turn (rw e at z) long)

-- ---- With those inherited

laid_all : (ts : List Ty) (i : ℕ) → laid 0 ts i ≡ byte_at (at ts i)
unfolding laid pick
laid_all ts i = let z : i - 0 ≡ i = omega arith in rw (le-ltb i 0 (omega arith), z)

module _ (ps : List ℕ) (fs : List Field) (parents before statics after : List ℕ) (past : (c : ℕ) → length ps < c → get_or parents c 0 ≡ 0)
    (parent : (c : ℕ) → get_or parents c 0 ≡ parent_of ps c) (falling : (c : ℕ) → 0 < c → parent_of ps c < c)
    (owned : (n : ℕ) (f : Field) → at fs n ≡ some f → 0 < f.owner)
    (K : LaidTo ps fs (length fs) before statics) (I : Inherited parents 8 8 (length ps + 1) before after) where
  none_own : those (is_own 0) fs ≡ []
  unfolding is_own
  none_own = those_nothing _ fs (λ n f e. rw (ne_eqb f.owner 0 (λ z. let l : 0 < f.owner = owned n f e in omega arith)))

  no_class : (i : ℕ) → byte_at (at (field_types (layout ps fs 0)) i) ≡ 0
  unfolding field_types layout layout_up at byte_at
  no_class i = refl

  cells_first : (i : ℕ) → i < 8 → get_or before i 0 ≡ 0
  unfolding field_types
  cells_first i h = let z : 0 * 8 + i ≡ i = omega arith in rw z at (K.cell 0 i (omega arith) h) ∙ rw (take-length fs, none_own)
      (laid_none (inherits ps fs 0) i)

  inherits_are : (c : ℕ) → length (field_types (layout ps fs (parent_of ps c))) ≡ inherits ps fs c
  unfolding inherits
  inherits_are c = types_long (layout ps fs (parent_of ps c))

  cells_up : (i : ℕ) → i < 8 → (c : ℕ) → 0 < c → c < 33
      → byte_at (at (field_types (layout ps fs c)) i) ≡ or_other (get_or before (c * 8 + i) 0) (byte_at (at (field_types (layout ps fs (get_or parents c 0))) i))
  cells_up i h c low high =
      rw (layout_once ps fs falling c low, types_joined, parent c, K.cell c i high h, take-length fs, ← inherits_are c)
      (laid_over (field_types (layout ps fs (parent_of ps c))) (field_types (those (is_own c) fs)) i)

  pub cells_are : (c i : ℕ) → c < 33 → i < 8 → get_or after (c * 8 + i) 0 ≡ byte_at (at (field_types (layout ps fs c)) i)
  cells_are c i hc hi =
      rows_are parents (length ps) 8 8 before after I (λ k l. rw (parent k) (falling k l)) past (λ k. byte_at (at (field_types (layout ps fs k)) i)) i hi
      (cells_first i hi) (no_class i) (cells_up i hi) c hc

  pub statics_are : (i : ℕ) → i < 64 → get_or statics i 0 ≡ byte_at (at (field_types (those is_static_field fs)) i)
  statics_are i h = K.static i h ∙ rw (take-length fs) (laid_all (field_types (those is_static_field fs)) i)
