-- Fields: a later field of no smaller owner moves no earlier slot, and a field's record keeps what stands.
use mathlib.Core.Path.{◌≡◌, refl, sym, ap, ◌∙◌, subst}
use Prim.Native.Nat.{ℕ, zero, suc, ◌+◌, ◌-◌, ◌*◌, ◌≤◌, ◌<◌}
use mathlib.Core.Bool.{Bool, true, false, not, ◌&&◌}
use mathlib.Core.Option.{Option, none, some}
use mathlib.Core.List.{List, [], ◌∷◌, ◌++◌}
use native.Mathlib.Omega.{arith}
use native.Mathlib.Numerals.{add-one}
use native.Mathlib.Decide.{ℕ_discrete}
use lib.ListN.{length, get_or, set, take, length-append, length-set}
use lib.Seq.{get_or-set_same, get_or-set_other, take-append-le, take-append_seam}
use lib.Dec.{leb, ltb, eqb}
use borrow.Author.Tests.{leb-true, ltb-true, eqb-true, eqb-false, eq-eqb, ne_eqb}
use Rattle.model.specs.Answer.{pick, or_else, row, keep_if, those, last_of, is_none}
use Rattle.model.specs.Tables.{Ty, byte_of, parent_of, Field, is_own, layout_up, layout, is_static_field, slot, type_at}
use Rattle.model.specs.Loading.{Loading, follows, within, no_field, field_room, field_record}
use Rattle.model.specs.Operators.{flag as bit}
use Rattle.loaded.specs.Holds.{from_row}
use Rattle.std.specs.Prelude.{Some, Ok, Err}
use Rattle.loaded.specs.declared.Counts.{Counts}
use Rattle.loaded.specs.declared.Loaded.{Loaded}
use Rattle.loader.specs.declared.notes.Notes.{Notes}
use Rattle.loader.specs.declared.refusal.Refusal.TheVariants.{Order, Range, TooMany}
use Rattle.loader.specs.declared.kind.Kind.TheVariants.{Field as FieldKind}
use Rattle.loader.specs.Kinds.{last_byte}
use Rattle.loader.specs.Goes.{Goes}
use Rattle.loader.specs.Allowed.{is_type, slot_room, field_allowed}
use Rattle.loader.specs.Stands.{Grid, stored, field_column, field_at, field_cells, FieldRows, Stands, counts_of}
use Rattle.ancestor.specs.Parents.{Falls}
use Rattle.loader.proofs.Rows.{row_here, row_there, row_some, grown, those_snoc, last_row, last_snoc}
use Rattle.loader.proofs.Grid.{after, Below, grid_row}
use Rattle.loader.proofs.Open.{accept}
use Rattle.loader.proofs.Ladder.{goes_guard, goes_need, goes_ok, both_true, within_true, type_byte}

-- one more that may pass a test
pub length_those : {A : Type 0} (p : A → Bool) (l : List A) (x : A) → length (those p (l ++ (x ∷ []))) ≡ length (those p l) + bit (p x)
unfolding keep_if bit
length_those p l x = ap length (those_snoc p l x) ∙ length-append (those p l) (keep_if (p x) x []) ∙ ap (λ (n : ℕ). length (those p l) + n) (go (p x))
  where
    go : (b : Bool) → length (keep_if b x []) ≡ bit b
    go true = refl
    go false = refl

-- ---- A class's fields with those inherited

module _ (ps : List ℕ) (falls : Falls ps) (fs : List Field) where
  enough : (k j c : ℕ) → c ≤ k → c ≤ j → layout_up ps fs k c ≡ layout_up ps fs j c
  unfolding layout_up Falls
  enough zero zero c hk hj = refl
  enough zero (suc j) zero hk hj = refl
  enough zero (suc j) (suc c) hk hj = absurd (omega arith)
  enough (suc k) zero zero hk hj = refl
  enough (suc k) zero (suc c) hk hj = absurd (omega arith)
  enough (suc k) (suc j) zero hk hj = refl
  enough (suc k) (suc j) (suc c) hk hj =
      let l : parent_of ps (suc c) < suc c = falls (suc c) (omega arith) in
      ap (λ (m : List Field). m ++ those (is_own (suc c)) fs) (enough k j (parent_of ps (suc c)) (omega arith) (omega arith))

  -- a class has its parent's and its own
  pub layout_up_lem : (c : ℕ) → (c ≡ 0 → ⊥) → length (layout ps fs (parent_of ps c)) + length (those (is_own c) fs) ≡ length (layout ps fs c)
  unfolding layout layout_up Falls
  layout_up_lem zero nz = absurd (nz refl)
  layout_up_lem (suc c) nz =
      let l : parent_of ps (suc c) < suc c = falls (suc c) (omega arith) in
      ap (λ (m : List Field). length m + length (those (is_own (suc c)) fs)) (enough (parent_of ps (suc c)) c (parent_of ps (suc c)) (omega arith) (omega arith))
      ∙ sym (length-append (layout_up ps fs c (parent_of ps (suc c))) (those (is_own (suc c)) fs))

  not_own : (c : ℕ) (f : Field) → (f.owner ≡ c → ⊥) → is_own c f ≡ false
  unfolding is_own
  not_own c f n = ap (λ (b : Bool). b && not f.is_static) (ne_eqb f.owner c n)

  pub those_other : (c : ℕ) (f : Field) → (f.owner ≡ c → ⊥) → length (those (is_own c) (fs ++ (f ∷ []))) ≡ length (those (is_own c) fs)
  unfolding bit
  those_other c f n = length_those (is_own c) fs f ∙ ap (λ (b : Bool). length (those (is_own c) fs) + bit b) (not_own c f n) ∙ omega arith

  other_up : (f : Field) (n c : ℕ) → c < f.owner → length (layout_up ps (fs ++ (f ∷ [])) n c) ≡ length (layout_up ps fs n c)
  unfolding layout_up Falls
  other_up f zero c h = refl
  other_up f (suc n) zero h = refl
  other_up f (suc n) (suc c) h =
      let l : parent_of ps (suc c) < suc c = falls (suc c) (omega arith) in
      length-append (layout_up ps (fs ++ (f ∷ [])) n (parent_of ps (suc c))) (those (is_own (suc c)) (fs ++ (f ∷ [])))
      ∙ ap (λ (k : ℕ). k + length (those (is_own (suc c)) (fs ++ (f ∷ [])))) (other_up f n (parent_of ps (suc c)) (omega arith))
      ∙ ap (λ (k : ℕ). length (layout_up ps fs n (parent_of ps (suc c))) + k) (those_other (suc c) f (λ e. omega arith))
      ∙ sym (length-append (layout_up ps fs n (parent_of ps (suc c))) (those (is_own (suc c)) fs))

  -- a class above a field's owner does not have it
  layout_other : (f : Field) (c : ℕ) → c < f.owner → length (layout ps (fs ++ (f ∷ [])) c) ≡ length (layout ps fs c)
  unfolding layout
  layout_other f c h = other_up f c c h

  -- ---- Slots

  slot_old : (f d : Field) (r : ℕ) → r ≤ length fs + 1 → 1 ≤ d.owner → d.owner ≤ f.owner → slot ps (fs ++ (f ∷ [])) r d ≡ slot ps fs r d
  unfolding slot Falls
  slot_old f d r h lo hi =
      let l : parent_of ps d.owner < d.owner = falls d.owner (omega arith) in
      ap (λ (t : List Field). pick d.is_static (length (those is_static_field t)) (length (layout ps (fs ++ (f ∷ [])) (parent_of ps d.owner)) + length (those (is_own d.owner) t))) (take-append-le (r - 1) fs (f ∷ []) (omega arith))
      ∙ ap (λ (k : ℕ). pick d.is_static (length (those is_static_field (take (r - 1) fs))) (k + length (those (is_own d.owner) (take (r - 1) fs)))) (layout_other f (parent_of ps d.owner) (omega arith))

  slot_new : (f : Field) → 1 ≤ f.owner → slot ps (fs ++ (f ∷ [])) (length fs + 1) f ≡ pick f.is_static (length (those is_static_field fs)) (length (layout ps fs f.owner))
  unfolding slot Falls
  slot_new f lo =
      let l : parent_of ps f.owner < f.owner = falls f.owner (omega arith) in
      let z : length fs + 1 - 1 ≡ length fs = omega arith in
      let q : take (length fs + 1 - 1) (fs ++ (f ∷ [])) ≡ fs = ap (λ (k : ℕ). take k (fs ++ (f ∷ []))) z ∙ take-append_seam fs (f ∷ []) in
      ap (λ (t : List Field). pick f.is_static (length (those is_static_field t)) (length (layout ps (fs ++ (f ∷ [])) (parent_of ps f.owner)) + length (those (is_own f.owner) t))) q
      ∙ ap (λ (k : ℕ). pick f.is_static (length (those is_static_field fs)) (k + length (those (is_own f.owner) fs))) (layout_other f (parent_of ps f.owner) (omega arith))
      ∙ ap (pick f.is_static (length (those is_static_field fs))) (layout_up_lem f.owner (λ e. omega arith))

-- ---- A field's record

bit_of : (n : ℕ) → n ≤ 1 → n ≡ bit (eqb n 1)
unfolding bit
bit_of n h = go (eqb n 1) refl
  where
    go : (b : Bool) → eqb n 1 ≡ b → n ≡ bit b
    go true e = eqb-true n 1 e
    go false e = let q : n ≡ 1 → ⊥ = eqb-false n 1 e in omega arith

bit_not : (b : Bool) → 1 - bit b ≡ bit (not b)
unfolding bit
bit_not true = refl
bit_not false = refl

abbrev pub field_of : ℕ → ℕ → Ty → Field
field_of o flag u = record { owner = o; is_static = eqb flag 1; type = u }

module _ (ps : List ℕ) (fs : List Field) (own fields : List ℕ) (C : Falls ps) (R : FieldRows ps fs own fields) (o flag : ℕ) (u : Ty) (t s : ℕ)
    (lo : 1 ≤ o) (hi : o ≤ 32) (two : flag ≤ 1) (rises : (last_of no_field fs).owner ≤ o) (typed : byte_of u ≡ t) (room : length fs < 128)
    (slotted : s ≡ pick (eqb flag 1) (length (those is_static_field fs)) (length (layout ps fs o))) where
  abbrev f : Field
  f = field_of o flag u

  own_new : (c : ℕ) → get_or (set own o (get_or own o 0 + (1 - flag))) c 0 ≡ length (those (is_own c) (fs ++ (f ∷ [])))
  unfolding is_own
  own_new c = go (ℕ_discrete c o)
    where
      go : Dec (c ≡ o) → get_or (set own o (get_or own o 0 + (1 - flag))) c 0 ≡ length (those (is_own c) (fs ++ (f ∷ [])))
      go (yes e) =
          ap (λ (k : ℕ). get_or (set own o (get_or own o 0 + (1 - flag))) k 0) e
          ∙ get_or-set_same own o _ 0 (subst (λ (k : ℕ). o < k) (sym R.own_long) (omega arith))
          ∙ ap (λ (k : ℕ). k + (1 - flag)) (R.own_each o)
          ∙ ap (λ (k : ℕ). length (those (is_own o) fs) + (1 - k)) (bit_of flag two)
          ∙ ap (λ (k : ℕ). length (those (is_own o) fs) + k) (bit_not (eqb flag 1) ∙ ap (λ (b : Bool). bit (b && not (eqb flag 1))) (sym (eq-eqb o o refl)))
          ∙ sym (length_those (is_own o) fs f)
          ∙ ap (λ (k : ℕ). length (those (is_own k) (fs ++ (f ∷ [])))) (sym e)
      go (no n) = get_or-set_other own o c _ 0 n ∙ R.own_each c ∙ sym (those_other ps C fs c f (λ e. n (sym e)))

  -- the cells of another row
  others : (r k : ℕ) → k < 4 → (r ≡ length fs + 1 → ⊥) → field_at ps fs r k ≡ field_at ps (fs ++ (f ∷ [])) r k
  unfolding field_at from_row
  others r k h n = go (row fs r) refl ∙ ap (from_row (λ (d : Field). field_column (slot ps (fs ++ (f ∷ [])) r d) d k)) (sym (row_there fs f r (λ e. n (e ∙ sym (add-one (length fs))))))
    where
      go : (x : Option Field) → row fs r ≡ x → from_row (λ (d : Field). field_column (slot ps fs r d) d k) x ≡ from_row (λ (d : Field). field_column (slot ps (fs ++ (f ∷ [])) r d) d k) x
      go none q = refl
      go (some d) q =
          let b = row_some fs r d q in
          let w = R.rising r d q in
          ap (λ (i : ℕ). field_column i d k) (sym (slot_old ps C fs f d r (omega (arith, b.1)) w.0 (omega (arith, w.1))))

  -- the new row's
  here : (k : ℕ) → k < 4 → after (field_cells o flag t s) k (field_at ps fs (length fs + 1) k) ≡ field_at ps (fs ++ (f ∷ [])) (length fs + 1) k
  unfolding after field_at field_column from_row pick
  here k h =
      four k h
      ∙ ap (λ (i : ℕ). field_column i f k) (slotted ∙ sym (slot_new ps C fs f lo))
      ∙ ap (from_row (λ (d : Field). field_column (slot ps (fs ++ (f ∷ [])) (length fs + 1) d) d k)) (sym (ap (row (fs ++ (f ∷ []))) (add-one (length fs)) ∙ row_here fs f))
    where
      four : (k : ℕ) → k < 4 → after (field_cells o flag t s) k (field_at ps fs (length fs + 1) k) ≡ field_column s f k
      four zero h = refl
      four (suc zero) h = bit_of flag two
      four (suc (suc zero)) h = sym typed
      four (suc (suc (suc zero))) h = refl
      four (suc (suc (suc (suc k)))) h = absurd (omega arith)

  rising_new : (r : ℕ) (d : Field) → row (fs ++ (f ∷ [])) r ≡ some d → (1 ≤ d.owner) × (d.owner ≤ (last_of no_field (fs ++ (f ∷ []))).owner)
  rising_new r d q = go (ℕ_discrete r (suc (length fs)))
    where
      last : (last_of no_field (fs ++ (f ∷ []))).owner ≡ o
      last = ap (λ (x : Field). x.owner) (last_snoc no_field fs f)

      go : Dec (r ≡ suc (length fs)) → (1 ≤ d.owner) × (d.owner ≤ (last_of no_field (fs ++ (f ∷ []))).owner)
      go (yes e) =
          let here : row (fs ++ (f ∷ [])) r ≡ some f = ap (row (fs ++ (f ∷ []))) e ∙ row_here fs f in
          let same : f ≡ d = cc in
          let own : o ≡ d.owner = ap (λ (x : Field). x.owner) same in
          (omega arith, omega (arith, last))
      go (no n) =
          let w = R.rising r d (sym (row_there fs f r n) ∙ q) in
          (w.0, omega (arith, w.1, last))

  pub field_rows : FieldRows ps (fs ++ (field_of o flag u ∷ [])) (set own o (get_or own o 0 + (1 - flag))) (stored 4 (length fs + 1) fields (field_cells o flag t s))
  unfolding Below
  field_rows = record {
    own_long = length-set own o _ ∙ R.own_long;
    own_each = own_new;
    cell = grid_row R.cell (length fs + 1) (omega arith) (field_cells o flag t s) (omega arith, (omega arith, (omega arith, (omega arith, tt)))) (field_at ps (fs ++ (f ∷ []))) others here;
    rising = rising_new;
    few = let q = grown fs f in omega arith;
  }

-- room beside the slot that the field would have is room beside the counts
slot_room_lem : (n flag statics held s : ℕ) → s ≡ pick (eqb flag 1) statics held → slot_room n flag s ≡ (ltb n 128 && pick (eqb flag 1) (ltb statics 64) (ltb held 8))
unfolding slot_room pick
slot_room_lem n flag statics held s e = ap (λ (b : Bool). ltb n 128 && b) (go (eqb flag 1) e)
  where
    go : (b : Bool) → s ≡ pick b statics held → pick b (ltb s 64) (ltb s 8) ≡ pick b (ltb statics 64) (ltb held 8)
    go true e = ap (λ (k : ℕ). ltb k 64) e
    go false e = ap (λ (k : ℕ). ltb k 8) e

statics_new : (fs : List Field) (o flag : ℕ) (u : Ty) → flag ≤ 1 → length (those is_static_field fs) + flag ≡ length (those is_static_field (fs ++ (field_of o flag u ∷ [])))
unfolding is_static_field
statics_new fs o flag u two = ap (λ (k : ℕ). length (those is_static_field fs) + k) (bit_of flag two) ∙ sym (length_those is_static_field fs (field_of o flag u))

last_owner : (ps : List ℕ) (fs : List Field) {a : List ℕ} → Grid 4 516 (field_at ps fs) a → get_or a (length fs * 4 + 0) 0 ≡ (last_of no_field fs).owner
unfolding field_at field_column pick from_row no_field or_else
last_owner ps fs G = G.each (length fs) 0 (omega arith) ∙ go (row fs (length fs)) ∙ ap (λ (x : Field). x.owner) (last_row no_field fs)
  where
    go : (x : Option Field) → from_row (λ (d : Field). d.owner) x ≡ (or_else x no_field).owner
    go none = refl
    go (some d) = refl

-- the counts after a field
abbrev pub counted_field : Counts → ℕ → Counts
counted_field n flag = record { classes = n.classes; fields = n.fields + 1; statics = n.statics + flag; methods = n.methods; entry = n.entry }

-- the module after a field, whose rows are then f, and the notes
abbrev pub field_in : Loaded → Counts → List ℕ → ℕ → Loaded
field_in N n f flag =
    record { counts = counted_field n flag; parents = N.parents; initialisers = N.initialisers; fields = f; methods = N.methods; parts = N.parts }

abbrev pub field_noted : Notes → ℕ → ℕ → Notes
field_noted S o flag = record { last = Some FieldKind; own = set S.own o (get_or S.own o 0 + (1 - flag)); places = S.places }

abbrev pub FieldTo : List ℕ → Loading → Loaded → Notes → ℕ → ℕ → ℕ → ℕ → Counts → ℕ → Type 0
FieldTo code L N S o flag t s n last =
    Goes (field_record L o flag t) (field_allowed last (get_or N.fields (n.fields * 4 + 0) 0) n.classes n.fields o flag t s) (λ K.
    Stands code K (field_in N n (stored 4 (n.fields + 1) N.fields (field_cells o flag t s)) flag) (field_noted S o flag))

pub field_goes : (code : List ℕ) (L : Loading) (N : Loaded) (S : Notes) (o flag t s : ℕ) → Stands code L N S
    → s ≡ pick (eqb flag 1) (length (those is_static_field L.fields)) (length (layout L.parents L.fields o)) → FieldTo code L N S o flag t s N.counts (last_byte S.last)
unfolding field_record field_allowed counts_of is_type field_room
field_goes code L N S o flag t s Z sl =
    subst (λ (n : Counts). FieldTo code L N S o flag t s n (last_byte S.last)) (sym Z.counted)
    (subst (FieldTo code L N S o flag t s (counts_of L)) (sym Z.last)
    (subst (λ (b : ℕ). Goes (field_record L o flag t) (field_allowed L.last b (length L.parents) (length L.fields) o flag t s) P) (sym (last_owner L.parents L.fields Z.fields.cell))
    (subst (λ (b : Bool). Goes (field_record L o flag t) (pick (follows L.last 2 && leb (last_of no_field L.fields).owner o) (pick (within 1 (length L.parents) o) (pick (leb flag 1) (pick (not (is_none (type_at (length L.parents) t))) (pick b (Ok tt) (Err TooMany)) (Err Range)) (Err Range)) (Err Range)) (Err Order)) P)
    (sym (slot_room_lem (length L.fields) flag _ _ s sl))
    (goes_guard (follows L.last 2 && leb (last_of no_field L.fields).owner o) 3 _ _ P _ refl (omega arith) (omega arith) λ a.
    goes_guard (within 1 (length L.parents) o) 4 _ _ P _ refl (omega arith) (omega arith) λ b.
    goes_guard (leb flag 1) 4 _ _ P _ refl (omega arith) (omega arith) λ c.
    goes_need (type_at (length L.parents) t) 4 _ _ P _ refl (omega arith) (omega arith) λ u d.
    goes_guard _ 5 _ _ P _ refl (omega arith) (omega arith) λ r.
    goes_ok _ P (taken u a b c d r)))))
  where
    P : Loading → Type 0
    P K = Stands code K (field_in N (counts_of L) (stored 4 (length L.fields + 1) N.fields (field_cells o flag t s)) flag) (field_noted S o flag)

    taken : (u : Ty) → follows L.last 2 && leb (last_of no_field L.fields).owner o ≡ true → within 1 (length L.parents) o ≡ true → leb flag 1 ≡ true → type_at (length L.parents) t ≡ some u → ltb (length L.fields) 128 && pick (eqb flag 1) (ltb (length (those is_static_field L.fields)) 64) (ltb (length (layout L.parents L.fields o)) 8) ≡ true →
        P (record { last = 2; parents = L.parents; methods = L.methods; places = L.places; entry = L.entry; fields = L.fields ++ (field_of o flag u ∷ []) })
    taken u a b c d r =
        let two : flag ≤ 1 = leb-true flag 1 c in
        let bound = within_true 1 (length L.parents) o b in
        let many : length L.parents ≤ 32 = Z.classes.few in
        record {
          counted = cc (statics_new L.fields o flag u two, grown L.fields (field_of o flag u));
          last = refl;
          classes = Z.classes;
          fields = field_rows L.parents L.fields S.own N.fields Z.classes.falls Z.fields o flag u t s bound.0 (omega (arith, bound.1)) two
              (leb-true (last_of no_field L.fields).owner o (both_true (follows L.last 2) (leb (last_of no_field L.fields).owner o) a).1) (type_byte (length L.parents) t u d)
              (ltb-true (length L.fields) 128 (both_true (ltb (length L.fields) 128) (pick (eqb flag 1) (ltb (length (those is_static_field L.fields)) 64) (ltb (length (layout L.parents L.fields o)) 8)) r).0) sl;
          methods = Z.methods;
          place = Z.place;
          placed = Z.placed;
          fieldless = λ h. absurd (omega arith);
          begun = λ h k. absurd (omega arith);
        }

-- with the rows as the code has them
pub field_taken : (code : List ℕ) (L : Loading) (N : Loaded) (S : Notes) (o flag t s : ℕ) → Stands code L N S
    → s ≡ pick (eqb flag 1) (length (those is_static_field L.fields)) (length (layout L.parents L.fields o))
    → Ok tt ≡ field_allowed (last_byte S.last) (get_or N.fields (N.counts.fields * 4 + 0) 0) N.counts.classes N.counts.fields o flag t s
    → (f : List ℕ) → f ≡ stored 4 (N.counts.fields + 1) N.fields (field_cells o flag t s)
    → Goes (field_record L o flag t) (Ok tt) (λ K. Stands code K (field_in N N.counts f flag) (field_noted S o flag))
field_taken code L N S o flag t s Z sl q f e =
    subst (λ (f : List ℕ). Goes (field_record L o flag t) (Ok tt) (λ K. Stands code K (field_in N N.counts f flag) (field_noted S o flag))) (sym e)
    (accept _ _ _ q (field_goes code L N S o flag t s Z sl))
