-- Classes: parents fall, and a class's record keeps what stands.
use mathlib.Core.Path.{◌≡◌, refl, sym, ap, ◌∙◌, subst}
use Prim.Native.Nat.{ℕ, zero, suc, ◌+◌, ◌<◌}
use mathlib.Core.Option.{Option}
use mathlib.Core.List.{List, [], ◌∷◌, ◌++◌}
use native.Mathlib.Omega.{arith}
use native.Mathlib.Decide.{ℕ_discrete}
use lib.ListN.{length, get_or, set}
use lib.Dec.{leb, ltb}
use borrow.Author.Tests.{leb-true, ltb-true}
use Rattle.model.specs.Answer.{pick, or_else, at, row, those}
use Rattle.model.specs.Tables.{parent_of, Field, is_static_field}
use Rattle.model.specs.Loading.{Loading, follows, parent_fits, class_record}
use Rattle.loaded.specs.declared.Counts.{Counts}
use Rattle.loaded.specs.declared.Loaded.{Loaded}
use Rattle.loader.specs.declared.notes.Notes.{Notes}
use Rattle.std.specs.Prelude.{Some}
use Rattle.loader.specs.declared.kind.Kind.TheVariants.{Class}
use Rattle.loader.specs.Kinds.{last_byte}
use Rattle.loader.specs.Goes.{Goes}
use Rattle.loader.specs.Allowed.{class_allowed}
use Rattle.loaded.specs.Holds.{from_row}
use Rattle.loader.specs.Stands.{Column, field_at, FieldRows, Stands, counts_of}
use Rattle.ancestor.specs.Parents.{Falls}
use Rattle.loader.proofs.Rows.{row_here, row_there, column_snoc, grown}
use Rattle.loader.proofs.Grid.{grid_as}
use Rattle.loader.proofs.Ladder.{goes_guard, goes_ok, parent_less}

-- a parent row's cell is the parent
pub parent_at : {ps parents : List ℕ} → Column 33 ps parents → (c : ℕ) → get_or parents c 0 ≡ parent_of ps c
unfolding parent_of
parent_at C c = C.each c

-- ---- A class's record

pub falls_snoc : (ps : List ℕ) (p : ℕ) → Falls ps → p < length ps + 1 → Falls (ps ++ (p ∷ []))
unfolding Falls parent_of or_else
falls_snoc ps p f h c z = go (ℕ_discrete c (suc (length ps)))
  where
    go : Dec (c ≡ suc (length ps)) → or_else (row (ps ++ (p ∷ [])) c) 0 < c
    go (yes e) =
        let q : or_else (row (ps ++ (p ∷ [])) c) 0 ≡ p = ap (λ (k : ℕ). or_else (row (ps ++ (p ∷ [])) k) 0) e ∙ ap (λ (o : Option ℕ). or_else o 0) (row_here ps p) in
        omega arith
    go (no n) = subst (λ (o : Option ℕ). or_else o 0 < c) (sym (row_there ps p c n)) (f c z)

-- where there is no field, each cell is 0
pub no_field : (ps : List ℕ) (r k : ℕ) → field_at ps [] r k ≡ 0
unfolding field_at from_row row at
no_field ps zero k = refl
no_field ps (suc r) k = refl

no_fields : {ps : List ℕ} (qs : List ℕ) {fs : List Field} {own fields : List ℕ} → fs ≡ [] → FieldRows ps fs own fields → FieldRows qs fs own fields
no_fields {ps} qs {fs} e R = record {
  own_long = R.own_long;
  own_each = R.own_each;
  cell = grid_as (λ r k h. subst (λ (l : List Field). field_at ps l r k ≡ field_at qs l r k) (sym e) (none_there r k)) R.cell;
  rising = R.rising;
  few = R.few;
}
  where
    none_there : (r k : ℕ) → field_at ps [] r k ≡ field_at qs [] r k
    none_there r k = no_field ps r k ∙ sym (no_field qs r k)

-- the module after a class
abbrev pub class_in : Loaded → Counts → ℕ → Loaded
class_in N n p = record {
  counts = record { classes = n.classes + 1; fields = n.fields; statics = n.statics; methods = n.methods; entry = n.entry };
  parents = set N.parents (n.classes + 1) p;
  initialisers = N.initialisers;
  fields = N.fields;
  methods = N.methods;
  parts = N.parts;
}

abbrev pub ClassTo : List ℕ → Loading → Loaded → Notes → ℕ → Counts → ℕ → Type 0
ClassTo code L N S p n last =
    Goes (class_record L p) (class_allowed last n.classes p) (λ K. Stands code K (class_in N n p) (record { last = Some Class; own = S.own; places = S.places }))

pub class_goes : (code : List ℕ) (L : Loading) (N : Loaded) (S : Notes) (p : ℕ) → Stands code L N S → ClassTo code L N S p N.counts (last_byte S.last)
unfolding class_record class_allowed counts_of follows pick
class_goes code L N S p Z =
    subst (λ (n : Counts). ClassTo code L N S p n (last_byte S.last)) (sym Z.counted)
    (subst (ClassTo code L N S p (counts_of L)) (sym Z.last)
    (goes_guard (leb L.last 1) 3 _ _ _ _ refl (omega arith) (omega arith) λ a.
    goes_guard (parent_fits (length L.parents) p) 4 _ _ _ _ refl (omega arith) (omega arith) λ b.
    goes_guard (ltb (length L.parents) 32) 5 _ _ _ _ refl (omega arith) (omega arith) λ c.
    goes_ok _ _ (record {
      counted = ap (λ (n : ℕ). record { classes = n; fields = length L.fields; statics = length (those is_static_field L.fields); methods = length L.methods; entry = L.entry }) (sym (grown L.parents p));
      last = refl;
      classes = record {
        parent = column_snoc Z.classes.parent (let h : length L.parents < 32 = ltb-true _ _ c in omega arith) p;
        falls = falls_snoc L.parents p Z.classes.falls (parent_less _ p b);
        few = let h : length L.parents < 32 = ltb-true _ _ c in let q = grown L.parents p in omega arith;
      };
      fields = no_fields _ (Z.fieldless (leb-true _ _ a)) Z.fields;
      methods = Z.methods;
      place = Z.place;
      placed = Z.placed;
      fieldless = λ h. Z.fieldless (leb-true _ _ a);
      begun = λ h k. absurd (omega arith);
    })))
