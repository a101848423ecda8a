-- Fields with those inherited, one class up at a time; and small facts of the code's own steps.
use mathlib.Core.Path.{◌≡◌, refl, sym, ap, ◌∙◌, subst}
use Prim.Native.Nat.{ℕ, zero, suc, ◌+◌, ◌*◌, ◌≤◌, ◌<◌}
use mathlib.Core.Bool.{Bool, true, false, not}
use mathlib.Core.List.{List, [], ◌∷◌}
use native.Mathlib.Omega.{arith}
use lib.ListN.{length, get_or, drop, get_or-eq_default}
use lib.Seq.{get_or-drop, drop-drop}
use Rattle.std.specs.Int.{from_le_bytes}
use mir.Syntax.{w16, w32}
use Rattle.model.specs.Answer.{those, keep_if}
use Rattle.model.specs.Tables.{parent_of, Field, Method, is_own, layout_up, layout, is_static_field}
use Rattle.model.specs.Loading.{Loading, little}
use Rattle.loaded.specs.declared.Loaded.{Loaded}
use Rattle.loader.specs.declared.notes.Notes.{Notes}
use Rattle.loader.specs.declared.method.Body.{Body}
use Rattle.loader.specs.Body.{body_of}
use Rattle.loader.specs.Stands.{ClassRows, FieldRows, Sound, MethodCells, Stands, counts_of, Fine, Small, Earlier}
use Rattle.ancestor.specs.Parents.{Parents}
use Rattle.ancestor.proofs.Climb.{beyond}
use Rattle.loader.proofs.Classes.{parent_at}
use Rattle.loader.proofs.Fields.{layout_up_lem}
use Rattle.loader.proofs.Methods.{overrides_below}
use Rattle.loader.proofs.Rules.{override_at}

pub never : {X : Type 0} → false ≡ true → X
never e = let z : ◌≡◌ {A = ℕ} 0 1 = cc in absurd (omega arith)

pub not_not : (b : Bool) → not (not b) ≡ b
not_not true = refl
not_not false = refl

-- ---- Ancestors

pub parents_of : {ps parents : List ℕ} → ClassRows ps parents → Parents ps parents
parents_of C = record { parent = parent_at C.parent; falls = C.falls; few = C.few }

-- ---- Fields with those inherited

pub held_zero : (ps : List ℕ) (fs : List Field) (c : ℕ) → c ≡ 0 → 0 ≡ length (layout ps fs c)
unfolding layout layout_up
held_zero ps fs c e = ap (λ (k : ℕ). length (layout_up ps fs k k)) (sym e)

module _ {ps parents own fields : List ℕ} {fs : List Field} (C : ClassRows ps parents) (R : FieldRows ps fs own fields) (c : ℕ) (nz : c ≡ 0 → ⊥) where
  pub held_far : 32 < c → 0 ≡ length (layout ps fs c)
  held_far h =
      let z : parent_of ps c ≡ 0 = beyond ps c (let q = C.few in omega arith) in
      let a : 0 ≡ length (layout ps fs (parent_of ps c)) = held_zero ps fs (parent_of ps c) z in
      let b : get_or own c 0 ≡ 0 = get_or-eq_default own 0 (subst (λ (k : ℕ). k ≤ c) (sym R.own_long) (omega arith)) in
      let d = R.own_each c in
      let l = layout_up_lem ps C.falls fs c nz in
      omega arith

  pub held_step : (w r k : ℕ) → w ≡ get_or parents c 0 → r ≡ length (layout ps fs w) → k ≡ get_or own c 0 → r + k ≡ length (layout ps fs c)
  held_step w r k ew er ek =
      let a : r ≡ length (layout ps fs (parent_of ps c)) = er ∙ ap (λ (i : ℕ). length (layout ps fs i)) (ew ∙ parent_at C.parent c) in
      let b : k ≡ length (those (is_own c) fs) = ek ∙ R.own_each c in
      let l = layout_up_lem ps C.falls fs c nz in
      omega arith

-- ---- Counts

those_few : {A : Type 0} (p : A → Bool) (l : List A) → length (those p l) ≤ length l
unfolding those keep_if
those_few p [] = omega arith
those_few p (x ∷ l) = go (p x) (those_few p l)
  where
    go : (b : Bool) → length (those p l) ≤ length l → length (keep_if b x (those p l)) ≤ length (x ∷ l)
    go true h = omega arith
    go false h = omega arith

pub small_own : {ps : List ℕ} {fs : List Field} {own fields : List ℕ} → FieldRows ps fs own fields → Small own
unfolding Small
small_own {fs = fs} R c = let a = R.own_each c in let b = those_few (is_own c) fs in let d = R.few in omega arith

pub low_overrides : {code : List ℕ} {ms : List Method} {a : List ℕ} → Sound code ms → length ms ≤ 128 → MethodCells ms a → Earlier a
unfolding Earlier
low_overrides {ms = ms} sound few G r = let x = override_at ms G r in let y = overrides_below ms sound.earlier r in omega arith

pub fine : {code : List ℕ} {L : Loading} {N : Loaded} {S : Notes} → Stands code L N S → Fine N.counts
unfolding counts_of
fine {L = L} Z =
    subst Fine (sym Z.counted) (record {
      classes = Z.classes.few;
      fields = Z.fields.few;
      statics = let a = those_few is_static_field L.fields in let b = Z.fields.few in omega arith;
      methods = Z.methods.few;
    })

-- ---- Little-endian numbers

little_step : (n : ℕ) (l : List ℕ) → little (suc n) l ≡ get_or l 0 0 + 256 * little n (drop 1 l)
unfolding little
little_step zero [] = refl
little_step (suc n) [] = refl
little_step n (b ∷ l) = refl

little_at : (t : List ℕ) (n k : ℕ) → little (suc n) (drop k t) ≡ get_or t k 0 + 256 * little n (drop (k + 1) t)
little_at t n k =
    little_step n (drop k t)
    ∙ ap (λ (i : ℕ). i + 256 * little n (drop 1 (drop k t))) (get_or-drop k t 0 0 ∙ ap (λ (i : ℕ). get_or t i 0) same)
    ∙ ap (λ (l : List ℕ). get_or t k 0 + 256 * little n l) (drop-drop 1 k t)
  where
    same : k + 0 ≡ k
    same = omega arith

little_none : (l : List ℕ) → little 0 l ≡ 0
unfolding little
little_none l = refl

little_two : (t : List ℕ) (k a b : ℕ) → a ≡ get_or t k 0 → b ≡ get_or t (k + 1) 0 → a + 256 * b ≡ little 2 (drop k t)
little_two t k a b ea eb =
    let x = little_at t 1 k in
    let y = little_at t 0 (k + 1) in
    let z = little_none (drop (k + 1 + 1) t) in
    omega arith

little_four : (t : List ℕ) (k a b c d : ℕ) → a ≡ get_or t k 0 → b ≡ get_or t (k + 1) 0 → c ≡ get_or t (k + 2) 0 → d ≡ get_or t (k + 3) 0 → a + 256 * b + 65536 * (c + 256 * d) ≡ little 4 (drop k t)
little_four t k a b c d ea eb ec ed =
    let p : k + 1 + 1 ≡ k + 2 = omega arith in
    let q : k + 2 + 1 ≡ k + 3 = omega arith in
    let w = little_at t 3 k in
    let x : little 3 (drop (k + 1) t) ≡ get_or t (k + 1) 0 + 256 * little 2 (drop (k + 2) t) = little_at t 2 (k + 1) ∙ ap (λ (i : ℕ). get_or t (k + 1) 0 + 256 * little 2 (drop i t)) p in
    let y = little_two t (k + 2) c d ec (ed ∙ ap (λ (i : ℕ). get_or t i 0) (sym q)) in
    omega arith

low_first_two : (a b : ℕ) → from_le_bytes w16 (a ∷ b ∷ []) ≡ a + 256 * b
low_first_two a b = omega arith

low_first_four : (a b c d : ℕ) → from_le_bytes w32 (a ∷ b ∷ c ∷ d ∷ []) ≡ a + 256 * b + 65536 * (c + 256 * d)
low_first_four a b c d = omega arith

-- a method's record from its bytes
pub body : (t : List ℕ) (at offset size : ℕ)
    → offset ≡ from_le_bytes w32 (get_or t (at + 6) 0 ∷ get_or t (at + 7) 0 ∷ get_or t (at + 8) 0 ∷ get_or t (at + 9) 0 ∷ [])
    → size ≡ from_le_bytes w16 (get_or t (at + 10) 0 ∷ get_or t (at + 11) 0 ∷ [])
    → ◌≡◌ {A = Body} (record { owner = get_or t (at + 1) 0; sort = get_or t (at + 2) 0; returns = get_or t (at + 3) 0; stack = get_or t (at + 4) 0; overridden = get_or t (at + 5) 0; offset = offset; size = size }) (body_of t at)
unfolding body_of
body t at offset size eo es =
    let i : at + 7 ≡ at + 6 + 1 = omega arith in
    let j : at + 8 ≡ at + 6 + 2 = omega arith in
    let k : at + 9 ≡ at + 6 + 3 = omega arith in
    let l : at + 11 ≡ at + 10 + 1 = omega arith in
    let o = eo ∙ low_first_four _ _ _ _ ∙ little_four t (at + 6) _ _ _ _ refl (ap (λ (x : ℕ). get_or t x 0) i) (ap (λ (x : ℕ). get_or t x 0) j) (ap (λ (x : ℕ). get_or t x 0) k) in
    let s = es ∙ low_first_two _ _ ∙ little_two t (at + 10) _ _ refl (ap (λ (x : ℕ). get_or t x 0) l) in
    λ x. record { owner = get_or t (at + 1) 0; sort = get_or t (at + 2) 0; returns = get_or t (at + 3) 0; stack = get_or t (at + 4) 0; overridden = get_or t (at + 5) 0; offset = o x; size = s x }
