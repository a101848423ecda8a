-- What it says of a record's bytes and counts that it is taken.
use mathlib.Core.Path.{◌≡◌, refl, sym, subst}
use Prim.Native.Nat.{ℕ, ◌≤◌, ◌<◌}
use mathlib.Core.Bool.{Bool, true, false, ◌&&◌}
use native.Mathlib.Omega.{arith}
use lib.Dec.{leb, ltb, eqb}
use borrow.Author.Tests.{leb-true, ltb-true}
use Rattle.model.specs.Answer.{Answer, pick}
use Rattle.model.specs.Loading.{follows, within, parent_fits}
use Rattle.std.specs.Prelude.{Result, Ok, Err, ⊤}
use Rattle.loader.specs.declared.refusal.Refusal.{Refusal}
use Rattle.loader.specs.declared.variable.Variable.{Variable}
use Rattle.loader.specs.Kinds.{kind_byte}
use Rattle.loader.specs.Variables.{kind_of, most_of}
use Rattle.loader.specs.Goes.{Goes}
use Rattle.loader.specs.Allowed.{is_type, is_return, slot_room, class_allowed, field_allowed, method_allowed, variable_allowed}
use Rattle.loader.proofs.Ladder.{goes_bad, both_true, within_true}

-- ---- The code's answer beside the model's record

pub refuse : {A : Type 0} (m : Answer ℕ A) (k : Result ⊤ Refusal) (e : Refusal) (P Q : A → Type 0) → Err e ≡ k → Goes m k P → Goes m (Err e) Q
refuse m k e P Q q h = goes_bad m e P Q (subst (λ (r : Result ⊤ Refusal). Goes m r P) (sym q) h)

pub accept : {A : Type 0} (m : Answer ℕ A) (k : Result ⊤ Refusal) (P : A → Type 0) → Ok tt ≡ k → Goes m k P → Goes m (Ok tt) P
accept m k P q h = subst (λ (r : Result ⊤ Refusal). Goes m r P) (sym q) h

-- ---- What each test that passed says

passed : (b : Bool) (x : Result ⊤ Refusal) (e : Refusal) → Ok tt ≡ pick b x (Err e) → (b ≡ true) × (Ok tt ≡ x)
unfolding pick
passed true x e q = (refl, q)
passed false x e q = cc

pub class_open : (last classes p : ℕ) → Ok tt ≡ class_allowed last classes p → classes < 32
unfolding class_allowed
class_open last classes p e =
    let a = passed (follows last 1) _ _ e in
    let b = passed (parent_fits classes p) _ _ a.1 in
    let c = passed (ltb classes 32) _ _ b.1 in
    ltb-true classes 32 c.0

slot_open : (fields flag slot : ℕ) → slot_room fields flag slot ≡ true → (fields < 128) × (slot < 64)
unfolding slot_room pick
slot_open fields flag slot e =
    let a = both_true (ltb fields 128) _ e in
    (ltb-true fields 128 a.0, go (eqb flag 1) a.1)
  where
    go : (b : Bool) → pick b (ltb slot 64) (ltb slot 8) ≡ true → slot < 64
    go true e = ltb-true slot 64 e
    go false e = let h = ltb-true slot 8 e in omega arith

pub field_open : (last before classes fields o flag t slot : ℕ) → Ok tt ≡ field_allowed last before classes fields o flag t slot → (o ≤ classes) × (flag ≤ 1) × (fields < 128) × (slot < 64)
unfolding field_allowed
field_open last before classes fields o flag t slot e =
    let a = passed (follows last 2 && leb before o) _ _ e in
    let b = passed (within 1 classes o) _ _ a.1 in
    let c = passed (leb flag 1) _ _ b.1 in
    let d = passed (is_type classes t) _ _ c.1 in
    let f = passed (slot_room fields flag slot) _ _ d.1 in
    let r = slot_open fields flag slot f.0 in
    ((within_true 1 classes o b.0).1, leb-true flag 1 c.0, r.0, r.1)

pub method_open : (last classes methods o s r most : ℕ) (part over fits : Bool) → Ok tt ≡ method_allowed last classes methods o s r most part over fits → (o ≤ classes) × (methods < 128) × (over ≡ true)
unfolding method_allowed
method_open last classes methods o s r most part over fits e =
    let a = passed (follows last 3) _ _ e in
    let b = passed (within 1 classes o) _ _ a.1 in
    let c = passed (leb s 4) _ _ b.1 in
    let d = passed (is_return classes r) _ _ c.1 in
    let f = passed (leb most 32) _ _ d.1 in
    let g = passed part _ _ f.1 in
    let h = passed (ltb methods 128) _ _ g.1 in
    let i = passed (over && fits) _ _ h.1 in
    ((within_true 1 classes o b.0).1, ltb-true methods 128 h.0, (both_true over fits i.0).0)

pub variable_open : (v : Variable) (last classes t count sort : ℕ) → Ok tt ≡ variable_allowed v last classes t count sort → count < most_of v
unfolding variable_allowed
variable_open v last classes t count sort e =
    let a = passed (follows last (kind_byte (kind_of v))) _ _ e in
    let b = passed (is_type classes t) _ _ a.1 in
    let c = passed (ltb count (most_of v)) _ _ b.1 in
    ltb-true count (most_of v) c.0
