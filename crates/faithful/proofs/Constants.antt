-- An int32 constant that is read from bytes has 32 bits.
use Prim.Native.Nat.{ℕ, suc, ◌+◌, ◌-◌, ◌≤◌, ◌<◌}
use mathlib.Core.Path.{◌≡◌, refl, subst}
use mathlib.Core.Bool.{Bool, true, false}
use mathlib.Core.Logic.{◌⊎◌, inl, inr}
use mathlib.Core.Option.{Option, none, some}
use mathlib.Core.List.{List, [], ◌∷◌, ◌++◌}
use native.Mathlib.Omega.{arith}
use lib.ListN.{length, get_or, take, drop, length-take, get_or-eq_default}
use lib.Seq.{get_or-take, get_or-drop}
use lib.Dec.{leb, ltb, eqb}
use mir.Syntax.{w8, w32}
use mir.Val.{to_z, of_z, sel}
use lib.IntN.{pos, negsuc}
use Rattle.model.specs.Answer.{pick, only_if, map_option}
use Rattle.model.specs.Tables.{Ty, int32, int64, F, null, class, part_of}
use Rattle.model.specs.Loading.{little}
use Rattle.model.specs.Code.{Plain, nop, pop, dup, ret, ldc, binary, unary, Ins, plain, ldarg, starg, ldloc, stloc, jump, call, callvirt, newobj, castclass, isinst, ldfld, stfld, ldsfld, stsfld, Form, bare, short, long, double, near, far, second, Kept, ◌is◌, op, un, const, i4_s, i4, i8, r8, branches, loads, operators, objects, instructions, after_fE, form_of, Decoded, length_of, target, as_form, full_form, and_then, decode_byte, decode_at, decode, size_of, length_by}
use Rattle.faithful.proofs.Lists.{le_or_lt}

unfoldable SmallType : Ty → ℕ → Type 0
SmallType int32 n = n < 4294967296
SmallType int64 n = Unit
SmallType F n = Unit
SmallType null n = Unit
SmallType (class c) n = Unit

unfoldable SmallPlain : Plain → Type 0
SmallPlain nop = Unit
SmallPlain pop = Unit
SmallPlain dup = Unit
SmallPlain ret = Unit
SmallPlain (ldc t n) = SmallType t n
SmallPlain (binary o) = Unit
SmallPlain (unary o) = Unit

-- an int32 constant has 32 bits
unfoldable Small : Ins → Type 0
Small (plain p) = SmallPlain p
Small (ldarg i) = Unit
Small (starg i) = Unit
Small (ldloc i) = Unit
Small (stloc i) = Unit
Small (jump j t) = Unit
Small (call t) = Unit
Small (callvirt t) = Unit
Small (newobj t) = Unit
Small (castclass t) = Unit
Small (isinst t) = Unit
Small (ldfld t) = Unit
Small (stfld t) = Unit
Small (ldsfld t) = Unit
Small (stsfld t) = Unit

-- so it has whatever the operand of the form is
unfoldable SmallForm : Form → Type 0
SmallForm (bare i) = Small i
SmallForm (short f) = (n : ℕ) → n < 256 → Small (f n)
SmallForm (long f) = (n : ℕ) → n < 4294967296 → Small (f n)
SmallForm (double f) = (n : ℕ) → Small (f n)
SmallForm (near j) = Unit
SmallForm (far j) = Unit
SmallForm second = Unit

unfoldable AllSmall : List Kept → Type 0
AllSmall [] = Unit
AllSmall (k ∷ ks) = SmallForm k.form × AllSmall ks

all_append : (ks ls : List Kept) → AllSmall ks → AllSmall ls → AllSmall (ks ++ ls)
unfolding AllSmall
all_append [] ls p q = q
all_append (k ∷ ks) ls p q = (p.0, all_append ks ls p.1 q)

signed_small : (b : ℕ) → b < 256 → of_z w32 (to_z w8 b) < 4294967296
signed_small b h = go (ltb b 128) where
  go : (t : Bool) → of_z w32 (sel t (pos b) (negsuc (256 - suc b))) < 4294967296
  go true = omega arith
  go false = omega arith

loads_small : AllSmall loads
unfolding Small SmallPlain SmallType SmallForm AllSmall ◌is◌ op un const i4_s i4 i8 r8 loads
loads_small = (tt, (tt, (tt, (tt, (tt, (tt, (tt, (tt, (tt, (tt, (tt, (tt, (tt, (λ b h. tt, (λ b h. tt, (λ b h. tt, (λ b h. tt, (tt, (omega arith, (omega arith, (omega arith, (omega arith, (omega arith, (omega arith, (omega arith, (omega arith, (omega arith, (omega arith, (signed_small, (λ n h. h, (λ n. tt, (λ n. tt, (tt, (tt, (λ n h. tt, (tt, tt))))))))))))))))))))))))))))))))))))

operators_small : AllSmall operators
unfolding Small SmallPlain SmallType SmallForm AllSmall ◌is◌ op un const i4_s i4 i8 r8 operators
operators_small = (tt, (tt, (tt, (tt, (tt, (tt, (tt, (tt, (tt, (tt, (tt, (tt, (tt, (tt, (tt, (tt, (tt, (tt, (tt, (tt, (tt, tt)))))))))))))))))))))

objects_small : AllSmall objects
unfolding Small SmallPlain SmallType SmallForm AllSmall ◌is◌ op un const i4_s i4 i8 r8 objects
objects_small = (λ n h. tt, (λ n h. tt, (λ n h. tt, (λ n h. tt, (λ n h. tt, (λ n h. tt, (λ n h. tt, (λ n h. tt, (tt, tt)))))))))

after_fE_small : AllSmall after_fE
unfolding Small SmallPlain SmallType SmallForm AllSmall ◌is◌ op un const i4_s i4 i8 r8 after_fE
after_fE_small = (tt, (tt, (tt, (tt, (tt, tt)))))

near_small : AllSmall (branches 0x2B near)
unfolding Small SmallPlain SmallType SmallForm AllSmall ◌is◌ op un const i4_s i4 i8 r8 branches
near_small = (tt, (tt, (tt, (tt, (tt, (tt, (tt, (tt, (tt, (tt, (tt, (tt, (tt, tt)))))))))))))

far_small : AllSmall (branches 0x38 far)
unfolding Small SmallPlain SmallType SmallForm AllSmall ◌is◌ op un const i4_s i4 i8 r8 branches
far_small = (tt, (tt, (tt, (tt, (tt, (tt, (tt, (tt, (tt, (tt, (tt, (tt, (tt, tt)))))))))))))

all_small : AllSmall instructions
unfolding instructions
all_small = all_append loads _ loads_small (all_append (branches 0x2B near) _ near_small (all_append (branches 0x38 far) _ far_small (all_append operators objects operators_small objects_small)))

form_small : (ks : List Kept) → AllSmall ks → (b : ℕ) (f : Form) → form_of ks b ≡ some f → SmallForm f
unfolding AllSmall form_of pick
form_small [] a b f e = let z : ◌≡◌ {A = ℕ} 0 1 = cc in absurd (omega arith)
form_small (k ∷ ks) a b f e = go (eqb k.opcode b) e (form_small ks a.1 b f) where
  go : (t : Bool) → pick t (some k.form) (form_of ks b) ≡ some f → (form_of ks b ≡ some f → SmallForm f) → SmallForm f
  go true q h = let w : k.form ≡ f = cc in rw w at a.0
  go false q h = h q

full_small : (f g : Form) (r : List ℕ) → SmallForm f → full_form f r ≡ some g → SmallForm g
unfolding full_form
full_small (bare i) g r s e = let w : bare i ≡ g = cc in rw w at s
full_small (short i) g r s e = let w : short i ≡ g = cc in rw w at s
full_small (long i) g r s e = let w : long i ≡ g = cc in rw w at s
full_small (double i) g r s e = let w : double i ≡ g = cc in rw w at s
full_small (near i) g r s e = let w : near i ≡ g = cc in rw w at s
full_small (far i) g r s e = let w : far i ≡ g = cc in rw w at s
full_small second g r s e = form_small after_fE after_fE_small (little 1 r) g e

-- ---- Numbers read from bytes

abbrev pub Bytes : List ℕ → Type 0
Bytes l = (i : ℕ) → get_or l i 0 < 256

little_1 : (r : List ℕ) → Bytes r → little 1 r < 256
unfolding little
little_1 [] h = omega arith
little_1 (a ∷ r) h = let x = h 0 in omega arith

little_4 : (r : List ℕ) → Bytes r → little 4 r < 4294967296
unfolding little
little_4 [] h = omega arith
little_4 (a ∷ []) h = let x = h 0 in omega arith
little_4 (a ∷ b ∷ []) h = let x = h 0 in let y = h 1 in omega arith
little_4 (a ∷ b ∷ c ∷ []) h = let x = h 0 in let y = h 1 in let z = h 2 in omega arith
little_4 (a ∷ b ∷ c ∷ d ∷ r) h = let x = h 0 in let y = h 1 in let z = h 2 in let w = h 3 in omega arith

as_small : (g : Form) (r : List ℕ) (next : ℕ) (i : Ins) → Bytes r → SmallForm g → as_form g r next ≡ some i → Small i
unfolding as_form SmallForm Small
as_small (bare j) r next i h s e = let w : j ≡ i = cc in rw w at s
as_small (short f) r next i h s e = let w : f (little 1 r) ≡ i = cc in rw w at (s (little 1 r) (little_1 r h))
as_small (long f) r next i h s e = let w : f (little 4 r) ≡ i = cc in rw w at (s (little 4 r) (little_4 r h))
as_small (double f) r next i h s e = let w : f (little 8 r) ≡ i = cc in rw w at (s (little 8 r))
as_small (near j) r next i h s e = let w : jump j (target 0x100 next (little 1 r)) ≡ i = cc in subst Small w tt
as_small (far j) r next i h s e = let w : jump j (target 0x100000000 next (little 4 r)) ≡ i = cc in subst Small w tt
as_small second r next i h s e = let z : ◌≡◌ {A = ℕ} 0 1 = cc in absurd (omega arith)

-- ---- Decoding

then_inv : {A B : Type 0} (o : Option A) (f : A → Option B) (x : B) → and_then o f ≡ some x → (a : A) × ((o ≡ some a) × (f a ≡ some x))
unfolding and_then
then_inv none f x e = let z : ◌≡◌ {A = ℕ} 0 1 = cc in absurd (omega arith)
then_inv (some a) f x e = (a, (refl, e))

map_inv : {A B : Type 0} (f : A → B) (o : Option A) (x : B) → map_option f o ≡ some x → (a : A) × ((o ≡ some a) × (f a ≡ x))
unfolding map_option
map_inv f none x e = let z : ◌≡◌ {A = ℕ} 0 1 = cc in absurd (omega arith)
map_inv f (some a) x e = (a, (refl, let w : f a ≡ x = cc in w))

only_then : {A : Type 0} (b : Bool) (o : Option A) (x : A) → only_if b o ≡ some x → o ≡ some x
unfolding only_if
only_then true o x e = e
only_then false o x e = let z : ◌≡◌ {A = ℕ} 0 1 = cc in absurd (omega arith)

-- the next instruction begins at most 9 bytes on
length_few : (b : ℕ) → length_of b ≤ 9
unfolding length_of length_by size_of
length_few b = go (form_of instructions b) where
  go : (f : Option Form) → length_by f ≤ 9
  go none = omega arith
  go (some (bare i)) = omega arith
  go (some (short f)) = omega arith
  go (some (long f)) = omega arith
  go (some (double f)) = omega arith
  go (some (near j)) = omega arith
  go (some (far j)) = omega arith
  go (some second) = omega arith

abbrev as_decoded : ℕ → Ins → Decoded
as_decoded o i = record { ins = i; next = o }

byte_decoded : (b : ℕ) (r : List ℕ) (o : ℕ) (d : Decoded) → decode_byte b r o ≡ some d → (Bytes r → Small d.ins) × (d.next ≤ o + 9)
unfolding decode_byte
byte_decoded b r o d e =
    let (f, (x, u)) = then_inv (form_of instructions b) (λ f. and_then (full_form f r) (λ g. map_option (as_decoded (o + length_of b)) (as_form g r (o + length_of b)))) d (only_then (leb (length_of b) (suc (length r))) _ d e) in
    let (g, (y, w)) = then_inv (full_form f r) (λ g. map_option (as_decoded (o + length_of b)) (as_form g r (o + length_of b))) d u in
    let (i, (z, v)) = map_inv (as_decoded (o + length_of b)) (as_form g r (o + length_of b)) d w in
    let l = length_few b in (
      λ h. subst (λ (k : Decoded). Small k.ins) v (as_small g r (o + length_of b) i h (full_small f g r (form_small instructions all_small b f x) y) z),
      subst (λ (k : Decoded). k.next ≤ o + 9) v (omega arith),
    )

at_decoded : (l : List ℕ) (o : ℕ) (d : Decoded) → decode_at l o ≡ some d → (Bytes l → Small d.ins) × (d.next ≤ o + 9)
unfolding decode_at
at_decoded [] o d e = let z : ◌≡◌ {A = ℕ} 0 1 = cc in absurd (omega arith)
at_decoded (b ∷ r) o d e = let q = byte_decoded b r o d e in (λ h. q.0 (λ i. h (suc i)), q.1)

pub next_few : (code : List ℕ) (o : ℕ) (d : Decoded) → decode code o ≡ some d → d.next ≤ o + 9
unfolding decode
next_few code o d e = (at_decoded (drop o code) o d e).1

pub constants_small : (code : List ℕ) → Bytes code → (o n : ℕ) (d : Decoded) → decode code o ≡ some d → d.ins ≡ plain (ldc int32 n) → n < 4294967296
unfolding decode Small SmallPlain SmallType
constants_small code h o n d e i = subst Small i ((at_decoded (drop o code) o d e).0 (λ j. rw (get_or-drop o code j 0) (h (o + j))))

-- a method's part of the code is bytes too
pub part_bytes : (code : List ℕ) (o n : ℕ) → Bytes code → Bytes (part_of code o n)
unfolding part_of
part_bytes code o n h i = go (le_or_lt n i) where
  go : (n ≤ i) ⊎ (i < n) → get_or (take n (drop o code)) i 0 < 256
  go (inl l) = rw (get_or-eq_default (take n (drop o code)) 0 {n = i} (let t = length-take n (drop o code) in omega arith)) (omega arith)
  go (inr l) = rw (get_or-take n (drop o code) i 0 l, get_or-drop o code i 0) (h (o + i))
