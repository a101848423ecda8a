-- Types and their bytes.
use Prim.Native.Nat.{ℕ, ◌+◌, ◌-◌, ◌≤◌, ◌<◌}
use mathlib.Core.Path.{◌≡◌, refl, sym, ap}
use mathlib.Core.Bool.{true, false}
use mathlib.Core.List.{List}
use native.Mathlib.Omega.{arith}
use borrow.Author.Tests.{eq-eqb, ne_eqb}
use Rattle.model.specs.Tables.{Ty, int32, int64, F, null, class, byte_of, eq_ty, descends}
use Rattle.model.specs.Operators.{refers_to, fits_class, fits, k32, k64, k_f, reference, kind}

-- a byte is the byte of one type
pub byte_inj : (A B : Ty) → byte_of A ≡ byte_of B → A ≡ B
unfolding byte_of
byte_inj int32 int32 e = refl
byte_inj int32 int64 e = absurd (omega arith)
byte_inj int32 F e = absurd (omega arith)
byte_inj int32 null e = absurd (omega arith)
byte_inj int32 (class c) e = absurd (omega arith)
byte_inj int64 int32 e = absurd (omega arith)
byte_inj int64 int64 e = refl
byte_inj int64 F e = absurd (omega arith)
byte_inj int64 null e = absurd (omega arith)
byte_inj int64 (class c) e = absurd (omega arith)
byte_inj F int32 e = absurd (omega arith)
byte_inj F int64 e = absurd (omega arith)
byte_inj F F e = refl
byte_inj F null e = absurd (omega arith)
byte_inj F (class c) e = absurd (omega arith)
byte_inj null int32 e = absurd (omega arith)
byte_inj null int64 e = absurd (omega arith)
byte_inj null F e = absurd (omega arith)
byte_inj null null e = refl
byte_inj null (class c) e = absurd (omega arith)
byte_inj (class c) int32 e = absurd (omega arith)
byte_inj (class c) int64 e = absurd (omega arith)
byte_inj (class c) F e = absurd (omega arith)
byte_inj (class c) null e = absurd (omega arith)
byte_inj (class c) (class d) e = let h : c ≡ d = omega arith in ap class h

-- ---- Kinds, by their bytes

pub kind_1 : (A : Ty) (t : ℕ) → byte_of A ≡ t → t ≡ 1 → k32 ≡ kind A
unfolding byte_of kind
kind_1 int32 t e h = refl
kind_1 int64 t e h = absurd (omega arith)
kind_1 F t e h = absurd (omega arith)
kind_1 null t e h = absurd (omega arith)
kind_1 (class c) t e h = absurd (omega arith)

pub kind_2 : (A : Ty) (t : ℕ) → byte_of A ≡ t → t ≡ 2 → k64 ≡ kind A
unfolding byte_of kind
kind_2 int32 t e h = absurd (omega arith)
kind_2 int64 t e h = refl
kind_2 F t e h = absurd (omega arith)
kind_2 null t e h = absurd (omega arith)
kind_2 (class c) t e h = absurd (omega arith)

pub kind_3 : (A : Ty) (t : ℕ) → byte_of A ≡ t → t ≡ 3 → k_f ≡ kind A
unfolding byte_of kind
kind_3 int32 t e h = absurd (omega arith)
kind_3 int64 t e h = absurd (omega arith)
kind_3 F t e h = refl
kind_3 null t e h = absurd (omega arith)
kind_3 (class c) t e h = absurd (omega arith)

pub kind_other : (A : Ty) (t : ℕ) → byte_of A ≡ t → (t ≡ 1 → ⊥) → (t ≡ 2 → ⊥) → (t ≡ 3 → ⊥) → reference ≡ kind A
unfolding byte_of kind
kind_other int32 t e x y z = absurd (x (sym e))
kind_other int64 t e x y z = absurd (y (sym e))
kind_other F t e x y z = absurd (z (sym e))
kind_other null t e x y z = refl
kind_other (class c) t e x y z = refl

-- ---- Fitting

pub fits_same : (ps : List ℕ) (A B : Ty) → byte_of A ≡ byte_of B → true ≡ fits ps A B
unfolding fits eq_ty
fits_same ps A B e = rw (eq-eqb (byte_of A) (byte_of B) e)

fits_other : (ps : List ℕ) (A B : Ty) → (byte_of A ≡ byte_of B → ⊥) → fits ps A B ≡ fits_class ps A B
unfolding fits eq_ty
fits_other ps A B e = rw (ne_eqb (byte_of A) (byte_of B) e)

pub fits_number : (ps : List ℕ) (A B : Ty) → (byte_of A ≡ byte_of B → ⊥) → byte_of B < 32 → false ≡ fits ps A B
unfolding fits_class byte_of
fits_number ps A int32 e h = sym (fits_other ps A int32 e)
fits_number ps A int64 e h = sym (fits_other ps A int64 e)
fits_number ps A F e h = sym (fits_other ps A F e)
fits_number ps A null e h = sym (fits_other ps A null e)
fits_number ps A (class c) e h = absurd (omega arith)

pub fits_null : (ps : List ℕ) (A B : Ty) → (byte_of A ≡ byte_of B → ⊥) → 32 ≤ byte_of B → byte_of A ≡ 0 → true ≡ fits ps A B
unfolding fits_class refers_to byte_of
fits_null ps A int32 e h z = absurd (omega arith)
fits_null ps A int64 e h z = absurd (omega arith)
fits_null ps A F e h z = absurd (omega arith)
fits_null ps A null e h z = absurd (omega arith)
fits_null ps int32 (class d) e h z = absurd (omega arith)
fits_null ps int64 (class d) e h z = absurd (omega arith)
fits_null ps F (class d) e h z = absurd (omega arith)
fits_null ps null (class d) e h z = sym (fits_other ps null (class d) e)
fits_null ps (class c) (class d) e h z = absurd (omega arith)

pub fits_low : (ps : List ℕ) (A B : Ty) → (byte_of A ≡ byte_of B → ⊥) → 32 ≤ byte_of B → (byte_of A ≡ 0 → ⊥) → byte_of A < 32 → false ≡ fits ps A B
unfolding fits_class refers_to byte_of
fits_low ps A int32 e h z l = absurd (omega arith)
fits_low ps A int64 e h z l = absurd (omega arith)
fits_low ps A F e h z l = absurd (omega arith)
fits_low ps A null e h z l = absurd (omega arith)
fits_low ps int32 (class d) e h z l = sym (fits_other ps int32 (class d) e)
fits_low ps int64 (class d) e h z l = sym (fits_other ps int64 (class d) e)
fits_low ps F (class d) e h z l = sym (fits_other ps F (class d) e)
fits_low ps null (class d) e h z l = absurd (z refl)
fits_low ps (class c) (class d) e h z l = absurd (omega arith)

pub fits_class_lem : (ps : List ℕ) (A B : Ty) → (byte_of A ≡ byte_of B → ⊥) → 32 ≤ byte_of B → 32 ≤ byte_of A
    → descends ps (byte_of A - 32) (byte_of B - 32) ≡ fits ps A B
unfolding fits_class refers_to byte_of
fits_class_lem ps A int32 e h l = absurd (omega arith)
fits_class_lem ps A int64 e h l = absurd (omega arith)
fits_class_lem ps A F e h l = absurd (omega arith)
fits_class_lem ps A null e h l = absurd (omega arith)
fits_class_lem ps int32 (class d) e h l = absurd (omega arith)
fits_class_lem ps int64 (class d) e h l = absurd (omega arith)
fits_class_lem ps F (class d) e h l = absurd (omega arith)
fits_class_lem ps null (class d) e h l = absurd (omega arith)
fits_class_lem ps (class c) (class d) e h l =
    let x : 32 + c - 32 ≡ c = omega arith in
    let y : 32 + d - 32 ≡ d = omega arith in
    rw (x, y) (sym (fits_other ps (class c) (class d) e))
