-- What operators take and give, as the code tests it.
use Prim.Native.Nat.{ℕ}
use mathlib.Core.Path.{◌≡◌, refl, ◌∙◌}
use mathlib.Core.Bool.{Bool, true, false, not, ◌&&◌}
use mathlib.Core.Option.{some, none}
use mathlib.Core.Logic.{◌⊎◌, inl, inr}
use denote.Enum.Bare.{sameb}
use Rattle.std.specs.Bool.{then_some}
use Rattle.model.specs.Answer.{map_option}
use Rattle.model.specs.Tables as tables
use Rattle.model.specs.Tables.{Ty, int32, int64, null, class, byte_of}
use Rattle.model.specs.Code.{neg, not_bits, conv_i4, conv_i8, conv_r8}
use Rattle.model.specs.Operators as operators
use Rattle.model.specs.Operators.{kind, kind_number, unary_of, conversion, neg_of, not_of, conv4_of, conv8_of, conv_fOf}
use Rattle.code.specs.Operand.{maybe}
use Rattle.shapes.specs.contracts.kind.Kind.{the_type}
use Rattle.shapes.specs.declared.kind.Kind.{Kind}
use Rattle.shapes.specs.declared.kind.Kind.TheVariants.{Int32, Int64, F, Reference}
use Rattle.shapes.specs.declared.kind.Pair.{Pair}
use Rattle.shapes.specs.declared.kind.Pair.TheVariants.{Numbers, Integers, Shift, Alike}
use Rattle.shapes.specs.Kinds.{kind_is, is_integer, pairs, given}

pub an_integer : (k : Kind) → (k ≡ Int32) ⊎ (k ≡ Int64) → true ≡ is_integer (kind_is k)
unfolding is_integer operators.same kind_number
an_integer k (inl e) = rw e refl
an_integer k (inr e) = rw e refl

pub no_integer : (k : Kind) → (k ≡ Int32 → ⊥) → (k ≡ Int64 → ⊥) → false ≡ is_integer (kind_is k)
unfolding is_integer operators.same kind_number
no_integer Int32 x y = absurd (x refl)
no_integer Int64 x y = absurd (y refl)
no_integer F x y = refl
no_integer Reference x y = refl

same_kinds : (x y : Kind) → sameb the_type x y ≡ operators.same (kind_is x) (kind_is y)
unfolding operators.same kind_number
same_kinds Int32 Int32 = refl
same_kinds Int32 Int64 = refl
same_kinds Int32 F = refl
same_kinds Int32 Reference = refl
same_kinds Int64 Int32 = refl
same_kinds Int64 Int64 = refl
same_kinds Int64 F = refl
same_kinds Int64 Reference = refl
same_kinds F Int32 = refl
same_kinds F Int64 = refl
same_kinds F F = refl
same_kinds F Reference = refl
same_kinds Reference Int32 = refl
same_kinds Reference Int64 = refl
same_kinds Reference F = refl
same_kinds Reference Reference = refl

-- a test against a kind
pub is_kind : (x k : Kind) (A : operators.Kind) → kind_is x ≡ A → true ≡ sameb the_type x k → true ≡ operators.same A (kind_is k)
is_kind x k A e t = t ∙ (same_kinds x k ∙ rw e refl)

pub is_no_kind : (x k : Kind) (A : operators.Kind) → kind_is x ≡ A → false ≡ sameb the_type x k → false ≡ operators.same A (kind_is k)
is_no_kind x k A e t = t ∙ (same_kinds x k ∙ rw e refl)

-- the same, by ≠
pub same_kind : (x k : Kind) (A : operators.Kind) → kind_is x ≡ A → false ≡ not (sameb the_type x k) → true ≡ operators.same A (kind_is k)
same_kind x k A e t = is_kind x k A e (by (sameb the_type x k) t)
  where
    by : (b : Bool) → false ≡ not b → true ≡ b
    by true q = refl
    by false q = cc

pub other_kind : (x k : Kind) (A : operators.Kind) → kind_is x ≡ A → true ≡ not (sameb the_type x k) → false ≡ operators.same A (kind_is k)
other_kind x k A e t = is_no_kind x k A e (by (sameb the_type x k) t)
  where
    by : (b : Bool) → true ≡ not b → false ≡ b
    by true q = cc
    by false q = refl

-- what the code tests of a pair
unfoldable pub tested : Pair → Kind → Kind → Bool
tested Numbers x y = sameb the_type x y && not (sameb the_type x Reference)
tested Integers x y = sameb the_type x y && is_integer (kind_is x)
tested Shift x y = sameb the_type y Int32 && is_integer (kind_is x)
tested Alike x y = sameb the_type x y

tested_is : (p : Pair) (x y : Kind) → tested p x y ≡ pairs p (kind_is x) (kind_is y)
unfolding tested pairs
tested_is Numbers x y = rw (same_kinds x y, same_kinds x Reference) refl
tested_is Integers x y = rw (same_kinds x y) refl
tested_is Shift x y = rw (same_kinds y Int32) refl
tested_is Alike x y = same_kinds x y

pub takes : (p : Pair) (x y : Kind) (A B : Ty) (b : Bool) → kind_is x ≡ kind A → kind_is y ≡ kind B → b ≡ tested p x y → b ≡ pairs p (kind A) (kind B)
takes p x y A B b e q h = rw (← e, ← q) (h ∙ tested_is p x y)

pub gives_neg : (A : Ty) (k : Kind) (t : ℕ) → byte_of A ≡ t → kind_is k ≡ kind A
    → maybe (then_some (not (sameb the_type k Reference)) t) ≡ given (unary_of neg (kind A))
unfolding given map_option unary_of neg_of not_of conv4_of conv8_of conversion kind byte_of is_integer operators.same kind_number
gives_neg int32 k t e q = rw (same_kinds k Reference, q, ← e) refl
gives_neg int64 k t e q = rw (same_kinds k Reference, q, ← e) refl
gives_neg tables.F k t e q = rw (same_kinds k Reference, q, ← e) refl
gives_neg null k t e q = rw (same_kinds k Reference, q) refl
gives_neg (class c) k t e q = rw (same_kinds k Reference, q) refl

pub gives_not : (A : Ty) (k : Kind) (t : ℕ) → byte_of A ≡ t → kind_is k ≡ kind A
    → maybe (then_some (is_integer (kind_is k)) t) ≡ given (unary_of not_bits (kind A))
unfolding given map_option unary_of neg_of not_of conv4_of conv8_of conversion kind byte_of is_integer operators.same kind_number
gives_not int32 k t e q = rw (q, ← e) refl
gives_not int64 k t e q = rw (q, ← e) refl
gives_not tables.F k t e q = rw (q) refl
gives_not null k t e q = rw (q) refl
gives_not (class c) k t e q = rw (q) refl

pub gives_i4 : (A : Ty) (k : Kind) (t : ℕ) → byte_of A ≡ t → kind_is k ≡ kind A
    → maybe (then_some (is_integer (kind_is k)) 1) ≡ given (unary_of conv_i4 (kind A))
unfolding given map_option unary_of neg_of not_of conv4_of conv8_of conversion kind byte_of is_integer operators.same kind_number
gives_i4 int32 k t e q = rw (q) refl
gives_i4 int64 k t e q = rw (q) refl
gives_i4 tables.F k t e q = rw (q) refl
gives_i4 null k t e q = rw (q) refl
gives_i4 (class c) k t e q = rw (q) refl

pub gives_i8 : (A : Ty) (k : Kind) (t : ℕ) → byte_of A ≡ t → kind_is k ≡ kind A
    → maybe (then_some (is_integer (kind_is k)) 2) ≡ given (unary_of conv_i8 (kind A))
unfolding given map_option unary_of neg_of not_of conv4_of conv8_of conversion kind byte_of is_integer operators.same kind_number
gives_i8 int32 k t e q = rw (q) refl
gives_i8 int64 k t e q = rw (q) refl
gives_i8 tables.F k t e q = rw (q) refl
gives_i8 null k t e q = rw (q) refl
gives_i8 (class c) k t e q = rw (q) refl

pub gives_real : (A : Ty) (k : Kind) → kind_is k ≡ kind A → (k ≡ Int32) ⊎ (k ≡ F) → some 3 ≡ given (unary_of conv_r8 (kind A))
unfolding given map_option unary_of conv_fOf conversion byte_of
gives_real A k q (inl z) = rw (← q, z) refl
gives_real A k q (inr z) = rw (← q, z) refl

pub gives_unreal : (A : Ty) (k : Kind) → kind_is k ≡ kind A → (k ≡ Int32 → ⊥) → (k ≡ F → ⊥) → none ≡ given (unary_of conv_r8 (kind A))
unfolding given map_option unary_of conv_fOf conversion byte_of
gives_unreal A Int32 q x y = absurd (x refl)
gives_unreal A Int64 q x y = rw (← q) refl
gives_unreal A F q x y = absurd (y refl)
gives_unreal A Reference q x y = rw (← q) refl
