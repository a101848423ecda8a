-- The code's test of arguments is the model's admission.
use Prim.Native.Nat.{ℕ, zero, suc, ◌+◌, ◌*◌, ◌%◌, ◌≤◌, ◌<◌}
use mathlib.Core.Path.{◌≡◌, refl, sym, ◌∙◌, ap}
use mathlib.Core.Bool.{Bool, true, false, ◌&&◌}
use mathlib.Core.Option.{Option, none, some}
use mathlib.Core.List.{List, [], ◌∷◌}
use native.Mathlib.Omega.{arith}
use native.Mathlib.Nat.{add-zero}
use native.Mathlib.Numerals.{add-one}
use lib.ListN.{length, get_or, take, drop}
use lib.Seq.{drop-cons}
use Rattle.std.proofs.lemmas.List.{get_or-take, get_or-drop}
use mir.Syntax.{w32, w64}
use mir.Val.{to_z, of_z, Fits}
use borrow.Author.Tests.{ne_eqb}
use Rattle.model.specs.Answer.{pick, only_if, map_option, at}
use Rattle.model.specs.Tables.{Ty, int32, int64, F, null, class, byte_of, Module, method_at, arguments, this_of}
use Rattle.model.specs.Operators.{holds, kind, kind_number}
use Rattle.model.specs.Code.{and_then}
use Rattle.model.specs.State.{Value, vint32}
use Rattle.model.specs.Run.{admit, admit_one}
use Rattle.loaded.specs.declared.Loaded.{Loaded}
use Rattle.loaded.specs.Holds.{byte_at, method_cell, Holds}
use Rattle.state.specs.View.{seen, value_by, kind_of_type}
use Rattle.state.specs.Order.{Fine}
use Rattle.integers.proofs.Reading.{narrow_bits}
use Rattle.begin_end.specs.Admission.{takes, takes_all, Words}

-- ---- The loop over the arguments

module _ (types given : List ℕ) (i : ℕ) (h : i < length given) where
  opened : takes_all types (drop i given) i ≡ takes (get_or types i 0) (get_or given i 0) && takes_all types (drop (i + 1) given) (i + 1)
  unfolding takes_all
  opened = rw (add-one i, drop-cons given i 0 h)

  pub takes_more : takes (get_or types i 0) (get_or given i 0) ≡ true → takes_all types (drop i given) i ≡ takes_all types (drop (i + 1) given) (i + 1)
  takes_more t = opened ∙ ap (λ (b : Bool). b && takes_all types (drop (i + 1) given) (i + 1)) t

  pub takes_end : takes (get_or types i 0) (get_or given i 0) ≡ false → takes_all types (drop i given) i ≡ false
  takes_end t = opened ∙ ap (λ (b : Bool). b && takes_all types (drop (i + 1) given) (i + 1)) t

drop_all : (l : List ℕ) (i : ℕ) → length l ≤ i → drop i l ≡ []
drop_all [] zero h = refl
drop_all [] (suc i) h = refl
drop_all (x ∷ l) zero h = absurd (omega arith)
drop_all (x ∷ l) (suc i) h = drop_all l i (omega arith)

pub takes_done : (types given : List ℕ) (from i : ℕ) → length given ≤ i → takes_all types (drop i given) from ≡ true
unfolding takes_all
takes_done types given from i h = rw (drop_all given i h)

-- ---- One argument

agrees : (a : ℕ) → Fits w64 a → (b : Bool) → holds w32 (to_z w64 a) ≡ b → only_if b (some (vint32 (of_z w32 (to_z w64 a)))) ≡ only_if b (some (vint32
    (a % 4294967296)))
unfolding only_if
agrees a f true h = rw (narrow_bits a f h)
agrees a f false h = refl

admits_one : (t : Ty) (a : ℕ) → Fits w64 a → admit_one t a ≡ only_if (takes (byte_of t) a) (some (value_by (kind_of_type t) a))
unfolding takes pick byte_of admit_one only_if value_by kind_of_type kind kind_number
admits_one int32 a f = agrees a f (holds w32 (to_z w64 a)) refl
admits_one int64 a f = refl
admits_one F a f = refl
admits_one null a f = refl
admits_one (class c) a f = simp (ne_eqb (32 + c) 1 (λ e. omega arith), ne_eqb (32 + c) 2 (λ e. omega arith))

-- ---- All of them

-- the bytes from i on are those of the types
abbrev Typed : List ℕ → ℕ → List Ty → Type 0
Typed types i ps = (j : ℕ) → j < length ps → get_or types (i + j) 0 ≡ byte_at (at ps j)

module _ (types : List ℕ) (i : ℕ) (t : Ty) (ts : List Ty) (h : Typed types i (t ∷ ts)) where
  head_byte : get_or types i 0 ≡ byte_of t
  unfolding at byte_at
  head_byte = simp add-zero at (h 0 (omega arith))

  tail_bytes : Typed types (suc i) ts
  unfolding at
  tail_bytes j q = let x : suc i + j ≡ i + suc j = omega arith in rw x (h (suc j) (omega arith))

none_after : {A B C : Type 0} (o : Option A) (f : A → B → C) → and_then o (λ a. map_option (f a) none) ≡ none
unfolding and_then map_option
none_after none f = refl
none_after (some a) f = refl

-- too many or too few
pub unequal : (ps : List Ty) (l : List ℕ) → (length l ≡ length ps → ⊥) → admit ps l ≡ none
unfolding admit
unequal [] [] h = absurd (h refl)
unequal [] (a ∷ l) h = refl
unequal (t ∷ ts) [] h = refl
unequal (t ∷ ts) (a ∷ l) h = rw (unequal ts l (λ e. h (ap suc e))) (none_after (admit_one t a) (λ v vs. v ∷ vs))

joined : (b d : Bool) (v : Value) (vs : List Value) → and_then (only_if b (some v)) (λ w. map_option (λ ws. w ∷ ws) (only_if d (some vs))) ≡ only_if (b && d)
    (some (v ∷ vs))
unfolding and_then map_option only_if
joined true true v vs = refl
joined true false v vs = refl
joined false d v vs = refl

-- values are the same where the cells are
seen_ext : (ts : List Ty) (l k : List ℕ) (a b : ℕ) → ((j : ℕ) → j < length ts → get_or l (a + j) 0 ≡ get_or k (b + j) 0) → seen ts l a ≡ seen ts k b
unfolding seen
seen_ext [] l k a b h = refl
seen_ext (t ∷ ts) l k a b h =
    let z : get_or l a 0 ≡ get_or k b 0 = simp add-zero at (h 0 (omega arith)) in
    let r : seen ts l (suc a) ≡ seen ts k (suc b) =
    seen_ext ts l k (suc a) (suc b) (λ j q. let x : suc a + j ≡ a + suc j = omega arith in let y : suc b + j ≡ b + suc j = omega arith in rw (x, y) (h
    (suc j) (omega arith))) in
    cc

seen_tail : (ts : List Ty) (a : ℕ) (l : List ℕ) → seen ts (a ∷ l) 1 ≡ seen ts l 0
seen_tail ts a l = seen_ext ts (a ∷ l) l 1 0 (λ j q. let x : 1 + j ≡ suc j = omega arith in let y : 0 + j ≡ j = omega arith in rw (x, y))

words_tail : (a : ℕ) (l : List ℕ) → Words (a ∷ l) → Words l
words_tail a l w = record { word = λ j. w.word (suc j) }

pub admits : (ps : List Ty) (l types : List ℕ) (i : ℕ) → Typed types i ps → length l ≡ length ps → Words l
    → admit ps l ≡ only_if (takes_all types l i) (some (seen ps l 0))
unfolding takes_all admit seen only_if
admits [] [] types i h e w = refl
admits [] (a ∷ l) types i h e w = absurd (omega arith)
admits (t ∷ ts) [] types i h e w = absurd (omega arith)
admits (t ∷ ts) (a ∷ l) types i h e w =
    rw (
      head_byte types i t ts h,
      admits_one t a (w.word 0),
      admits ts l types (suc i) (tail_bytes types i t ts h) (omega arith)
          (words_tail a l w),
      seen_tail ts a l,
    )
    (joined (takes (byte_of t) a) (takes_all types l (suc i)) (value_by (kind_of_type t) a) (seen ts l 0))

-- ---- The entry

abbrev entry_params : Module → List Ty
entry_params M = (method_at M.methods M.entry).params

module _ (M : Module) (code : List ℕ) (L : Loaded) (given : List ℕ) (H : Holds M code L) (fine : Fine M) {methods : List ℕ} {entry : ℕ}
    (em : L.methods ≡ methods) (en : L.counts.entry ≡ entry) where
  params : arguments (method_at M.methods M.entry) ≡ entry_params M
  unfolding arguments this_of
  params = rw fine.entry_static

  abbrev count : ℕ
  count = method_cell methods entry 28

  counted : count ≡ length (entry_params M)
  counted = rw (← em, ← en, H.entry_row, H.by_method.argument_count M.entry, params)

  typed : count ≤ 8 → (n : ℕ) → n ≡ count → Typed (take n (drop (entry * 32) methods)) 0 (entry_params M)
  typed few n e j h =
      let q = counted in
      let k : j < n = omega arith in
      let z : 0 + j ≡ j = omega arith in
      rw (z, get_or-take n (drop (entry * 32) methods) j 0 k, get_or-drop (entry * 32) methods j 0, ← em, ← en, H.entry_row)
      (rw params at (H.by_method.argument_type M.entry j (omega (arith, ap length params))))

  pub miscounted : (length given ≡ count → ⊥) → admit (entry_params M) given ≡ none
  miscounted n = unequal (entry_params M) given (λ e. n (e ∙ sym counted))

  module _ (few : count ≤ 8) (n : length given ≡ count) (w : Words given) (m : ℕ) (e : m ≡ length given) where
    pub turned_down : takes_all (take m (drop (entry * 32) methods)) given 0 ≡ false → admit (entry_params M) given ≡ none
    unfolding only_if
    turned_down f = rw f at (admits (entry_params M) given _ 0 (typed few m (e ∙ n)) (n ∙ counted) w)

    pub let_in : takes_all (take m (drop (entry * 32) methods)) given 0 ≡ true → admit (entry_params M) given ≡ some (seen (entry_params M) given 0)
    unfolding only_if
    let_in f = rw f at (admits (entry_params M) given _ 0 (typed few m (e ∙ n)) (n ∙ counted) w)
