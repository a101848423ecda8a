-- The whole run from arguments in bits: the model's for every budget, and the state handed back its layout.
use Prim.Native.Nat.{ℕ, suc, ◌+◌, ◌-◌, ◌%◌, ◌<◌}
use mathlib.Core.Path.{◌≡◌, refl, ap, ◌∙◌}
use mathlib.Core.Bool.{Bool, true, false}
use mathlib.Core.Option.{Option, none, some}
use mathlib.Core.List.{List, [], ◌∷◌}
use native.Mathlib.Omega.{arith}
use lib.ListN.{get_or}
use lib.Dec.{ltb}
use lib.IntN.{pos, negsuc}
use lib.Signed.{mag}
use mir.Syntax.{w32, w64}
use mir.Val.{to_z, of_z, sel}
use borrow.Author.Tests.{ltb-true}
use Rattle.model.specs.Answer.{only_if, map_option}
use Rattle.model.specs.Tables.{Ty, int32, int64, F, null, class, Module, method_at, this_of, arguments}
use Rattle.model.specs.Code.{and_then}
use Rattle.model.specs.Operators.{holds, kind, kind_number}
use Rattle.model.specs.State.{Value, vint32, vint64}
use Rattle.model.specs.Step.{lowest_free}
use Rattle.model.specs.Run.{admit_one, admit, first, steps}
use Rattle.loaded.specs.Holds.{Holds}
use Rattle.loaded.specs.declared.Loaded.{Loaded}
use Rattle.state.specs.View.{kind_of_type, value_by, seen, view}
use Rattle.state.specs.Order.{Fine, tables_of, HoldsMade, HoldsTypes}
use Rattle.state.specs.Work.{EndedW, run_w, ended}
use Rattle.state.specs.Layout.{lay_out, save, tidy, first_w}
use Rattle.faithful.proofs.Seen.{seen_ext}
use Rattle.faithful.proofs.Runs.{run_sim}
use Rattle.faithful.proofs.Ends.{run_lays}
use Rattle.faithful.proofs.Begins.{first_good, first_view}

-- ---- Admission

-- an int64 that an int32 holds keeps its low 32 bits
low_bits : (a : ℕ) → a < 18446744073709551616 → holds w32 (to_z w64 a) ≡ true → a % 4294967296 ≡ of_z w32 (to_z w64 a)
unfolding holds
low_bits a h e = go (ltb a 9223372036854775808) refl e where
  go : (b : Bool) → ltb a 9223372036854775808 ≡ b → ltb (mag (sel b (pos a) (negsuc (18446744073709551616 - suc a)))) 2147483648 ≡ true → a % 4294967296 ≡ of_z w32 (sel b (pos a) (negsuc (18446744073709551616 - suc a)))
  go true t q =
      let s : a < 2147483648 = ltb-true a 2147483648 q in
      omega arith
  go false t q =
      let s : 18446744073709551616 - suc a < 2147483648 = ltb-true (18446744073709551616 - suc a) 2147483648 q in
      omega arith

only_inv : {A : Type 0} (b : Bool) (a v : A) → only_if b (some a) ≡ some v → (b ≡ true) × (a ≡ v)
unfolding only_if
only_inv true a v e = (refl, let q : a ≡ v = cc in q)
only_inv false a v e = let z : ◌≡◌ {A = ℕ} 0 1 = cc in absurd (omega arith)

admits_one : (t : Ty) (a : ℕ) (v : Value) → a < 18446744073709551616 → admit_one t a ≡ some v → value_by (kind_of_type t) a ≡ v
unfolding admit_one value_by kind_of_type kind_number kind
admits_one int32 a v h e =
    let (t, q) = only_inv (holds w32 (to_z w64 a)) (vint32 (of_z w32 (to_z w64 a))) v e in
    ap vint32 (low_bits a h t) ∙ q
admits_one int64 a v h e = let q : vint64 a ≡ v = cc in q
admits_one F a v h e = let z : ◌≡◌ {A = ℕ} 0 1 = cc in absurd (omega arith)
admits_one null a v h e = let z : ◌≡◌ {A = ℕ} 0 1 = cc in absurd (omega arith)
admits_one (class c) a v h e = let z : ◌≡◌ {A = ℕ} 0 1 = cc in absurd (omega arith)

-- the arguments admitted are those seen in the bits that came
pub admits : (ts : List Ty) (l : List ℕ) (vs : List Value) → ((i : ℕ) → get_or l i 0 < 18446744073709551616) → admit ts l ≡ some vs → seen ts l 0 ≡ vs
unfolding admit seen and_then map_option
admits [] [] vs h e = let q : ◌≡◌ {A = List Value} [] vs = cc in q
admits [] (a ∷ l) vs h e = let z : ◌≡◌ {A = ℕ} 0 1 = cc in absurd (omega arith)
admits (t ∷ ts) [] vs h e = let z : ◌≡◌ {A = ℕ} 0 1 = cc in absurd (omega arith)
admits (t ∷ ts) (a ∷ l) vs h e = go (admit_one t a) (admit ts l) (λ v. admits_one t a v (h 0)) (λ ws. admits ts l ws (λ i. h (suc i))) e where
  go : (o : Option Value) (p : Option (List Value)) → ((v : Value) → o ≡ some v → value_by (kind_of_type t) a ≡ v) → ((ws : List Value) → p ≡ some ws → seen ts l 0 ≡ ws)
      → and_then o (λ v. map_option (λ ws. v ∷ ws) p) ≡ some vs → value_by (kind_of_type t) a ∷ seen ts (a ∷ l) 1 ≡ vs
  go none p f k q = let z : ◌≡◌ {A = ℕ} 0 1 = cc in absurd (omega arith)
  go (some v) none f k q = let z : ◌≡◌ {A = ℕ} 0 1 = cc in absurd (omega arith)
  go (some v) (some ws) f k q =
      let w : v ∷ ws ≡ vs = cc in
      let s : seen ts (a ∷ l) 1 ≡ seen ts l 0 = seen_ext ts (a ∷ l) l 1 0 (λ j r. shift j) in
      rw (f v refl, s, k ws refl) w
    where
      shift : (j : ℕ) → get_or (a ∷ l) (1 + j) 0 ≡ get_or l (0 + j) 0
      shift j = let x : 1 + j ≡ suc j = omega arith in let y : 0 + j ≡ j = omega arith in rw (x, y)

-- ---- The whole run

module _ (M : Module) (fin : Fine M) (code : List ℕ) (L : Loaded) (hold : Holds M code L) (variables ancestors chosen : List ℕ) (made : HoldsMade M L variables ancestors chosen) (bits : List ℕ) (vs : List Value)
    (wide : (i : ℕ) → get_or bits i 0 < 18446744073709551616) (admitted : admit (method_at M.methods M.entry).params bits ≡ some vs) where
  -- the run of the arrays from the first work
  abbrev runs : ℕ → EndedW
  runs budget = run_w (tables_of L variables ancestors chosen) code budget 0 (first_w (tables_of L variables ancestors chosen) M.entry bits)

  entry_arguments : arguments (method_at M.methods M.entry) ≡ (method_at M.methods M.entry).params
  unfolding arguments this_of
  entry_arguments = rw fin.entry_static

  begun : view M (first_w (tables_of L variables ancestors chosen) M.entry bits) ≡ first M vs
  begun = first_view M fin code L hold variables ancestors chosen bits ∙ rw (entry_arguments, admits (method_at M.methods M.entry).params bits vs wide admitted)

  -- its ending, place, steps, value and state are the model's
  pub whole_run : (budget : ℕ) → ended M (runs budget) ≡ steps lowest_free M budget 0 (first M vs)
  whole_run budget =
      run_sim M fin code L hold variables ancestors chosen made budget 0 (first_w (tables_of L variables ancestors chosen) M.entry bits) (first_good M fin code L hold variables ancestors chosen bits) ∙ rw begun

  -- and the state handed back is that state's layout
  pub whole_state : (cellBytes staticBytes : List ℕ) → HoldsTypes M cellBytes staticBytes → (budget : ℕ)
      → tidy L.methods cellBytes staticBytes (save (runs budget).work) (runs budget).live ≡ lay_out (steps lowest_free M budget 0 (first M vs)).state
  whole_state cellBytes staticBytes types budget =
      run_lays M fin code L hold variables ancestors chosen made cellBytes staticBytes types budget (first_w (tables_of L variables ancestors chosen) M.entry bits) (first_good M fin code L hold variables ancestors chosen bits) ∙ rw begun
