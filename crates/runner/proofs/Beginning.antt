-- What a loaded module gives the beginning of a run, and the first work.
use Prim.Native.Nat.{ℕ, ◌≤◌}
use mathlib.Core.Path.{◌≡◌, refl, ap, ◌∙◌}
use mathlib.Core.Option.{some}
use mathlib.Core.List.{List, []}
use native.Mathlib.Omega.{arith}
use lib.ListN.{replicate}
use Rattle.model.specs.Tables.{Module, Method, no_method, method_at, this_of, arguments}
use Rattle.model.specs.State.{Value}
use Rattle.model.specs.Run.{admit, first}
use Rattle.loaded.specs.Holds.{method_cell, Holds}
use Rattle.loaded.specs.declared.Loaded.{Loaded}
use Rattle.state.specs.View.{Regs, Work, seen, view}
use Rattle.state.specs.Order.{Fine, tables_of, Good}
use Rattle.state.specs.Work.{Tables}
use Rattle.state.specs.declared.State.{State}
use Rattle.state.specs.Layout.{work_of, first_w}
use Rattle.state.specs.Meets.{Few}
use Rattle.across_frames.specs.Lent.{on_leave, RowRanges}
use Rattle.faithful.proofs.Rows.{row_in, every, arguments_few, locals_few, initialiser_few}
use Rattle.faithful.proofs.Begins.{first_good, first_view, first_bounded}
use Rattle.faithful.proofs.Admits.{admits}
use Rattle.begin_end.specs.Admission.{Words}
use Rattle.begin_end.specs.Beginning.{blank_w, with_frames}
use Rattle.machine.specs.Ending.{Sets}
use Rattle.runner.specs.Answers.{Loads}
use Rattle.runner.specs.Playing.{laid, Begun}

-- ---- What is loaded is in range

module _ {code : List ℕ} {L : Loaded} (l : Loads code L) where
  abbrev M : Module
  M = l.module_is

  pub entry_there : L.counts.entry ≤ 128
  entry_there =
      let i = (row_in M.methods M.entry _ l.fine.entry).1 in
      let n = l.fine.methods_few in
      let e = l.holds.entry_row in
      omega arith

  pub arguments_fit : (r : ℕ) → method_cell L.methods r 28 ≤ 8
  arguments_fit r = rw (l.holds.by_method.argument_count r) (arguments_few M l.fine r)

  owner_few : (r : ℕ) → (method_at M.methods r).owner ≤ 32
  unfolding no_method
  owner_few r = every M l.fine (λ (m : Method). m.owner ≤ 32) (λ r m f. let k = l.fine.classes_few in let h = f.owned.1 in omega arith) (omega arith) r

  pub row_ranges : RowRanges L.methods
  row_ranges =
      record {
        owner_few = λ r. rw (l.holds.by_method.owner r) (owner_few r);
        arguments_few = arguments_fit;
        locals_few = λ r. rw (l.holds.by_method.local_count_lem r) (locals_few M l.fine r);
      }

  pub initialisers_few : Few 128 L.initialisers
  initialisers_few = let n = l.fine.methods_few in record { most = λ c. omega (arith, initialiser_few M l.fine c, l.holds.by_class.initialiser c) }

-- ---- The first work

-- the tables that the beginning reads
abbrev pub begins : Loaded → Tables
begins L = tables_of L [] [] []

-- the registers, cells and marks after the first frames, for whatever arguments were laid in the cells
abbrev pub Firsts : Loaded → State → Regs → List ℕ → List ℕ → Type 0
Firsts L s₀ g cells marks =
    (P : Tables) (given : List ℕ) → P.methods ≡ L.methods → P.initialisers ≡ L.initialisers
    → s₀.cells ≡ laid L.methods L.counts.entry given → s₀.marks ≡ replicate 33 0
    → on_leave blank_w g cells (replicate 2048 0) marks (replicate 256 0) ≡ first_w P L.counts.entry given

pub first_work : (L : Loaded) {s₀ s : State} → Begun L s₀ → s ≡ with_frames s₀ s.cells s.marks
    → {g : Regs} → Firsts L s₀ g s.cells s.marks → (given : List ℕ) → s₀.cells ≡ laid L.methods L.counts.entry given
    → work_of g s ≡ first_w (begins L) L.counts.entry given
unfolding tables_of
first_work L {s₀} {s} b r {g} f given e =
    ap (work_of g) r ∙ rw (b.no_kinds, b.no_classes, b.no_heap, b.no_statics) (f (begins L) given refl refl e b.no_marks)

module _ (M : Module) (fin : Fine M) {code : List ℕ} {L : Loaded} (hold : Holds M code L)
    (given : List ℕ) {c : Work} (begun : c ≡ first_w (begins L) L.counts.entry given) where
  at_entry : c ≡ first_w (begins L) M.entry given
  at_entry = begun ∙ ap (λ (r : ℕ). first_w (begins L) r given) hold.entry_row

  pub good_first : Good M c
  good_first = rw at_entry (first_good M fin code L hold [] [] [] given)

  pub sets_first : Sets code L c
  sets_first =
      record {
        module_is = M;
        fine = fin;
        holds = hold;
        good = good_first;
        bounded = rw at_entry (first_bounded M fin code L hold [] [] [] given);
      }

  entry_arguments : arguments (method_at M.methods M.entry) ≡ (method_at M.methods M.entry).params
  unfolding arguments this_of
  entry_arguments = rw fin.entry_static

  pub seen_first : (vs : List Value) → Words given → admit (method_at M.methods M.entry).params given ≡ some vs → view M c ≡ first M vs
  seen_first vs w a =
      let v : view M c ≡ first M (seen (arguments (method_at M.methods M.entry)) given 0) = rw at_entry (first_view M fin code L hold [] [] [] given) in
      v ∙ rw (entry_arguments, admits (method_at M.methods M.entry).params given vs (λ i. (w.word i).fits) a)

-- a loaded module and a state with arguments laid: the loop can begin
pub begins_so : {code : List ℕ} {L : Loaded} {s₀ s : State} (l : Loads code L) → Begun L s₀ → s ≡ with_frames s₀ s.cells s.marks
    → {g : Regs} → Firsts L s₀ g s.cells s.marks → Sets code L (work_of g s)
begins_so l b r f = sets_first l.module_is l.fine l.holds b.given (first_work _ b r f b.given b.arguments)
