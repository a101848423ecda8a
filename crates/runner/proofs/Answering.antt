-- From admission to the answer.
use Prim.Native.Nat.{ℕ, ◌≤◌, ◌<◌}
use mathlib.Core.Path.{◌≡◌, sym, ap, subst, ◌∙◌}
use mathlib.Core.Bool.{Bool, true, false, not}
use mathlib.Core.Option.{Option, none, some}
use mathlib.Core.List.{List}
use borrow.Author.Tests.{le-leb, lt-leb, not-true, not-false}
use Rattle.model.specs.Answer.{Answer, ◌>>=◌, guard, need, pick, only_if}
use Rattle.model.specs.Tables.{Module, method_at}
use Rattle.model.specs.Loading.{Refusal, refusal}
use Rattle.model.specs.State.{Value}
use Rattle.model.specs.Step.{lowest_free}
use Rattle.model.specs.Run as Run
use Rattle.model.specs.Run.{admit, first, steps, run_module}
use Rattle.loaded.specs.Holds.{method_cell}
use Rattle.loaded.specs.declared.Loaded.{Loaded}
use Rattle.state.specs.declared.State.{State}
use Rattle.state.specs.Layout.{no_state}
use Rattle.state.specs.Work.{copy_of}
use Rattle.begin_end.specs.Beginning.{with_frames}
use Rattle.runner.specs.Playing.{laid, AllZero, Begun}
use Rattle.runner.specs.declared.Ended.{Ended}
use Rattle.runner.specs.Answers.{refused_by, Tells, Answers}

-- an empty state has nothing in its arrays
pub all_zero : {s : State} → s ≡ no_state → AllZero s
unfolding no_state
all_zero e =
    record {
      no_cells = ap (λ (t : State). t.cells) e;
      no_kinds = ap (λ (t : State). t.kinds) e;
      no_marks = ap (λ (t : State). t.marks) e;
      no_classes = ap (λ (t : State). t.classes) e;
      no_heap = ap (λ (t : State). t.heap) e;
      no_statics = ap (λ (t : State). t.statics) e;
    }

-- with arguments laid in one
module _ (L : Loaded) (given : List ℕ) {s₀ s : State} (z : AllZero s₀)
    (e : s ≡ pick true (with_frames s₀ (copy_of (method_cell L.methods L.counts.entry 28) given 0 0 s₀.cells) s₀.marks) s₀) where
  pub laid_so : s.cells ≡ laid L.methods L.counts.entry given
  unfolding laid pick
  laid_so = ap (λ (t : State). t.cells) e ∙ rw z.no_cells

  pub begun_so : Begun L s
  unfolding pick
  begun_so =
      record {
        given = given;
        arguments = laid_so;
        no_kinds = ap (λ (t : State). t.kinds) e ∙ z.no_kinds;
        no_marks = ap (λ (t : State). t.marks) e ∙ z.no_marks;
        no_classes = ap (λ (t : State). t.classes) e ∙ z.no_classes;
        no_heap = ap (λ (t : State). t.heap) e ∙ z.no_heap;
        no_statics = ap (λ (t : State). t.statics) e ∙ z.no_statics;
      }

module _ (M : Module) (given : List ℕ) (budget : ℕ) (r : Ended) where
  pub not_admitted : admit (method_at M.methods M.entry).params given ≡ none
      → r ≡ refused_by (record { number = 21; place = 0 }) → Answers (run_module M given budget) r
  unfolding Answers run_module need ◌>>=◌ refusal
  not_admitted a h = rw a h

  module _ (vs : List Value) (admitted : admit (method_at M.methods M.entry).params given ≡ some vs) where
    pub over_budget : 1000000 < budget → r ≡ refused_by (record { number = 22; place = 0 }) → Answers (run_module M given budget) r
    unfolding Answers run_module need guard ◌>>=◌ refusal
    over_budget b h = rw (admitted, lt-leb budget 1000000 b) h

    pub was_run : budget ≤ 1000000 → {x : Ended} → r ≡ x → Tells (steps lowest_free M budget 0 (first M vs)) x → Answers (run_module M given budget) r
    unfolding Answers run_module need guard ◌>>=◌
    was_run b {x} e h = rw (admitted, le-leb budget 1000000 b) (subst (Tells (steps lowest_free M budget 0 (first M vs))) (sym e) h)

-- an answer handed on as it is
pub the_same : (a : Answer Refusal Run.Ended) {r x : Ended} → r ≡ x → Answers a x → Answers a r
the_same a e h = subst (Answers a) (sym e) h
