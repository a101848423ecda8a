-- The state that is handed back is the layout of the model's, for every budget.
use Prim.Native.Nat.{ℕ, zero, suc, ◌+◌, ◌-◌, ◌*◌, ◌/◌}
use mathlib.Core.Path.{◌≡◌, refl, sym, ap, ◌∙◌}
use mathlib.Core.Logic.{◌⊎◌, inl, inr}
use mathlib.Core.List.{List, ◌∷◌}
use native.Mathlib.Omega.{arith}
use lib.ListN.{get_or, set, length-set}
use lib.Seq.{get_or-set_same, get_or-set_other}
use Rattle.model.specs.Answer.{Answer, bad, ok}
use Rattle.model.specs.Tables.{Module}
use Rattle.model.specs.State.{Frame, state_of, frames_gone}
use Rattle.model.specs.State as Model
use Rattle.model.specs.Step.{Outcome, goes, ends, lowest_free, step}
use Rattle.model.specs.Run.{steps}
use Rattle.loaded.specs.Holds.{Holds}
use Rattle.loaded.specs.declared.Loaded.{Loaded}
use Rattle.state.specs.View.{Work, down, seen, top_of, height_of, running_of, frame_at, waits_of, static_types, heap_of, marks_of, view}
use Rattle.state.specs.Order.{Fine, tables_of, HoldsMade, HoldsTypes, Good, Bounded}
use Rattle.state.specs.Work.{Tables, Went, runs, over, waits, step_w, EndedW, halted_w, finished_w, after_w, run_w, state_seen, ended}
use Rattle.state.specs.Layout.{lay_out, save, tidy}
use Rattle.faithful.proofs.Lists.{Agree, below_set, below_trans}
use Rattle.faithful.proofs.Frames.{frame_kept, below_kept, saved, top_is}
use Rattle.faithful.proofs.Sim.{SimO, Sim}
use Rattle.faithful.proofs.Runs.{step_sim, run_sim}
use Rattle.faithful.proofs.Bounds.{Keeps, step_bounded}
use Rattle.faithful.proofs.Tidy.{tidy_lays}

-- what a run ends with is in order, and all its frames are live or none
pub record Final (M : Module) (r : EndedW) : Type 0 where
  pub good : Good M r.work
  pub lives : (r.live ≡ 0) ⊎ (r.live ≡ suc (r.work.regs.fp / 64))

module _ (M : Module) (fin : Fine M) where
  module _ (c : Work) (g : Good M c) where
    abbrev top : ℕ
    top = g.frames.top

    abbrev noted : List ℕ
    noted = set c.cells (c.regs.fp + 56) c.regs.at

    abbrev kept : List ℕ
    kept = set noted (c.regs.fp + 57) (c.regs.sp - (c.regs.fp + 24))

    as_before : (i : ℕ) → (i ≡ c.regs.fp + 56 → ⊥) → (i ≡ c.regs.fp + 57 → ⊥) → get_or kept i 0 ≡ get_or c.cells i 0
    as_before i p q = get_or-set_other noted (c.regs.fp + 57) i (c.regs.sp - (c.regs.fp + 24)) 0 q ∙ get_or-set_other c.cells (c.regs.fp + 56) i c.regs.at 0 p

    -- the running frame saved is seen like a waiting one
    top_saved : waits_of M (save c) top ≡ running_of M c
    unfolding save waits_of running_of height_of
    top_saved =
        let z = g.frames.framed in let x : top * 64 + 56 ≡ c.regs.fp + 56 = omega arith in
        let y : top * 64 + 57 ≡ c.regs.fp + 57 = omega arith in
        let a : get_or kept (top * 64 + 56) 0 ≡ c.regs.at =
        ap (λ (i : ℕ). get_or kept i 0) x
        ∙ (get_or-set_other noted (c.regs.fp + 57) (c.regs.fp + 56) (c.regs.sp - (c.regs.fp + 24)) 0 (λ e. omega arith) ∙ get_or-set_same c.cells (c.regs.fp + 56) c.regs.at 0 (omega arith)) in
        let d : get_or kept (top * 64 + 57) 0 ≡ c.regs.sp - (c.regs.fp + 24) =
        ap (λ (i : ℕ). get_or kept i 0) y ∙ get_or-set_same noted (c.regs.fp + 57) (c.regs.sp - (c.regs.fp + 24)) 0 (simp length-set (omega arith)) in
        let r : get_or kept (top * 64 + 58) 0 ≡ c.regs.row = as_before (top * 64 + 58) (λ e. omega arith) (λ e. omega arith) ∙ g.frames.running in
        let k : Agree 56 (top * 64) kept c.cells = λ j q. as_before (top * 64 + j) (λ e. omega arith) (λ e. omega arith) in
        rw (a, d, r)
        (frame_kept M fin c (save c) (top * 64) c.regs.row c.regs.at (c.regs.sp - (c.regs.fp + 24)) k (λ j q. refl) (omega arith)
        ∙ ap (λ (p : ℕ). frame_at M c p c.regs.row c.regs.at (c.regs.sp - (c.regs.fp + 24))) (sym z))

    frames_saved : down (waits_of M (save c)) (suc top) ≡ running_of M c ∷ down (waits_of M c) top
    unfolding down save
    frames_saved =
        let b : down (waits_of M (save c)) top ≡ down (waits_of M c) top =
        below_kept M fin c (save c) top
        (below_trans top kept noted c.cells (below_set top (c.regs.fp + 57) (c.regs.sp - (c.regs.fp + 24)) noted (omega arith)) (below_set top (c.regs.fp + 56) c.regs.at c.cells (omega arith)))
        (λ f q j i. refl)
        (saved M fin c g) in
        rw (top_saved, b)

    -- the state seen, some frames being live
    abbrev seen_with : List Frame → Model.State
    seen_with fs = record { frames = fs; statics = seen (static_types M) c.statics 0; marks = marks_of M c.marks; heap = heap_of M c }

    state_saved : (live : ℕ) → (live ≡ 0) ⊎ (live ≡ suc (c.regs.fp / 64)) → seen_with (down (waits_of M (save c)) live) ≡ state_seen M c live
    unfolding state_seen frames_gone state_of view down top_of
    state_saved live (inl e) = rw e
    state_saved live (inr e) =
        let t : c.regs.fp / 64 ≡ top = top_is M fin c g in
        let x : live ≡ suc top = e ∙ ap suc t in
        rw x (rw (t, frames_saved))

  module _ (code : List ℕ) (L : Loaded) (hold : Holds M code L) (cellBytes staticBytes : List ℕ) (types : HoldsTypes M cellBytes staticBytes) where
    -- the arrays of a work in order, wiped, are the layout of the state seen in it
    pub state_lays : (c : Work) → Good M c → (live : ℕ) → (live ≡ 0) ⊎ (live ≡ suc (c.regs.fp / 64)) → tidy L.methods cellBytes staticBytes (save c) live ≡ lay_out (state_seen M c live)
    unfolding save heap_of
    state_lays c g live h =
        tidy_lays M fin code L hold cellBytes staticBytes types (save c) live g.frames.kindly g.marks g.heap
        ∙ ap lay_out (state_saved c g live h)

  module _ (code : List ℕ) (L : Loaded) (hold : Holds M code L) (variables ancestors chosen : List ℕ) (made : HoldsMade M L variables ancestors chosen) where
    abbrev P : Tables
    P = tables_of L variables ancestors chosen

    after_final : (f : ℕ → Work → EndedW) → ((n : ℕ) (c : Work) → Good M c → Final M (f n c)) → (n : ℕ) (c : Work) → Good M c → (a : Answer ℕ Went) (b : Answer ℕ Outcome) → Sim M a b → Final M (after_w f n c a)
    unfolding Sim SimO after_w halted_w finished_w
    after_final f h n c g (bad x) b s = record { good = g; lives = inr refl }
    after_final f h n c g (ok w) (bad y) s = absurd s
    after_final f h n c g (ok (runs d)) (ok (goes t)) s = h (suc n) d s.0
    after_final f h n c g (ok (runs d)) (ok (ends v)) s = absurd s
    after_final f h n c g (ok (over v)) (ok o) s = record { good = g; lives = inl refl }
    after_final f h n c g (ok (waits r)) (ok o) s = absurd s

    pub run_final : (budget n : ℕ) (c : Work) → Good M c → Final M (run_w (tables_of L variables ancestors chosen) code budget n c)
    unfolding run_w halted_w
    run_final zero n c g = record { good = g; lives = inr refl }
    run_final (suc budget) n c g = after_final (run_w P code budget) (run_final budget) n c g (step_w P code c) (step lowest_free M (view M c)) (step_sim M fin code L hold variables ancestors chosen made c g)

    after_bounded : (f : ℕ → Work → EndedW) → ((n : ℕ) (c : Work) → Good M c → Bounded L.counts.methods c → Bounded L.counts.methods (f n c).work)
        → (n : ℕ) (c : Work) → Bounded L.counts.methods c → (a : Answer ℕ Went) (b : Answer ℕ Outcome) → Sim M a b → Keeps L.counts.methods a → Bounded L.counts.methods (after_w f n c a).work
    unfolding Sim SimO Keeps after_w halted_w finished_w
    after_bounded f h n c q (bad x) b s k = q
    after_bounded f h n c q (ok w) (bad y) s k = absurd s
    after_bounded f h n c q (ok (runs d)) (ok (goes t)) s k = h (suc n) d s.0 k
    after_bounded f h n c q (ok (runs d)) (ok (ends v)) s k = absurd s
    after_bounded f h n c q (ok (over v)) (ok o) s k = q
    after_bounded f h n c q (ok (waits r)) (ok o) s k = absurd s

    -- and its registers and saved registers are in range
    pub run_bounded : (budget n : ℕ) (c : Work) → Good M c → Bounded L.counts.methods c → Bounded L.counts.methods (run_w (tables_of L variables ancestors chosen) code budget n c).work
    unfolding run_w halted_w
    run_bounded zero n c g b = b
    run_bounded (suc budget) n c g b =
        after_bounded (run_w P code budget) (run_bounded budget) n c b (step_w P code c) (step lowest_free M (view M c)) (step_sim M fin code L hold variables ancestors chosen made c g)
        (step_bounded M fin code L hold variables ancestors chosen made c g b)

    -- what is handed back is the layout of the model's end, for every budget
    pub run_lays : (cellBytes staticBytes : List ℕ) → HoldsTypes M cellBytes staticBytes → (budget : ℕ) (c : Work) → Good M c
        → tidy L.methods cellBytes staticBytes (save (run_w (tables_of L variables ancestors chosen) code budget 0 c).work) (run_w (tables_of L variables ancestors chosen) code budget 0 c).live
        ≡ lay_out (steps lowest_free M budget 0 (view M c)).state
    unfolding ended
    run_lays cellBytes staticBytes types budget c g =
        let F = run_final budget 0 c g in
        state_lays code L hold cellBytes staticBytes types (run_w P code budget 0 c).work F.good (run_w P code budget 0 c).live F.lives
        ∙ ap (λ r. lay_out r.state) (run_sim M fin code L hold variables ancestors chosen made budget 0 c g)
