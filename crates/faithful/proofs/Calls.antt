-- Calls on the arrays are the model's through the view.
use Prim.Native.Nat.{ℕ, suc, ◌+◌, ◌-◌, ◌≤◌, ◌<◌}
use mathlib.Core.Path.{◌≡◌, refl, ◌∙◌}
use mathlib.Core.Bool.{Bool, true, false, not, ◌&&◌}
use mathlib.Core.Logic.{inl}
use mathlib.Core.Option.{Option, none, some}
use mathlib.Core.List.{List, map}
use native.Mathlib.Omega.{arith}
use lib.ListN.{length}
use lib.Dec.{eqb}
use borrow.Author.Tests.{ne_eqb, eqb-false}
use Rattle.model.specs.Answer.{Answer, ok, ◌>>=◌, guard, need, pick, row}
use Rattle.model.specs.Tables.{Ty, byte_of, sort_byte, is_sort, no_method, method_at, arguments, as_list, due}
use Rattle.model.specs.Loading.{within}
use Rattle.model.specs.Code.{Act, method_of, callable}
use Rattle.model.specs.State.{Value, bits_in, Frame, enter}
use Rattle.model.specs.Step.{Outcome, Allocator, push, started_by_call, do_call, not_null, act}
use Rattle.loaded.specs.Holds.{byte_at, method_cell}
use Rattle.state.specs.View.{Work, down, span, kind_of_type, seen, top_of, height_of, running_of, frame_at, waits_of, heap_of, marks_of, view}
use Rattle.state.specs.Order.{AllNamed, GoodMarks, Good, due_of}
use Rattle.state.specs.Work.{Went, runs, with_cells, with_marks, sp_of, copy_of, fours, entered, room_above, is_token, row_of_token, is_method, call_sort, due_of_byte, invoke_w, call_row}
use Rattle.faithful.proofs.Lists.{and_l, at_in, length_copy, copy_in, Below, below_copy}
use Rattle.faithful.proofs.Seen.{seen_kinds}
use Rattle.faithful.proofs.Rows.{row_is, method_token, token_row, due_named, arguments_few, arguments_named}
use Rattle.faithful.proofs.Frames.{fours_most, above_good, above_view, above_stack, marks_good}
use Rattle.faithful.proofs.Sim.{Sim, Running, Does, H, height, floor, m, stay, height_is, does_only, Typed, fits_from, does_taking, does_enter, does_starting, seen_copied}
use Rattle.faithful.proofs.Values.{byte_named}

-- ---- What is due

due_count : (o : Option Ty) → AllNamed (as_list o) → due_of_byte (byte_at o) ≡ length (as_list o)
unfolding due_of_byte byte_at as_list AllNamed pick
due_count none n = refl
due_count (some t) n = let h = byte_named t n.0 in rw (ne_eqb (byte_of t) 0 (λ e. omega arith))

module _ (R : Running) where
  -- the null test
  pub does_null : (b : ℕ) (v : Value) (f : Unit {0} → Answer ℕ Went) (h : ℕ → Answer ℕ Outcome) → bits_in v ≡ b → ((b ≡ 0 → ⊥) → Does R (f tt) (h b))
      → Does R (guard (not (eqb b 0)) 34 >>= f) (not_null v >>= h)
  unfolding not_null guard ◌>>=◌ Does Sim
  does_null b v f h e s = rw e (go (eqb b 0) refl) where
    go : (t : Bool) → eqb b 0 ≡ t → Does R (guard (not t) 34 >>= f) (guard (not t) 34 >>= (λ _. ok b) >>= h)
    go true q = refl
    go false q = s (eqb-false _ _ q)

  -- ---- Frames entered

  -- other marks change nothing else
  pub push_marked : (d : Work) (marks : List ℕ) (k : List Value) (f : Frame)
      → push (view R.M (with_marks d marks)) (view R.M (with_marks d marks)).marks (view R.M (with_marks d marks)).heap k f ≡ push (view R.M d) (marks_of R.M marks) (view R.M d).heap k f
  unfolding push view running_of frame_at waits_of heap_of top_of height_of
  push_marked d marks k f = refl

  -- a frame entered with arguments laid above the running frame
  enter_above : (l marks : List ℕ) (r s d : ℕ) (vs : List Value) → length l ≡ 2048 → Below (suc R.g.frames.top) l R.c.cells → GoodMarks R.M marks → s ≡ floor R + d → d + due_of R.M r ≤ 32
      → (R.c.regs.fp < 1984 → seen (arguments (method_at R.M.methods r)) l (R.c.regs.fp + 64) ≡ vs)
      → Does R (guard (room_above R.c) 36 >>= λ _. ok (runs (entered R.L.methods (with_marks (with_cells R.c l R.c.kinds) marks) r s)))
      (push (view R.M R.c) (marks_of R.M marks) (view R.M R.c).heap (down (H R) d) (enter r (method_at R.M.methods r) vs))
  unfolding room_above
  enter_above l marks r s d vs long same gm x room args =
      let G : Good R.M (with_cells R.c l R.c.kinds) = above_good R.M R.fin R.c R.g l long same in
      let e : view R.M (with_cells R.c l R.c.kinds) ≡ view R.M R.c = above_view R.M R.fin R.c R.g l same in
      rw (push_marked (with_cells R.c l R.c.kinds) marks _ (enter r (method_at R.M.methods r) vs), e, above_stack R.M R.fin R.c R.g l same d (omega arith)) at
      (does_enter R (with_marks (with_cells R.c l R.c.kinds) marks) (marks_good R.M R.fin (with_cells R.c l R.c.kinds) G marks gm) r s d x room vs args)

  -- the types of a method's arguments
  pub arg_types : (r : ℕ) → Typed R r 0 (arguments (method_at R.M.methods r))
  unfolding byte_at
  arg_types r j t e =
      let few = arguments_few R.M R.fin r in
      let ins = at_in (arguments (method_at R.M.methods r)) j t e in
      let x : 0 + j ≡ j = omega arith in
      rw x (R.hold.by_method.argument_type r j (omega arith) ∙ rw e)

  pub due_is : (r : ℕ) → due_of_byte (method_cell R.L.methods r 26) ≡ length (due (method_at R.M.methods r))
  unfolding due
  due_is r = rw (R.hold.by_method.returns r) (due_count (method_at R.M.methods r).returns (due_named R.M R.fin r))

  -- the frame of r, which takes what the method `named` takes
  pub enter_handed : (named r n s d : ℕ) (marks : List ℕ) → n ≡ method_cell R.L.methods named 28 → s ≡ floor R + d → GoodMarks R.M marks
      → map kind_of_type (arguments (method_at R.M.methods r)) ≡ map kind_of_type (arguments (method_at R.M.methods named)) → d + due_of R.M r ≤ 32 → fits_from R named n 0 s ≡ true
      → Does R (guard (room_above R.c) 36 >>= λ _. ok (runs (entered R.L.methods (with_marks (with_cells R.c (copy_of (fours n) R.c.cells s (R.c.regs.fp + 64) R.c.cells) R.c.kinds) marks) r s)))
      (push (view R.M R.c) (marks_of R.M marks) (view R.M R.c).heap (down (H R) d) (enter r (method_at R.M.methods r) (span (H R) d n)))
  enter_handed named r n s d marks q x gm kinds room fit =
      let long = R.g.frames.cells_long in
      let cnt : n ≡ length (arguments (method_at R.M.methods named)) = q ∙ R.hold.by_method.argument_count named in
      let few = arguments_few R.M R.fin named in
      let fs = fours_most n 8 (omega arith) (inl refl) in
      let to : ℕ = R.c.regs.fp + 64 in
      let fit' : fits_from R named (length (arguments (method_at R.M.methods named))) 0 s ≡ true = rw cnt at fit in
      enter_above (copy_of (fours n) R.c.cells s to R.c.cells) marks r s d _
      (length_copy (fours n) R.c.cells s to R.c.cells ∙ long)
      (below_copy (suc R.g.frames.top) (fours n) R.c.cells s to R.c.cells (omega arith))
      gm x room
      (λ low. seen_kinds (arguments (method_at R.M.methods r)) (arguments (method_at R.M.methods named)) _ to kinds
      ∙ (seen_copied R (arguments (method_at R.M.methods named)) named 0 s d _ to x (arg_types named) fit'
      (λ j i. copy_in (fours n) R.c.cells s to R.c.cells j (omega arith) (omega arith))
      ∙ rw (← cnt)))

  pub due_room : (r d : ℕ) → d + length (due (method_at R.M.methods r)) ≤ 32 → d + due_of R.M r ≤ 32
  unfolding due_of
  due_room r d h = h

  pub owned : (r : ℕ) → row R.M.methods r ≡ some (method_at R.M.methods r) → (0 < (method_at R.M.methods r).owner) × ((method_at R.M.methods r).owner ≤ length R.M.parents)
  owned r e = (R.fin.method r _ e).owned

  call_row_lem : (r : ℕ) → row R.M.methods r ≡ some (method_at R.M.methods r) → Does R (call_row R.L.methods R.L.initialisers R.ancestors (stay R) R.c r) (do_call R.M (view R.M R.c) (m R) r (method_at R.M.methods r))
  unfolding call_row invoke_w do_call started_by_call view
  call_row_lem r e =
      let o = owned r e in
      let x = (height_is R).0 in
      does_taking R (arguments (method_at R.M.methods r)) r (method_cell R.L.methods r 28) 0 _ _ _ _ (R.hold.by_method.argument_count r) (due_is r) (arguments_named R.M R.fin r) (arg_types r) λ l q w.
      rw (R.hold.by_method.owner r) (does_starting R (method_at R.M.methods r).owner o.0 o.1 _ _ λ marks gm.
      enter_handed r r (method_cell R.L.methods r 28) (sp_of R.c - method_cell R.L.methods r 28) (height R - method_cell R.L.methods r 28) marks refl (omega arith) gm refl (due_room r _ w) q)

  pub method_found : (b : Bool) (t : ℕ) → (is_token 6 R.L.counts.methods t && b) ≡ true → row R.M.methods (row_of_token t) ≡ some (method_at R.M.methods (row_of_token t))
  unfolding method_at
  method_found b t e =
      let q : within 1 R.L.counts.methods (row_of_token t) ≡ true = token_row 6 R.L.counts.methods t (and_l (is_token 6 R.L.counts.methods t) b e) in
      row_is R.M.methods (row_of_token t) no_method (rw R.hold.method_count at q)

  pub call_does : (new : Allocator) (t next : ℕ)
      → Does R (guard (is_method R.L.counts.methods R.L.methods call_sort t) 42 >>= λ _. call_row R.L.methods R.L.initialisers R.ancestors (stay R) R.c (row_of_token t))
      (need (method_of R.M callable Act.call t) 42 >>= λ a. act new R.M (view R.M R.c) (m R) a next)
  unfolding is_method act callable is_sort sort_byte
  call_does new t next =
      rw (method_token R.M callable Act.call t) (does_only R _ _ 42 _ _ _ (rw (R.hold.method_count, R.hold.by_method.sort (row_of_token t))) λ q.
      call_row_lem (row_of_token t) (method_found _ t q))
