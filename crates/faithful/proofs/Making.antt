-- newobj on the arrays is the model's through the view.
use Prim.Native.Nat.{ℕ, suc, ◌+◌, ◌-◌, ◌≤◌, ◌<◌}
use mathlib.Core.Path.{◌≡◌, refl, ap, ◌∙◌}
use mathlib.Core.Bool.{Bool, true}
use mathlib.Core.Logic.{◌⊎◌, inl, inr}
use mathlib.Core.Option.{some}
use mathlib.Core.List.{List, ◌∷◌}
use native.Mathlib.Omega.{arith}
use native.Mathlib.Numerals.{add-one}
use lib.ListN.{length, get_or, set, length-set}
use lib.Seq.{get_or-set_same, get_or-set_other}
use lib.Dec.{ltb, eqb}
use borrow.Author.Tests.{lt-ltb, le-ltb}
use Rattle.model.specs.Answer.{Answer, ok, ◌>>=◌, guard, need, at, row}
use Rattle.model.specs.Tables.{class, Sort, constructor, sort_byte, is_sort, Method, Module, method_at, this_of, arguments, due, as_list}
use Rattle.model.specs.Operators.{kind, kind_number}
use Rattle.model.specs.Code.{Act, method_of, constructs}
use Rattle.model.specs.State.{Value, vobject, Object, store, free, new_object, Frame, Machine, enter}
use Rattle.model.specs.Step.{Outcome, Placed, place_at, lowest_free, moved, with_top, push, started_by_call, do_newobj, act}
use Rattle.loaded.specs.Holds.{method_cell}
use Rattle.state.specs.View.{Work, down, span, kind_of_type, refer_to, value_by, seen, top_of, height_of, cell, running_of, frame_at, waits_of, place_in, heap_of, marks_of, view}
use Rattle.state.specs.Order.{Fine, GoodMarks, Good, due_of}
use Rattle.state.specs.Work.{Went, runs, with_regs, with_cells, with_marks, with_heap, sp_of, put, goto, copy_of, fours, entered, room_above, is_token, row_of_token, is_method, newobj_sort, made_w, newobj_row}
use Rattle.faithful.proofs.Lists.{le_or_lt, and_r, length_copy, copy_in, Below, below_set, below_copy, below_trans}
use Rattle.faithful.proofs.Rows.{method_token, sort_is}
use Rattle.faithful.proofs.Frames.{fours_most, stack_put, frames_good, here, put_good, put_view, above_good, above_view, above_stack, marks_good}
use Rattle.faithful.proofs.Heap.{free_seen, free_full, heap_grow, grow_good}
use Rattle.faithful.proofs.Sim.{Sim, Running, Does, H, height, floor, m, stay, height_is, does_only, Typed, fits_from, does_taking, does_enter, does_starting, seen_copied}
use Rattle.faithful.proofs.Calls.{push_marked, arg_types, method_found}

-- ---- An object made

-- an object of class k more, and its reference stored at s, the top of the stack
abbrev grown : Work → ℕ → ℕ → Work
grown c k s =
    with_heap
    (with_regs
    (with_cells c (set c.cells s (suc c.regs.made)) (set c.kinds s 0))
    (record { fp = c.regs.fp; row = c.regs.row; at = c.regs.at; sp = s + 1; made = suc c.regs.made }))
    (set c.classes c.regs.made k)
    c.heap

module _ (M : Module) (fin : Fine M) (c : Work) (g : Good M c) (k s d : ℕ) (x : s ≡ c.regs.fp + 24 + d) (h : d < 32) (w : c.regs.made < 256) (p : 0 < k) where
  grown_good : k ≤ length M.parents → Good M (grown c k s)
  unfolding put goto
  grown_good q =
      let P : Good M (put c c.regs.at s 0 (suc c.regs.made)) = put_good M fin c g c.regs.at s d 0 (suc c.regs.made) x h (omega arith) in
      let F = P.frames in
      record {
        frames = frames_good M fin (put c c.regs.at s 0 (suc c.regs.made)) (grown c k s) F refl refl F.bottom F.deep F.cells_long F.kinds_long F.kindly (λ f q j i. refl) refl;
        statics_long = g.statics_long;
        marks = g.marks;
        heap = grow_good M fin c.regs.made c.classes c.heap g.heap k w p q;
      }

  grown_view : view M (grown c k s)
      ≡ record {
        top = moved (view M c).top c.regs.at (vobject (suc c.regs.made) ∷ down (here M fin c g) d);
        below = (view M c).below;
        statics = (view M c).statics;
        marks = (view M c).marks;
        heap = store (view M c).heap (suc c.regs.made) (new_object M k);
      }
  unfolding put goto view running_of frame_at waits_of heap_of top_of height_of with_top moved value_by refer_to
  grown_view =
      let more : Machine → Machine = λ s. record { top = s.top; below = s.below; statics = s.statics; marks = s.marks; heap = span (place_in M (set c.classes c.regs.made k) c.heap) 0 256 } in
      ap more (put_view M fin c g c.regs.at s d 0 (suc c.regs.made) x h) ∙ rw (heap_grow M fin c.regs.made c.classes c.heap g.heap k w p)

  -- the stack that the caller waits with
  grown_stack : down (cell (set c.kinds s 0) (set c.cells s (suc c.regs.made)) (c.regs.fp + 24)) (d + 1) ≡ vobject (suc c.regs.made) ∷ down (here M fin c g) d
  unfolding value_by refer_to
  grown_stack =
      rw (add-one d, x) (stack_put c.kinds c.cells (c.regs.fp + 24) d 0 (suc c.regs.made) (omega arith) (omega arith))

  -- a frame pushed above
  push_grown : (marks : List Bool) (st : List Value) (f : Frame)
      → push (view M (grown c k s)) marks (view M (grown c k s)).heap st f ≡ push (view M c) marks (store (view M c).heap (suc c.regs.made) (new_object M k)) st f
  unfolding push moved view running_of frame_at
  push_grown marks st f = ap (λ (s : Machine). push s marks s.heap st f) grown_view

module _ (R : Running) where
  abbrev method_of_row : ℕ → Method
  method_of_row r = method_at R.M.methods r

  -- ---- The constructor's frame

  -- the new reference and the values popped from s on, as the constructor's arguments
  abbrev laid : ℕ → ℕ → List ℕ
  laid n s = set (copy_of (fours n) R.c.cells s (R.c.regs.fp + 65) R.c.cells) (R.c.regs.fp + 64) (suc R.c.regs.made)

  laid_long : (n s : ℕ) → length (laid n s) ≡ 2048
  laid_long n s = simp length-set (length_copy (fours n) R.c.cells s (R.c.regs.fp + 65) R.c.cells ∙ R.g.frames.cells_long)

  laid_kept : (n s : ℕ) → Below (suc R.g.frames.top) (laid n s) R.c.cells
  laid_kept n s =
      below_trans (suc R.g.frames.top) (laid n s) (copy_of (fours n) R.c.cells s (R.c.regs.fp + 65) R.c.cells) R.c.cells
      (below_set (suc R.g.frames.top) (R.c.regs.fp + 64) (suc R.c.regs.made) (copy_of (fours n) R.c.cells s (R.c.regs.fp + 65) R.c.cells) (omega arith))
      (below_copy (suc R.g.frames.top) (fours n) R.c.cells s (R.c.regs.fp + 65) R.c.cells (omega arith))

  enter_grown : (n r k s d : ℕ) (marks : List ℕ) (vs : List Value) → s ≡ floor R + d → GoodMarks R.M marks → d < 32 → R.c.regs.made < 256 → 0 < k → k ≤ length R.M.parents → due_of R.M r ≡ 0
      → (R.c.regs.fp < 1984 → seen (arguments (method_of_row r)) (set (laid n s) s (suc R.c.regs.made)) (R.c.regs.fp + 64) ≡ vs)
      → Does R (guard (room_above R.c) 36 >>= λ _. ok (runs (entered R.L.methods (with_marks (grown (with_cells R.c (laid n s) R.c.kinds) k s) marks) r (s + 1))))
      (push (view R.M R.c) (marks_of R.M marks) (store (view R.M R.c).heap (suc R.c.regs.made) (new_object R.M k)) (vobject (suc R.c.regs.made) ∷ down (H R) d) (enter r (method_of_row r) vs))
  unfolding room_above
  enter_grown n r k s d marks vs x gm h w p q void args =
      let A : Good R.M (with_cells R.c (laid n s) R.c.kinds) = above_good R.M R.fin R.c R.g (laid n s) (laid_long n s) (laid_kept n s) in
      let e : view R.M (with_cells R.c (laid n s) R.c.kinds) ≡ view R.M R.c = above_view R.M R.fin R.c R.g (laid n s) (laid_kept n s) in
      let G : Good R.M (grown (with_cells R.c (laid n s) R.c.kinds) k s) = grown_good R.M R.fin (with_cells R.c (laid n s) R.c.kinds) A k s d x h w p q in
      rw (
        push_marked R (grown (with_cells R.c (laid n s) R.c.kinds) k s) marks _ (enter r (method_of_row r) vs),
        push_grown R.M R.fin (with_cells R.c (laid n s) R.c.kinds) A k s d x h w p (marks_of R.M marks) _ (enter r (method_of_row r) vs),
        e,
        grown_stack R.M R.fin (with_cells R.c (laid n s) R.c.kinds) A k s d x h w p,
        above_stack R.M R.fin R.c R.g (laid n s) (laid_kept n s) d (omega arith),
      ) at
      (does_enter R (with_marks (grown (with_cells R.c (laid n s) R.c.kinds) k s) marks) (marks_good R.M R.fin (grown (with_cells R.c (laid n s) R.c.kinds) k s) G marks gm) r (s + 1) (d + 1) (omega arith) (omega arith) vs args)

  -- objects are numbered as made, while a place is free
  does_new : (o : Object) (f : Unit {0} → Answer ℕ Went) (h : Placed → Answer ℕ Outcome)
      → (R.c.regs.made < 256 → Does R (f tt) (h (record { heap = store (view R.M R.c).heap (suc R.c.regs.made) o; number = suc R.c.regs.made })))
      → Does R (guard (ltb R.c.regs.made 256) 37 >>= f) (need (lowest_free (view R.M R.c) o) 37 >>= h)
  unfolding lowest_free place_at view heap_of guard need ◌>>=◌ Does Sim
  does_new o f h s = go (le_or_lt 256 R.c.regs.made) where
    go : (256 ≤ R.c.regs.made) ⊎ (R.c.regs.made < 256) → Does R (guard (ltb R.c.regs.made 256) 37 >>= f) (need (place_at (heap_of R.M R.c) o (free (heap_of R.M R.c))) 37 >>= h)
    go (inl l) = rw (le-ltb R.c.regs.made 256 l, free_full R.M R.fin R.c.regs.made R.c.classes R.c.heap R.g.heap l) refl
    go (inr l) = rw (lt-ltb R.c.regs.made 256 l, free_seen R.M R.fin R.c.regs.made R.c.classes R.c.heap R.g.heap l) (s l)

  with_this : (r : ℕ) → (method_of_row r).sort ≡ constructor → arguments (method_of_row r) ≡ class (method_of_row r).owner ∷ (method_of_row r).params
  unfolding arguments this_of
  with_this r s = rw s

  -- the types of the parameters stand behind that of `this`
  param_types : (r : ℕ) → arguments (method_of_row r) ≡ class (method_of_row r).owner ∷ (method_of_row r).params → Typed R r 1 (method_of_row r).params
  unfolding at
  param_types r a j t e = let x : 1 + j ≡ 0 + suc j = omega arith in rw x (arg_types R r (suc j) t (rw a e))

  laid_seen : (r n s d : ℕ) → s ≡ floor R + d → d < 32 → arguments (method_of_row r) ≡ class (method_of_row r).owner ∷ (method_of_row r).params → n ≡ length (method_of_row r).params → n ≤ 7 → fits_from R r n 1 s ≡ true
      → R.c.regs.fp < 1984 → seen (arguments (method_of_row r)) (set (laid n s) s (suc R.c.regs.made)) (R.c.regs.fp + 64) ≡ vobject (suc R.c.regs.made) ∷ span (H R) d n
  unfolding seen value_by refer_to kind_of_type kind_number kind
  laid_seen r n s d x h a e few fit lo =
      let long = R.g.frames.cells_long in
      let fs = fours_most n 8 (omega arith) (inl refl) in
      let ref : ℕ = suc R.c.regs.made in
      let src : List ℕ = copy_of (fours n) R.c.cells s (R.c.regs.fp + 65) R.c.cells in
      let len : length (copy_of (fours n) R.c.cells s (R.c.regs.fp + 65) R.c.cells) ≡ 2048 = length_copy (fours n) R.c.cells s (R.c.regs.fp + 65) R.c.cells ∙ long in
      let a0 : get_or (set (laid n s) s ref) (R.c.regs.fp + 64) 0 ≡ ref =
      get_or-set_other (laid n s) s (R.c.regs.fp + 64) ref 0 (λ y. omega arith) ∙ get_or-set_same src (R.c.regs.fp + 64) ref 0 (omega arith) in
      let fit' : fits_from R r (length (method_of_row r).params) 1 s ≡ true = rw e at fit in
      let a1 : seen (method_of_row r).params (set (laid n s) s ref) (suc (R.c.regs.fp + 64)) ≡ span (H R) d (length (method_of_row r).params) =
      seen_copied R (method_of_row r).params r 1 s d (set (laid n s) s ref) (suc (R.c.regs.fp + 64)) x (param_types r a) fit'
      (λ j i.
      let y : suc (R.c.regs.fp + 64) + j ≡ R.c.regs.fp + 65 + j = omega arith in
      rw y (get_or-set_other (laid n s) s (R.c.regs.fp + 65 + j) ref 0 (λ v. omega arith)
      ∙ (get_or-set_other src (R.c.regs.fp + 64) (R.c.regs.fp + 65 + j) ref 0 (λ v. omega arith)
      ∙ copy_in (fours n) R.c.cells s (R.c.regs.fp + 65) R.c.cells j (omega arith) (omega arith)))) in
      rw (a, a0, a1, e)

  void_due : (r : ℕ) → row R.M.methods r ≡ some (method_of_row r) → (method_of_row r).sort ≡ constructor → due_of R.M r ≡ 0
  unfolding due_of due as_list
  void_due r e s = rw ((R.fin.method r (method_of_row r) e).constructor_void s)

  newobj_row_lem : (r : ℕ) → row R.M.methods r ≡ some (method_of_row r) → (method_of_row r).sort ≡ constructor
      → Does R (newobj_row R.L.methods R.L.initialisers R.ancestors (stay R) R.c r) (do_newobj lowest_free R.M (view R.M R.c) (m R) r (method_of_row r))
  unfolding newobj_row made_w do_newobj started_by_call view
  newobj_row_lem r e s =
      let F = R.fin.method r (method_of_row r) e in
      let o = F.owned in
      let a : arguments (method_of_row r) ≡ class (method_of_row r).owner ∷ (method_of_row r).params = with_this r s in
      let cnt : method_cell R.L.methods r 28 ≡ length (arguments (method_of_row r)) = R.hold.by_method.argument_count r in
      let cnt' : length (arguments (method_of_row r)) ≡ suc (length (method_of_row r).params) = rw a in
      let n : ℕ = method_cell R.L.methods r 28 - 1 in
      let d : ℕ = height R - n in
      let p : ℕ = sp_of R.c - n in
      let x = (height_is R).0 in
      let ne : method_cell R.L.methods r 28 - 1 ≡ length (method_of_row r).params = omega arith in
      does_taking R (method_of_row r).params r n 1 1 1 _ _ ne refl F.params_named (param_types r a) λ l fit w.
      let y : p ≡ floor R + d = omega arith in
      rw (R.hold.by_method.owner r) (does_starting R (method_of_row r).owner o.0 o.1 _ _ λ marks gm.
      does_new (new_object R.M (method_of_row r).owner) _ _ λ lm.
      enter_grown n r (method_of_row r).owner p d marks _ y gm (omega arith) lm o.0 o.1 (void_due r e s) (laid_seen r n p d y (omega arith) a ne (omega arith) fit))

  pub newobj_does : (t next : ℕ)
      → Does R (guard (is_method R.L.counts.methods R.L.methods newobj_sort t) 42 >>= λ _. newobj_row R.L.methods R.L.initialisers R.ancestors (stay R) R.c (row_of_token t))
      (need (method_of R.M constructs Act.newobj t) 42 >>= λ a. act lowest_free R.M (view R.M R.c) (m R) a next)
  unfolding is_method act constructs is_sort sort_byte
  newobj_does t next =
      rw (method_token R.M constructs Act.newobj t) (does_only R _ _ 42 _ _ _ (rw (R.hold.method_count, R.hold.by_method.sort (row_of_token t))) λ q.
      newobj_row_lem (row_of_token t) (method_found R _ t q)
      (sort_byte_lem (method_of_row (row_of_token t)).sort (rw (R.hold.by_method.sort (row_of_token t)) at (and_r (is_token 6 R.L.counts.methods t) (eqb (method_cell R.L.methods (row_of_token t) 24) 3) q))))
    where
      sort_byte_lem : (s : Sort) → eqb (sort_byte s) 3 ≡ true → s ≡ constructor
      sort_byte_lem s e = sort_is s constructor e
