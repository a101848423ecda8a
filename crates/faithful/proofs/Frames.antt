-- What a change of the arrays does to the frames that are seen in them, and that the arrays stay in order.
use Prim.Native.Nat.{ℕ, zero, suc, ◌+◌, ◌-◌, ◌*◌, ◌/◌, ◌≤◌, ◌<◌}
use mathlib.Core.Path.{◌≡◌, refl, sym, ap, ◌∙◌}
use mathlib.Core.Logic.{◌⊎◌, inl, inr}
use mathlib.Core.Option.{some}
use mathlib.Core.List.{List, [], ◌∷◌, ◌++◌, map}
use native.Mathlib.Omega.{arith}
use native.Mathlib.Nat.{add-zero}
use lib.ListN.{length, get_or, set, length-set}
use lib.Seq.{get_or-set_same, get_or-set_other}
use lib.Dec.{leb, eqb}
use borrow.Author.Tests.{le-leb, lt-leb, eq-eqb, ne_eqb}
use Rattle.model.specs.Answer.{pick, at}
use Rattle.model.specs.Tables.{Ty, Method, Module, method_at, arguments}
use Rattle.model.specs.State.{Value, zero_of, enter}
use Rattle.model.specs.Step.{moved, with_top}
use Rattle.loaded.specs.Holds.{method_cell}
use Rattle.state.specs.View.{Work, down, span, kind_of_type, value_by, seen, cell, frame_at, at_of, depth_of, method_of, top_of, height_of, running_of, waits_of, heap_of, view}
use Rattle.state.specs.Order.{Fine, GoodFrames, GoodMarks, Good, due_of}
use Rattle.state.specs.Work.{with_cells, with_marks, kind_at, bits_at, goto, put, copy_of, fours, entered, left}
use Rattle.faithful.proofs.Lists.{le_or_lt, is_or_not, down_ext, at_in, length_copy, copy_in, copy_out, small_set, small_copy, Agree, agree_part, Below, below_set, below_copy}
use Rattle.faithful.proofs.Seen.{seen_ext, seen_set, seen_zeros}
use Rattle.faithful.proofs.Rows.{arguments_few, locals_few}

-- ---- Stacks

-- a push
pub stack_put : (k b : List ℕ) (base d x y : ℕ) → base + d < length k → base + d < length b
    → down (cell (set k (base + d) x) (set b (base + d) y) base) (suc d) ≡ value_by x y ∷ down (cell k b base) d
unfolding down cell
stack_put k b base d x y p q =
    let r : down (cell (set k (base + d) x) (set b (base + d) y) base) d ≡ down (cell k b base) d =
    down_ext _ _ d (λ j h. rw (get_or-set_other k (base + d) (base + j) x 0 (λ z. omega arith), get_or-set_other b (base + d) (base + j) y 0 (λ z. omega arith))) in
    rw (r, get_or-set_same k (base + d) x 0 p, get_or-set_same b (base + d) y 0 q)

-- the same cells
stack_same : (k b l e : List ℕ) (p d : ℕ) → Agree d p k l → Agree d p b e → down (cell k b p) d ≡ down (cell l e p) d
unfolding cell
stack_same k b l e p d x y = down_ext _ _ d (λ j i. rw (x j i, y j i))

-- ---- Frames

frame_number : (p t : ℕ) → p ≡ t * 64 → p / 64 ≡ t
frame_number p t e = omega arith

-- cells and stacks are cleared and copied by fours
pub fours_most : (n m : ℕ) → n ≤ m → (m ≡ 8) ⊎ (m ≡ 16) → (n ≤ fours n) × (fours n ≤ m)
unfolding fours pick
fours_most n m h o = go (is_or_not n 0) (le_or_lt n 4) (le_or_lt n 8) o where
  go : (n ≡ 0) ⊎ (n ≡ 0 → ⊥) → (n ≤ 4) ⊎ (4 < n) → (n ≤ 8) ⊎ (8 < n) → (m ≡ 8) ⊎ (m ≡ 16)
      → (n ≤ pick (eqb n 0) 0 (pick (leb n 4) 4 (pick (leb n 8) 8 16))) × (pick (eqb n 0) 0 (pick (leb n 4) 4 (pick (leb n 8) 8 16)) ≤ m)
  go (inl e) x y z = rw (eq-eqb n 0 e) (omega arith, omega arith)
  go (inr e) (inl x) y (inl z) = rw (ne_eqb n 0 e, le-leb n 4 x) (omega arith, omega arith)
  go (inr e) (inl x) y (inr z) = rw (ne_eqb n 0 e, le-leb n 4 x) (omega arith, omega arith)
  go (inr e) (inr x) (inl y) (inl z) = rw (ne_eqb n 0 e, lt-leb n 4 x, le-leb n 8 y) (omega arith, omega arith)
  go (inr e) (inr x) (inl y) (inr z) = rw (ne_eqb n 0 e, lt-leb n 4 x, le-leb n 8 y) (omega arith, omega arith)
  go (inr e) (inr x) (inr y) (inl z) = absurd (omega arith)
  go (inr e) (inr x) (inr y) (inr z) = rw (ne_eqb n 0 e, lt-leb n 4 x, lt-leb n 8 y) (omega arith, omega arith)

module _ (M : Module) (fin : Fine M) where
  -- arguments and locals that are the same
  args_kept : (l k : List ℕ) (p r : ℕ) → Agree 24 p l k → seen (arguments (method_at M.methods r)) l p ≡ seen (arguments (method_at M.methods r)) k p
  args_kept l k p r a = let few = arguments_few M fin r in seen_ext (arguments (method_at M.methods r)) l k p p (λ j q. a j (omega arith))

  locals_kept : (l k : List ℕ) (p r : ℕ) → Agree 24 p l k → seen (method_at M.methods r).locals l (p + 8) ≡ seen (method_at M.methods r).locals k (p + 8)
  locals_kept l k p r a =
      let few = locals_few M fin r in
      seen_ext (method_at M.methods r).locals l k (p + 8) (p + 8) (λ j q. agree_part 24 p 8 16 l k a (omega arith) j (omega arith))

  pub frame_kept : (c d : Work) (p r o n : ℕ) → Agree 56 p d.cells c.cells → Agree 56 p d.kinds c.kinds → n ≤ 32 → frame_at M d p r o n ≡ frame_at M c p r o n
  unfolding frame_at
  frame_kept c d p r o n a b h =
      rw (
        args_kept d.cells c.cells p r (λ j q. a j (omega arith)),
        locals_kept d.cells c.cells p r (λ j q. a j (omega arith)),
        stack_same d.kinds d.cells c.kinds c.cells (p + 24) n (agree_part 56 p 24 n d.kinds c.kinds b (omega arith)) (agree_part 56 p 24 n d.cells c.cells a (omega arith)),
      )

  waits_kept : (c d : Work) (f : ℕ) → Agree 64 (f * 64) d.cells c.cells → Agree 64 (f * 64) d.kinds c.kinds → depth_of c.cells f ≤ 32 → waits_of M d f ≡ waits_of M c f
  unfolding waits_of
  waits_kept c d f a b h = rw (a 56 (omega arith), a 57 (omega arith), a 58 (omega arith)) (frame_kept c d (f * 64) _ _ _ (λ j q. a j (omega arith)) (λ j q. b j (omega arith)) h)

  -- the waiting frames below t
  pub below_kept : (c d : Work) (t : ℕ) → Below t d.cells c.cells → Below t d.kinds c.kinds → ((f : ℕ) → f < t → depth_of c.cells f ≤ 32) → down (waits_of M d) t ≡ down (waits_of M c) t
  below_kept c d t a b h = down_ext _ _ t (λ f l. waits_kept c d f (a f l) (b f l) (h f l))

  -- they keep their room
  room_kept : (t : ℕ) (l k : List ℕ) → Below t l k → method_of l t ≡ method_of k t → ((f : ℕ) → f < t → depth_of k f + due_of M (method_of k (suc f)) ≤ 32) → (f : ℕ) → f < t → depth_of l f + due_of M (method_of l (suc f)) ≤ 32
  room_kept t l k a e h f q = rw (a f q 57 (omega arith)) (go (is_or_not (suc f) t)) where
    go : (suc f ≡ t) ⊎ (suc f ≡ t → ⊥) → depth_of k f + due_of M (method_of l (suc f)) ≤ 32
    go (inl s) = let w : method_of l (suc f) ≡ method_of k (suc f) = rw s e in rw w (h f q)
    go (inr s) = rw (a (suc f) (omega arith) 58 (omega arith)) (h f q)

  -- the same frames, the cells from the running one on changed
  pub frames_good : (c d : Work) (G : GoodFrames M c) → d.regs.fp ≡ c.regs.fp → d.regs.row ≡ c.regs.row → c.regs.fp + 24 ≤ d.regs.sp → d.regs.sp ≤ c.regs.fp + 56
      → length d.cells ≡ 2048 → length d.kinds ≡ 2048 → ((i : ℕ) → get_or d.kinds i 0 ≤ 3) → Below G.top d.cells c.cells → method_of d.cells G.top ≡ method_of c.cells G.top → GoodFrames M d
  frames_good c d G p r lo hi cl kl ks a e =
      record {
        top = G.top;
        framed = p ∙ G.framed;
        low = G.low;
        bottom = rw p lo;
        deep = rw p hi;
        cells_long = cl;
        kinds_long = kl;
        kindly = ks;
        running = e ∙ (G.running ∙ sym r);
        room = room_kept G.top d.cells c.cells a e G.room;
      }

  module _ (c : Work) (g : Good M c) where
    -- the stack of the running frame
    abbrev pub here : ℕ → Value
    here = cell c.kinds c.cells (c.regs.fp + 24)

    abbrev top : ℕ
    top = g.frames.top

    pub saved : (f : ℕ) → f < top → depth_of c.cells f ≤ 32
    saved f l = let h = g.frames.room f l in omega arith

    pub top_is : top_of c ≡ top
    unfolding top_of
    top_is = frame_number c.regs.fp top g.frames.framed

    -- ---- The running frame

    pub goto_good : (o s d : ℕ) → s ≡ c.regs.fp + 24 + d → d ≤ 32 → Good M (goto c o s)
    unfolding goto
    goto_good o s d e h =
        let G = g.frames in
        record { frames = frames_good c (goto c o s) G refl refl (omega arith) (omega arith) G.cells_long G.kinds_long G.kindly (λ f q j i. refl) refl; statics_long = g.statics_long; marks = g.marks; heap = g.heap }

    pub goto_view : (o s d : ℕ) → s ≡ c.regs.fp + 24 + d → view M (goto c o s) ≡ with_top (view M c) (moved (view M c).top o (down here d))
    unfolding goto view with_top moved running_of frame_at waits_of heap_of top_of height_of
    goto_view o s d e = let x : s - (c.regs.fp + 24) ≡ d = omega arith in rw x

    pub put_good : (o s d k b : ℕ) → s ≡ c.regs.fp + 24 + d → d < 32 → k ≤ 3 → Good M (put c o s k b)
    unfolding put goto
    put_good o s d k b e h q =
        let G = g.frames in record {
          frames = frames_good c (put c o s k b) G refl refl (omega arith) (omega arith) (simp length-set G.cells_long) (simp length-set G.kinds_long) (λ j. small_set c.kinds s j k 3 G.kindly q)
              (below_set top s b c.cells (omega arith)) (get_or-set_other c.cells s _ b 0 (λ x. omega arith));
          statics_long = g.statics_long;
          marks = g.marks;
          heap = g.heap;
        }

    pub put_view : (o s d k b : ℕ) → s ≡ c.regs.fp + 24 + d → d < 32 → view M (put c o s k b) ≡ with_top (view M c) (moved (view M c).top o (value_by k b ∷ down here d))
    unfolding put goto view with_top moved running_of frame_at heap_of top_of height_of
    put_view o s d k b e h =
        let t : c.regs.fp / 64 ≡ top = top_is in
        let r : down (waits_of M (put c o s k b)) top ≡ down (waits_of M c) top =
        below_kept c (put c o s k b) top (below_set top s b c.cells (omega arith)) (below_set top s k c.kinds (omega arith)) saved in
        let v : Agree 24 c.regs.fp (set c.cells s b) c.cells = λ j q. get_or-set_other c.cells s (c.regs.fp + j) b 0 (λ x. omega arith) in
        let x : s + 1 - (c.regs.fp + 24) ≡ suc d = omega arith in
        rw (t, r, x, args_kept (set c.cells s b) c.cells c.regs.fp c.regs.row v, locals_kept (set c.cells s b) c.cells c.regs.fp c.regs.row v, e)
        (rw (stack_put c.kinds c.cells (c.regs.fp + 24) d k b (omega arith) (omega arith)))

    -- a store of an argument or a local
    pub store_good : (i v : ℕ) → i < 24 → Good M (with_cells c (set c.cells (c.regs.fp + i) v) c.kinds)
    store_good i v h =
        let G = g.frames in record {
          frames = frames_good c (with_cells c (set c.cells (c.regs.fp + i) v) c.kinds) G refl refl G.bottom G.deep (simp length-set G.cells_long) G.kinds_long G.kindly
              (below_set top (c.regs.fp + i) v c.cells (omega arith)) (get_or-set_other c.cells (c.regs.fp + i) _ v 0 (λ x. omega arith));
          statics_long = g.statics_long;
          marks = g.marks;
          heap = g.heap;
        }

    -- the waiting frames and the running one's stack stay
    store_below : (i v : ℕ) → i < 24 → down (waits_of M (with_cells c (set c.cells (c.regs.fp + i) v) c.kinds)) top ≡ down (waits_of M c) top
    store_below i v h =
        below_kept c (with_cells c (set c.cells (c.regs.fp + i) v) c.kinds) top (below_set top (c.regs.fp + i) v c.cells (omega arith)) (λ f q j x. refl) saved

    store_stack : (i v d : ℕ) → i < 24 → down (cell c.kinds (set c.cells (c.regs.fp + i) v) (c.regs.fp + 24)) d ≡ down here d
    store_stack i v d h =
        stack_same c.kinds (set c.cells (c.regs.fp + i) v) c.kinds c.cells (c.regs.fp + 24) d (λ j x. refl) (λ j x. get_or-set_other c.cells (c.regs.fp + i) (c.regs.fp + 24 + j) v 0 (λ e. omega arith))

    pub starg_view : (i v : ℕ) (t : Ty) → at (arguments (method_at M.methods c.regs.row)) i ≡ some t
        → view M (with_cells c (set c.cells (c.regs.fp + i) v) c.kinds)
        ≡ with_top (view M c) (record { method = (view M c).top.method; offset = (view M c).top.offset; args = set (view M c).top.args i (value_by (kind_of_type t) v); locals = (view M c).top.locals; stack = (view M c).top.stack })
    unfolding view with_top running_of frame_at heap_of top_of height_of
    starg_view i v t a =
        let few = arguments_few M fin c.regs.row in
        let ins = at_in _ _ _ a in
        let t' : c.regs.fp / 64 ≡ top = top_is in
        let ls : seen (method_at M.methods c.regs.row).locals (set c.cells (c.regs.fp + i) v) (c.regs.fp + 8) ≡ seen (method_at M.methods c.regs.row).locals c.cells (c.regs.fp + 8) =
        seen_ext _ _ _ _ _ (λ j q. get_or-set_other c.cells (c.regs.fp + i) (c.regs.fp + 8 + j) v 0 (λ e. omega arith)) in
        rw (
          t',
          store_below i v (omega arith),
          store_stack i v (c.regs.sp - (c.regs.fp + 24)) (omega arith),
          ls,
          seen_set (arguments (method_at M.methods c.regs.row)) c.cells c.regs.fp i v t a (omega arith),
        )

    pub stloc_view : (i v : ℕ) (t : Ty) → at (method_at M.methods c.regs.row).locals i ≡ some t
        → view M (with_cells c (set c.cells (c.regs.fp + (8 + i)) v) c.kinds)
        ≡ with_top (view M c) (record { method = (view M c).top.method; offset = (view M c).top.offset; args = (view M c).top.args; locals = set (view M c).top.locals i (value_by (kind_of_type t) v); stack = (view M c).top.stack })
    unfolding view with_top running_of frame_at heap_of top_of height_of
    stloc_view i v t a =
        let few = locals_few M fin c.regs.row in
        let many = arguments_few M fin c.regs.row in
        let ins = at_in _ _ _ a in
        let t' : c.regs.fp / 64 ≡ top = top_is in
        let x : c.regs.fp + (8 + i) ≡ c.regs.fp + 8 + i = omega arith in
        let args : seen (arguments (method_at M.methods c.regs.row)) (set c.cells (c.regs.fp + (8 + i)) v) c.regs.fp ≡ seen (arguments (method_at M.methods c.regs.row)) c.cells c.regs.fp =
        seen_ext _ _ _ _ _ (λ j q. get_or-set_other c.cells (c.regs.fp + (8 + i)) (c.regs.fp + j) v 0 (λ e. omega arith)) in
        rw (t', store_below (8 + i) v (omega arith), store_stack (8 + i) v (c.regs.sp - (c.regs.fp + 24)) (omega arith), args)
        (rw x (rw (seen_set (method_at M.methods c.regs.row).locals c.cells (c.regs.fp + 8) i v t a (omega arith))))

    -- cells of frames to come
    pub above_good : (l : List ℕ) → length l ≡ 2048 → Below (suc top) l c.cells → Good M (with_cells c l c.kinds)
    above_good l h a =
        let G = g.frames in
        record {
          frames = frames_good c (with_cells c l c.kinds) G refl refl G.bottom G.deep h G.kinds_long G.kindly (λ f q. a f (omega arith)) (a top (omega arith) 58 (omega arith));
          statics_long = g.statics_long;
          marks = g.marks;
          heap = g.heap;
        }

    pub above_view : (l : List ℕ) → Below (suc top) l c.cells → view M (with_cells c l c.kinds) ≡ view M c
    unfolding view running_of heap_of top_of height_of
    above_view l a =
        let G = g.frames in let z = G.framed in let t : c.regs.fp / 64 ≡ top = top_is in
        let here_same : Agree 56 c.regs.fp l c.cells = λ j q. rw z (a top (omega arith) j (omega arith)) in
        rw (
          t,
          below_kept c (with_cells c l c.kinds) top (λ f q. a f (omega arith)) (λ f q j x. refl) saved,
          frame_kept c (with_cells c l c.kinds) c.regs.fp c.regs.row c.regs.at (c.regs.sp - (c.regs.fp + 24)) here_same (λ j q. refl) (omega arith),
        )

    pub above_stack : (l : List ℕ) → Below (suc top) l c.cells → (d : ℕ) → d ≤ 32 → down (cell c.kinds l (c.regs.fp + 24)) d ≡ down here d
    above_stack l a d h =
        stack_same c.kinds l c.kinds c.cells (c.regs.fp + 24) d (λ j q. refl) (λ j q. let x : c.regs.fp + 24 + j ≡ top * 64 + (24 + j) = omega arith in rw x (a top (omega arith) (24 + j) (omega arith)))

    -- ---- Marks

    pub marks_good : (l : List ℕ) → GoodMarks M l → Good M (with_marks c l)
    marks_good l h =
        let G = g.frames in
        record { frames = frames_good c (with_marks c l) G refl refl G.bottom G.deep G.cells_long G.kinds_long G.kindly (λ f q j i. refl) refl; statics_long = g.statics_long; marks = h; heap = g.heap }

    -- ---- A frame entered

    module _ (methods : List ℕ) (r s d : ℕ) (count : method_cell methods r 29 ≡ length (method_at M.methods r).locals) (height : s ≡ c.regs.fp + 24 + d) (lo : suc top < 32) where
      abbrev N : Work
      N = entered methods c r s

      abbrev m : Method
      m = method_at M.methods r

      -- what is saved, before the locals are cleared
      abbrev noted_at : List ℕ
      noted_at = set c.cells (c.regs.fp + 56) c.regs.at

      abbrev noted_height : List ℕ
      noted_height = set noted_at (c.regs.fp + 57) (s - (c.regs.fp + 24))

      abbrev noted : List ℕ
      noted = set noted_height (c.regs.fp + 122) r

      clears : (length m.locals ≤ fours (method_cell methods r 29)) × (fours (method_cell methods r 29) ≤ 16)
      clears = let few = locals_few M fin r in rw count (fours_most (length m.locals) 16 few (inr refl))

      noted_long : length noted ≡ 2048
      noted_long = simp length-set g.frames.cells_long

      -- outside the new frame's locals
      past_locals : (i : ℕ) → (i < c.regs.fp + 72) ⊎ (c.regs.fp + 88 ≤ i) → get_or N.cells i 0 ≡ get_or noted i 0
      unfolding entered
      past_locals i (inl h) = copy_out (fours (method_cell methods r 29)) [] 0 (c.regs.fp + 72) noted i (inl h)
      past_locals i (inr h) = let k = clears.1 in copy_out (fours (method_cell methods r 29)) [] 0 (c.regs.fp + 72) noted i (inr (omega arith))

      -- and outside what is saved
      as_before : (i : ℕ) → i < c.regs.fp + 72 → (i ≡ c.regs.fp + 56 → ⊥) → (i ≡ c.regs.fp + 57 → ⊥) → get_or N.cells i 0 ≡ get_or c.cells i 0
      as_before i h p q =
          past_locals i (inl h)
          ∙ (get_or-set_other noted_height (c.regs.fp + 122) i r 0 (λ e. omega arith) ∙ (get_or-set_other noted_at (c.regs.fp + 57) i (s - (c.regs.fp + 24)) 0 q ∙ get_or-set_other c.cells (c.regs.fp + 56) i c.regs.at 0 p))

      new_row : get_or N.cells (c.regs.fp + 122) 0 ≡ r
      new_row =
          past_locals (c.regs.fp + 122) (inr (omega arith)) ∙ get_or-set_same noted_height (c.regs.fp + 122) r 0 (simp length-set (omega arith))

      saved_at : get_or N.cells (c.regs.fp + 56) 0 ≡ c.regs.at
      saved_at =
          past_locals (c.regs.fp + 56) (inl (omega arith))
          ∙ (get_or-set_other noted_height (c.regs.fp + 122) (c.regs.fp + 56) r 0 (λ e. omega arith)
          ∙ (get_or-set_other noted_at (c.regs.fp + 57) (c.regs.fp + 56) (s - (c.regs.fp + 24)) 0 (λ e. omega arith)
          ∙ get_or-set_same c.cells (c.regs.fp + 56) c.regs.at 0 (omega arith)))

      saved_height : get_or N.cells (c.regs.fp + 57) 0 ≡ d
      saved_height =
          let x : s - (c.regs.fp + 24) ≡ d = omega arith in
          past_locals (c.regs.fp + 57) (inl (omega arith))
          ∙ (get_or-set_other noted_height (c.regs.fp + 122) (c.regs.fp + 57) r 0 (λ e. omega arith) ∙ (get_or-set_same noted_at (c.regs.fp + 57) (s - (c.regs.fp + 24)) 0 (simp length-set (omega arith)) ∙ x))

      below_same : Below top N.cells c.cells
      below_same f q j i = as_before (f * 64 + j) (omega arith) (λ e. omega arith) (λ e. omega arith)

      row_same : get_or N.cells (top * 64 + 58) 0 ≡ get_or c.cells (top * 64 + 58) 0
      row_same = as_before (top * 64 + 58) (omega arith) (λ e. omega arith) (λ e. omega arith)

      entered_room : d + due_of M r ≤ 32 → (f : ℕ) → f < suc top → depth_of N.cells f + due_of M (method_of N.cells (suc f)) ≤ 32
      entered_room h f q = go (is_or_not f top) where
        go : (f ≡ top) ⊎ (f ≡ top → ⊥) → depth_of N.cells f + due_of M (method_of N.cells (suc f)) ≤ 32
        go (inl e) =
            let x : f * 64 + 57 ≡ c.regs.fp + 57 = omega arith in
            let y : suc f * 64 + 58 ≡ c.regs.fp + 122 = omega arith in
            let u : get_or N.cells (f * 64 + 57) 0 ≡ d = ap (λ (i : ℕ). get_or N.cells i 0) x ∙ saved_height in
            let w : get_or N.cells (suc f * 64 + 58) 0 ≡ r = ap (λ (i : ℕ). get_or N.cells i 0) y ∙ new_row in
            rw (u, w) h
        go (inr n) = room_kept top N.cells c.cells below_same row_same g.frames.room f (omega arith)

      pub entered_good : d + due_of M r ≤ 32 → Good M (entered methods c r s)
      unfolding entered
      entered_good h =
          let y : suc top * 64 + 58 ≡ c.regs.fp + 122 = omega arith in
          record {
            frames = record {
              top = suc top;
              framed = omega arith;
              low = lo;
              bottom = omega arith;
              deep = omega arith;
              cells_long = length_copy (fours (method_cell methods r 29)) [] 0 (c.regs.fp + 72) noted ∙ noted_long;
              kinds_long = g.frames.kinds_long;
              kindly = g.frames.kindly;
              running = ap (λ (i : ℕ). get_or N.cells i 0) y ∙ new_row;
              room = entered_room h;
            };
            statics_long = g.statics_long;
            marks = g.marks;
            heap = g.heap;
          }

      -- the frame that waits
      waits_now : d ≤ 32 → waits_of M N top ≡ frame_at M c c.regs.fp c.regs.row c.regs.at d
      unfolding waits_of entered
      waits_now h =
          let z = g.frames.framed in
          let a : get_or N.cells (top * 64 + 56) 0 ≡ c.regs.at = ap (λ (i : ℕ). get_or N.cells (i + 56) 0) (sym z) ∙ saved_at in
          let b : get_or N.cells (top * 64 + 57) 0 ≡ d = ap (λ (i : ℕ). get_or N.cells (i + 57) 0) (sym z) ∙ saved_height in
          let e : get_or N.cells (top * 64 + 58) 0 ≡ c.regs.row = row_same ∙ g.frames.running in
          let k : Agree 56 (top * 64) N.cells c.cells = λ j q. as_before (top * 64 + j) (omega arith) (λ x. omega arith) (λ x. omega arith) in
          rw (a, b, e) (frame_kept c N (top * 64) c.regs.row c.regs.at d k (λ j q. refl) h ∙ ap (λ (p : ℕ). frame_at M c p c.regs.row c.regs.at d) (sym z))

      cleared : (j : ℕ) → j < fours (method_cell methods r 29) → get_or N.cells (c.regs.fp + 64 + 8 + j) 0 ≡ 0
      unfolding entered
      cleared j q =
          let k = clears.1 in let l = noted_long in
          let x : c.regs.fp + 64 + 8 + j ≡ c.regs.fp + 72 + j = omega arith in
          rw x (copy_in (fours (method_cell methods r 29)) [] 0 (c.regs.fp + 72) noted j q (omega arith))

      -- the frame that runs
      runs_now : frame_at M N (c.regs.fp + 64) r 0 0 ≡ enter r m (seen (arguments m) c.cells (c.regs.fp + 64))
      unfolding frame_at enter down
      runs_now =
          let few = arguments_few M fin r in
          let k = clears in
          let args : seen (arguments m) N.cells (c.regs.fp + 64) ≡ seen (arguments m) c.cells (c.regs.fp + 64) =
          seen_ext (arguments m) N.cells c.cells _ _ (λ j q. as_before (c.regs.fp + 64 + j) (omega arith) (λ e. omega arith) (λ e. omega arith)) in
          let locs : seen m.locals N.cells (c.regs.fp + 64 + 8) ≡ map zero_of m.locals = seen_zeros m.locals N.cells _ (λ j q. cleared j (omega arith)) in
          rw (args, locs)

      pub entered_view : d ≤ 32
          → view M (entered methods c r s)
          ≡ record {
            top = enter r m (seen (arguments m) c.cells (c.regs.fp + 64));
            below = moved (view M c).top (view M c).top.offset (down here d) ∷ (view M c).below;
            statics = (view M c).statics;
            marks = (view M c).marks;
            heap = (view M c).heap;
          }
      unfolding entered view running_of heap_of top_of height_of down frame_at moved
      entered_view h =
          let x : c.regs.fp + 88 - (c.regs.fp + 64 + 24) ≡ 0 = omega arith in
          let t : c.regs.fp / 64 ≡ top = top_is in
          let u : (c.regs.fp + 64) / 64 ≡ suc top = frame_number (c.regs.fp + 64) (suc top) (omega arith) in
          let b : down (waits_of M N) top ≡ down (waits_of M c) top = below_kept c N top below_same (λ f q j i. refl) saved in
          rw (x, t, u, runs_now) (rw (waits_now h, b))

    -- ---- A frame left

    module _ (p t : ℕ) (q : top ≡ suc t) (before : p ≡ t * 64) where
      -- how high the caller's stack is
      abbrev caller : ℕ
      caller = get_or c.cells (p + 57) 0

      pub left_room : caller + due_of M c.regs.row ≤ 32
      left_room =
          let h : depth_of c.cells t + due_of M (method_of c.cells (suc t)) ≤ 32 = g.frames.room t (omega arith) in
          let e : method_of c.cells (suc t) ≡ c.regs.row = ap (method_of c.cells) (sym q) ∙ g.frames.running in
          let x : get_or c.cells (p + 57) 0 ≡ depth_of c.cells t = ap (λ (i : ℕ). get_or c.cells (i + 57) 0) before in
          rw (x, ← e) h

      pub left_good : (bytes n : ℕ) → n ≤ due_of M c.regs.row → Good M (left c p bytes n)
      unfolding left
      left_good bytes n h =
          let G = g.frames in let rm = left_room in
          let same : Below t (left c p bytes n).cells c.cells = below_copy t n c.cells _ _ c.cells (omega arith) in
          let row : method_of (left c p bytes n).cells t ≡ method_of c.cells t = copy_out n c.cells _ _ c.cells (t * 64 + 58) (inr (omega arith)) in
          record {
            frames = record {
              top = t;
              framed = before;
              low = omega arith;
              bottom = omega arith;
              deep = omega arith;
              cells_long = length_copy n c.cells _ _ c.cells ∙ G.cells_long;
              kinds_long = length_copy n c.kinds _ _ c.kinds ∙ G.kinds_long;
              kindly = λ i. small_copy n c.kinds _ _ c.kinds 3 i G.kindly G.kindly;
              running = row ∙ ap (λ (i : ℕ). get_or c.cells (i + 58) 0) (sym before);
              room = room_kept t (left c p bytes n).cells c.cells same row (λ f i. G.room f (omega arith));
            };
            statics_long = g.statics_long;
            marks = g.marks;
            heap = g.heap;
          }

      pub left_view : (bytes n : ℕ) → n ≤ due_of M c.regs.row → n ≤ 1
          → view M (left c p bytes n)
          ≡ record {
            top = moved (waits_of M c t) (at_of c.cells t + bytes) (span here 0 n ++ (waits_of M c t).stack);
            below = down (waits_of M c) t;
            statics = (view M c).statics;
            marks = (view M c).marks;
            heap = (view M c).heap;
          }
      unfolding left view running_of waits_of frame_at heap_of copy_of span cell moved top_of height_of
      left_view bytes zero h k =
          let u : p / 64 ≡ t = frame_number p t before in
          let x : p + 24 + caller + 0 - (p + 24) ≡ caller = omega arith in
          rw (u, x, before)
      left_view bytes (suc zero) h k =
          let rm = left_room in
          let u : p / 64 ≡ t = frame_number p t before in
          let x : p + 24 + caller + 1 - (p + 24) ≡ suc caller = omega arith in
          let lw : down (waits_of M (left c p bytes 1)) t ≡ down (waits_of M c) t =
          below_kept c (left c p bytes 1) t (below_copy t 1 c.cells _ _ c.cells (omega arith)) (below_copy t 1 c.kinds _ _ c.kinds (omega arith)) (λ f i. saved f (omega arith)) in
          let v : Agree 24 p (left c p bytes 1).cells c.cells = λ j i. copy_out 1 c.cells _ _ c.cells (p + j) (inl (omega arith)) in
          let r : ℕ = get_or c.cells (p + 58) 0 in
          rw (u, x, lw, args_kept (left c p bytes 1).cells c.cells p r v, locals_kept (left c p bytes 1).cells c.cells p r v, stack_put c.kinds c.cells (p + 24) caller (kind_at c (c.regs.fp + 24)) (bits_at c (c.regs.fp + 24)) (omega arith) (omega arith))
          (rw (before, add-zero (c.regs.fp + 24)))
      left_view bytes (suc (suc n)) h k = absurd (omega arith)
