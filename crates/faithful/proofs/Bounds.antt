-- A step keeps the registers, and what is saved of them, in range.
use Prim.Native.Nat.{ℕ, zero, suc, ◌+◌, ◌-◌, ◌*◌, ◌≤◌, ◌<◌}
use mathlib.Core.Path.{◌≡◌, refl, ap, ◌∙◌}
use mathlib.Core.Bool.{Bool, true, false, not, ◌&&◌}
use mathlib.Core.Logic.{◌⊎◌, inl, inr}
use mathlib.Core.Option.{Option, none, some}
use mathlib.Core.List.{List, [], ◌∷◌}
use native.Mathlib.Omega.{arith}
use lib.ListN.{length, get_or, set}
use lib.Dec.{leb, eqb}
use borrow.Author.Tests.{leb-true, ltb-true, eq-eqb, ne_eqb}
use Rattle.model.specs.Answer.{Answer, bad, ok, ◌>>=◌, guard, need, pick}
use Rattle.model.specs.Tables.{Module}
use Rattle.model.specs.Loading.{within}
use Rattle.model.specs.Code.{Plain, nop, pop, dup, ret, ldc, binary, unary, Binary, Unary, Relation, Jump, always, iftrue, iffalse, when, Ins, plain, ldarg, starg, ldloc, stloc, jump, call, callvirt, newobj, castclass, isinst, ldfld, stfld, ldsfld, stsfld}
use Rattle.loaded.specs.Holds.{method_cell, part_length, Holds}
use Rattle.loaded.specs.declared.Loaded.{Loaded}
use Rattle.state.specs.View.{Work, at_of, method_of}
use Rattle.state.specs.Order.{Fine, tables_of, HoldsMade, Good, due_of, Saved, Bounded, Ranges}
use Rattle.state.specs.Work.{Tables, Went, runs, over, waits, sp_of, goto, put, push_w, binary_w, unary_w, test_w, when_w, jump_w, branch_w, pop_w, dup_w, load_w, store_w, ldarg_w, starg_w, ldloc_w, stloc_w, is_token, row_of_token, cast_w, starting_w, ldfld_row, stfld_row, ldsfld_row, stsfld_row, copy_of, fours, entered, room_above, start_w, taking_w, invoke_w, call_row, chosen_row, callvirt_row, made_w, newobj_row, is_method, value_due, left, return_w, ret_w, plain_w, act_w, stay_of, code_of, acts_w, settle, step_w}
use Rattle.faithful.proofs.Lists.{le_or_lt, is_or_not, and_l, and_r, copy_out}
use Rattle.faithful.proofs.Rows.{token_row}
use Rattle.faithful.proofs.Frames.{fours_most, left_room}
use Rattle.faithful.proofs.Sim.{Running, stay}
use Rattle.faithful.proofs.Calls.{due_is}
use Rattle.faithful.proofs.Runs.{running}
use Rattle.faithful.proofs.Constants.{next_few}
use Rattle.faithful.proofs.Ranges.{ranges}

-- ---- What is saved of the frames

set_most : (l : List ℕ) (i j v b : ℕ) → get_or l j 0 ≤ b → (j ≡ i → v ≤ b) → get_or (set l i v) j 0 ≤ b
set_most [] i j v b h q = h
set_most (x ∷ l) zero zero v b h q = q refl
set_most (x ∷ l) zero (suc j) v b h q = h
set_most (x ∷ l) (suc i) zero v b h q = h
set_most (x ∷ l) (suc i) (suc j) v b h q = set_most l i j v b h (λ e. q (ap suc e))

module _ (n : ℕ) where
  -- a copy into the variables or the stack of frame t
  pub saved_copy : (k : ℕ) (src : List ℕ) (a b t x : ℕ) (dst : List ℕ) → b ≡ t * 64 + x → x + k ≤ 56 → Saved n dst → Saved n (copy_of k src a b dst)
  saved_copy k src a b t x dst e h s =
      record {
        at_few = λ f q. rw (kept f 56 (omega arith)) (s.at_few f q);
        depth_few = λ f q. rw (kept f 57 (omega arith)) (s.depth_few f q);
        row_few = λ f q. rw (kept f 58 (omega arith)) (s.row_few f q);
      }
    where
      aside : (f j : ℕ) → (56 ≤ j) × (j < 64) → (t ≤ f) ⊎ (f < t) → (f * 64 + j < b) ⊎ (b + k ≤ f * 64 + j)
      aside f j r (inl l) = inr (omega arith)
      aside f j r (inr l) = inl (omega arith)

      kept : (f j : ℕ) → (56 ≤ j) × (j < 64) → get_or (copy_of k src a b dst) (f * 64 + j) 0 ≡ get_or dst (f * 64 + j) 0
      kept f j r = copy_out k src a b dst (f * 64 + j) (aside f j r (le_or_lt t f))

  saved_set : (i t x v : ℕ) (l : List ℕ) → i ≡ t * 64 + x → x < 56 → Saved n l → Saved n (set l i v)
  unfolding copy_of
  saved_set i t x v l e h s = saved_copy 1 (v ∷ []) 0 i t x l e (omega arith) s

  -- a frame's registers noted
  pub saved_note : (i v : ℕ) (l : List ℕ) → Saved n l → ((f : ℕ) → f * 64 + 56 ≡ i → v ≤ 1024) → ((f : ℕ) → f * 64 + 57 ≡ i → v ≤ 32) → ((f : ℕ) → f * 64 + 58 ≡ i → v ≤ n) → Saved n (set l i v)
  saved_note i v l s p q r =
      record {
        at_few = λ f h. set_most l i (f * 64 + 56) v 1024 (s.at_few f h) (p f);
        depth_few = λ f h. set_most l i (f * 64 + 57) v 32 (s.depth_few f h) (q f);
        row_few = λ f h. set_most l i (f * 64 + 58) v n (s.row_few f h) (r f);
      }

-- ---- Answers

-- what holds of the work that a step goes on with, and of an initialiser that comes first
unfoldable pub Keeps : ℕ → Answer ℕ Went → Type 0
Keeps n (bad k) = Unit
Keeps n (ok (runs c)) = Bounded n c
Keeps n (ok (over v)) = Unit
Keeps n (ok (waits r)) = r ≤ n

module _ (n : ℕ) where
  keeps_guard : (b : Bool) (k : ℕ) (f : Unit {0} → Answer ℕ Went) → (b ≡ true → Keeps n (f tt)) → Keeps n (guard b k >>= f)
  unfolding Keeps guard ◌>>=◌
  keeps_guard true k f h = h refl
  keeps_guard false k f h = tt

  keeps_need : {A : Type 0} (o : Option A) (k : ℕ) (f : A → Answer ℕ Went) → ((a : A) → o ≡ some a → Keeps n (f a)) → Keeps n (need o k >>= f)
  unfolding Keeps need ◌>>=◌
  keeps_need none k f h = tt
  keeps_need (some a) k f h = h a refl

  keeps_same : {A : Type 0} (x : Answer ℕ A) (f : A → Answer ℕ Went) → ((a : A) → Keeps n (f a)) → Keeps n (x >>= f)
  unfolding Keeps ◌>>=◌
  keeps_same (bad k) f h = tt
  keeps_same (ok a) f h = h a

  keeps_guards : (x y z : Bool) (f : Unit {0} → Answer ℕ Went) → (z ≡ true → Keeps n (f tt)) → Keeps n ((guard x 43 >>= λ _. guard y 45 >>= λ _. guard z 44) >>= f)
  unfolding Keeps guard ◌>>=◌
  keeps_guards true true true f h = h refl
  keeps_guards true true false f h = tt
  keeps_guards true false z f h = tt
  keeps_guards false y z f h = tt

  keeps_runs : (c : Work) → Bounded n c → Keeps n (ok (runs c))
  unfolding Keeps
  keeps_runs c h = h

pick_few : (t : Bool) (a b n : ℕ) → a ≤ n → b ≤ n → pick t a b ≤ n
unfolding pick
pick_few true a b n p q = p
pick_few false a b n p q = q

-- a frame entered above the frame `top`
pub entered_bounded : (n : ℕ) (methods : List ℕ) (c : Work) (top r s : ℕ) → c.regs.fp ≡ top * 64 → Saved n c.cells → c.regs.at ≤ 1024 → r ≤ n → s ≤ c.regs.fp + 56 → method_cell methods r 29 ≤ 16 → Bounded n (entered methods c r s)
unfolding entered
entered_bounded n methods c top r s e sv a h w l =
    let fs = fours_most (method_cell methods r 29) 16 l (inr refl) in
    record {
      row_few = h;
      at_few = omega arith;
      saved =
          saved_copy n (fours (method_cell methods r 29)) [] 0 (c.regs.fp + 72) (suc top) 8 _ (omega arith) (omega arith)
          (saved_note n (c.regs.fp + 122) r _
          (saved_note n (c.regs.fp + 57) (s - (c.regs.fp + 24)) _
          (saved_note n (c.regs.fp + 56) c.regs.at c.cells sv (λ f q. a) (λ f q. absurd (omega arith)) (λ f q. absurd (omega arith)))
          (λ f q. absurd (omega arith)) (λ f q. omega arith) (λ f q. absurd (omega arith)))
          (λ f q. absurd (omega arith)) (λ f q. absurd (omega arith)) (λ f q. h));
    }

-- ---- Instructions

module _ (R : Running) (b : Bounded R.L.counts.methods R.c) (early : R.c.regs.at < 1024) where
  -- how many methods there are
  abbrev most : ℕ
  most = R.L.counts.methods

  abbrev Kept : Answer ℕ Went → Type 0
  Kept a = Keeps most a

  in_range : Ranges R.code (tables_of R.L R.variables R.ancestors R.chosen)
  in_range = ranges R.M R.fin R.code R.L R.hold R.variables R.ancestors R.chosen R.made

  max_few : (r : ℕ) → method_cell R.L.methods r 27 ≤ 32
  unfolding tables_of
  max_few r = in_range.stack_few r

  -- the same frames at another offset
  at_bounded : (d : Work) → d.regs.row ≡ R.c.regs.row → d.regs.at ≤ 1033 → Saved most d.cells → Bounded most d
  at_bounded d p q s = record { row_few = rw p b.row_few; at_few = q; saved = s }

  -- a cell of the stack stored
  stack_saved : (s v : ℕ) → R.c.regs.fp ≤ s → s < R.c.regs.fp + 56 → Saved most (set R.c.cells s v)
  stack_saved s v lo hi = saved_set most s R.g.frames.top (s - R.c.regs.fp) v R.c.cells (omega arith) (omega arith) b.saved

  put_kept : (o s k v : ℕ) → o ≤ 1033 → R.c.regs.fp ≤ s → s < R.c.regs.fp + 56 → Bounded most (put R.c o s k v)
  unfolding put goto
  put_kept o s k v h lo hi = at_bounded _ refl h (stack_saved s v lo hi)

  -- at most two values below the top
  put_below : (o i k v : ℕ) → o ≤ 1033 → 0 < i → i ≤ 2 → Bounded most (put R.c o (sp_of R.c - i) k v)
  put_below o i k v h p q = put_kept o (sp_of R.c - i) k v h (omega arith) (omega arith)

  goto_kept : (o s : ℕ) → o ≤ 1033 → Bounded most (goto R.c o s)
  unfolding goto
  goto_kept o s h = at_bounded _ refl h b.saved

  push_kept : (k v next : ℕ) → next ≤ 1033 → Kept (push_w (stay R) R.c k v next)
  unfolding push_w
  push_kept k v next h =
      keeps_guard most _ 44 _ λ q.
      let w : sp_of R.c < (stay R).limit = ltb-true _ _ q in
      let x = max_few R.c.regs.row in
      keeps_runs most _ (put_kept next (sp_of R.c) k v h (omega arith) (omega arith))

  -- ---- Operators, branches, loads and stores

  binary_kept : (o : Binary) (next : ℕ) → next ≤ 1033 → Kept (binary_w (stay R) R.c o next)
  unfolding binary_w
  binary_kept o next h = keeps_guard most _ 43 _ λ _. keeps_need most _ 45 _ λ q _. keeps_same most _ _ λ n. keeps_runs most _ (put_below next 2 _ n h (omega arith) (omega arith))

  unary_kept : (o : Unary) (next : ℕ) → next ≤ 1033 → Kept (unary_w (stay R) R.c o next)
  unfolding unary_w
  unary_kept o next h = keeps_guard most _ 43 _ λ _. keeps_need most _ 45 _ λ q _. keeps_runs most _ (put_below next 1 _ _ h (omega arith) (omega arith))

  test_kept : (x y : ℕ) → x ≤ 1033 → y ≤ 1033 → Kept (test_w (stay R) R.c x y)
  unfolding test_w
  test_kept x y p q = keeps_guard most _ 43 _ λ _. keeps_guard most _ 45 _ λ _. keeps_runs most _ (goto_kept _ _ (pick_few _ x y 1033 p q))

  when_kept : (r : Relation) (x y : ℕ) → x ≤ 1033 → y ≤ 1033 → Kept (when_w (stay R) R.c r x y)
  unfolding when_w
  when_kept r x y p q = keeps_guard most _ 43 _ λ _. keeps_need most _ 45 _ λ f _. keeps_runs most _ (goto_kept _ _ (pick_few _ x y 1033 p q))

  jump_kept : (j : Jump) (x y : ℕ) → x ≤ 1033 → y ≤ 1033 → Kept (jump_w (stay R) R.c j x y)
  unfolding jump_w
  jump_kept always x y p q = keeps_runs most _ (goto_kept x _ p)
  jump_kept iftrue x y p q = test_kept y x q p
  jump_kept iffalse x y p q = test_kept x y p q
  jump_kept (when r) x y p q = when_kept r x y p q

  branch_kept : (n : ℕ) (j : Jump) (t : Option ℕ) (next : ℕ) → n ≤ 1024 → next ≤ 1033 → Kept (branch_w n (stay R) R.c j t next)
  unfolding branch_w
  branch_kept n j t next w h =
      keeps_need most t 42 _ λ o _. keeps_guard most _ 42 _ λ q.
      let l : o < n = ltb-true _ _ q in
      jump_kept j o next (omega arith) h

  load_kept : (i next : ℕ) → next ≤ 1033 → Kept (load_w R.variables (stay R) R.c i next)
  unfolding load_w
  load_kept i next h = keeps_guard most _ 42 _ λ _. push_kept _ _ next h

  store_kept : (i next : ℕ) → i < 24 → next ≤ 1033 → Kept (store_w R.L.methods R.ancestors (stay R) R.c i next)
  unfolding store_w goto
  store_kept i next l h =
      keeps_guard most _ 42 _ λ _. keeps_guard most _ 43 _ λ _. keeps_guard most _ 45 _ λ _.
      keeps_runs most _ (at_bounded _ refl h (stack_saved (R.c.regs.fp + i) _ (omega arith) (omega arith)))

  ldarg_kept : (i next : ℕ) → next ≤ 1033 → Kept (ldarg_w R.variables (stay R) R.c i next)
  unfolding ldarg_w
  ldarg_kept i next h = keeps_guard most _ 42 _ λ _. load_kept i next h

  ldloc_kept : (i next : ℕ) → next ≤ 1033 → Kept (ldloc_w R.variables (stay R) R.c i next)
  unfolding ldloc_w
  ldloc_kept i next h = keeps_guard most _ 42 _ λ _. load_kept (8 + i) next h

  starg_kept : (i next : ℕ) → next ≤ 1033 → Kept (starg_w R.L.methods R.ancestors (stay R) R.c i next)
  unfolding starg_w
  starg_kept i next h = keeps_guard most _ 42 _ λ q. let l : i < 8 = ltb-true _ _ q in store_kept i next (omega arith) h

  stloc_kept : (i next : ℕ) → next ≤ 1033 → Kept (stloc_w R.L.methods R.ancestors (stay R) R.c i next)
  unfolding stloc_w
  stloc_kept i next h = keeps_guard most _ 42 _ λ q. let l : i < 16 = ltb-true _ _ q in store_kept (8 + i) next (omega arith) h

  dup_kept : (next : ℕ) → next ≤ 1033 → Kept (dup_w (stay R) R.c next)
  unfolding dup_w
  dup_kept next h = keeps_guard most _ 43 _ λ _. push_kept _ _ next h

  pop_kept : (next : ℕ) → next ≤ 1033 → Kept (pop_w (stay R) R.c next)
  unfolding pop_w
  pop_kept next h = keeps_guard most _ 43 _ λ _. keeps_runs most _ (goto_kept next _ h)

  -- ---- Casts and fields

  cast_kept : (count t next : ℕ) (miss : Answer ℕ ℕ) → next ≤ 1033 → Kept (cast_w count R.ancestors (stay R) R.c t miss next)
  unfolding cast_w goto
  cast_kept count t next miss h =
      keeps_guard most _ 42 _ λ _. keeps_guard most _ 43 _ λ _. keeps_guard most _ 45 _ λ _. keeps_same most _ _ λ v. keeps_runs most _ (at_bounded _ refl h (stack_saved (sp_of R.c - 1) v (omega arith) (omega arith)))

  starting_kept : (k : ℕ) (f : List ℕ → Answer ℕ Went) → ((marks : List ℕ) → Kept (f marks)) → Kept (starting_w R.L.initialisers R.c k f)
  unfolding starting_w pick Keeps tables_of
  starting_kept k f h = go (eqb (get_or R.c.marks k 0) 0 && not (eqb (get_or R.L.initialisers k 0) 0)) where
    go : (t : Bool) → Kept (pick t (ok (waits (get_or R.L.initialisers k 0))) (f (set R.c.marks k 1)))
    go true = in_range.initialiser_there k
    go false = h (set R.c.marks k 1)

  ldfld_kept : (r next : ℕ) → next ≤ 1033 → Kept (ldfld_row R.L.fields R.L.initialisers R.ancestors (stay R) R.c r next)
  unfolding ldfld_row put goto
  ldfld_kept r next h =
      keeps_guard most _ 43 _ λ _. keeps_guard most _ 45 _ λ _. starting_kept _ _ λ marks. keeps_guard most _ 34 _ λ _. keeps_runs most _ (at_bounded _ refl h (stack_saved (sp_of R.c - 1) _ (omega arith) (omega arith)))

  stfld_kept : (r next : ℕ) → next ≤ 1033 → Kept (stfld_row R.L.fields R.L.initialisers R.ancestors (stay R) R.c r next)
  unfolding stfld_row goto
  stfld_kept r next h =
      keeps_guard most _ 43 _ λ _. keeps_guard most _ 45 _ λ _. keeps_guard most _ 45 _ λ _. starting_kept _ _ λ marks. keeps_guard most _ 34 _ λ _. keeps_runs most _ (at_bounded _ refl h b.saved)

  ldsfld_kept : (r next : ℕ) → next ≤ 1033 → Kept (ldsfld_row R.L.fields R.L.initialisers (stay R) R.c r next)
  unfolding ldsfld_row put goto
  ldsfld_kept r next h =
      keeps_guard most _ 44 _ λ q.
      let w : sp_of R.c < (stay R).limit = ltb-true _ _ q in
      let x = max_few R.c.regs.row in
      starting_kept _ _ λ marks. keeps_runs most _ (at_bounded _ refl h (stack_saved (sp_of R.c) _ (omega arith) (omega arith)))

  stsfld_kept : (r next : ℕ) → next ≤ 1033 → Kept (stsfld_row R.L.fields R.L.initialisers R.ancestors (stay R) R.c r next)
  unfolding stsfld_row goto
  stsfld_kept r next h = keeps_guard most _ 43 _ λ _. keeps_guard most _ 45 _ λ _. starting_kept _ _ λ marks. keeps_runs most _ (at_bounded _ refl h b.saved)

  -- ---- Calls

  row_few : (x : Bool) (t : ℕ) → (is_token 6 most t && x) ≡ true → row_of_token t ≤ most
  unfolding within
  row_few x t e = leb-true _ _ (and_r (leb 1 (row_of_token t)) (leb (row_of_token t) most) (token_row 6 most t (and_l (is_token 6 most t) x e)))

  -- the frame of r above, the arguments laid in its cells
  enter_kept : (e : Work) (r s : ℕ) → e.regs.fp ≡ R.c.regs.fp → e.regs.at ≡ R.c.regs.at → Saved most e.cells → r ≤ most → s ≤ R.c.regs.fp + 56 → Kept (guard (room_above R.c) 36 >>= λ _. ok (runs (entered R.L.methods e r s)))
  unfolding tables_of
  enter_kept e r s p q sv hr hs =
      keeps_guard most _ 36 _ λ _.
      keeps_runs most _ (entered_bounded most R.L.methods e R.g.frames.top r s (p ∙ R.g.frames.framed) sv (omega arith) hr (omega arith) (in_range.locals_few r))

  -- n arguments from s on, laid in the frame above from x on
  laid_saved : (n s x : ℕ) → n ≤ 8 → x ≤ 1 → Saved most (copy_of (fours n) R.c.cells s (R.c.regs.fp + (64 + x)) R.c.cells)
  laid_saved n s x h k =
      let fs = fours_most n 8 h (inl refl) in
      saved_copy most (fours n) R.c.cells s (R.c.regs.fp + (64 + x)) (suc R.g.frames.top) x R.c.cells (omega arith) (omega arith) b.saved

  invoke_kept : (r n : ℕ) → r ≤ most → n ≤ 8 → Kept (invoke_w R.L.methods R.L.initialisers R.c r n)
  unfolding invoke_w
  invoke_kept r n h k =
      starting_kept _ _ λ marks. enter_kept _ r (sp_of R.c - n) refl refl (laid_saved n (sp_of R.c - n) 0 k (omega arith)) h (omega arith)

  taking_kept : (r n i more : ℕ) (f : Unit {0} → Answer ℕ Went) → (sp_of R.c - n + more ≤ R.c.regs.fp + 56 → Kept (f tt)) → Kept (taking_w R.L.methods R.ancestors (stay R) R.c r n i more >>= f)
  unfolding taking_w
  taking_kept r n i more f h =
      keeps_guards most _ _ (leb (sp_of R.c - n + more) (stay R).limit) f λ q.
      let w : sp_of R.c - n + more ≤ (stay R).limit = leb-true _ _ q in
      let m = max_few R.c.regs.row in
      h (omega arith)

  takes_few : (r : ℕ) → method_cell R.L.methods r 28 ≤ 8
  unfolding tables_of
  takes_few r = in_range.arguments_few r

  call_kept : (r : ℕ) → r ≤ most → Kept (call_row R.L.methods R.L.initialisers R.ancestors (stay R) R.c r)
  unfolding call_row
  call_kept r h = taking_kept _ _ _ _ _ λ _. invoke_kept r (method_cell R.L.methods r 28) h (takes_few r)

  chosen_few : (r k : ℕ) → r ≤ most → chosen_row R.L.methods R.chosen r k ≤ most
  unfolding chosen_row tables_of
  chosen_few r k h = pick_few _ _ r most (pick_few _ r _ most h (in_range.chosen_there _)) h

  callvirt_kept : (r : ℕ) → r ≤ most → Kept (callvirt_row R.L.methods R.L.initialisers R.ancestors R.chosen (stay R) R.c r)
  unfolding callvirt_row
  callvirt_kept r h = taking_kept _ _ _ _ _ λ _. keeps_guard most _ 34 _ λ _. invoke_kept _ (method_cell R.L.methods r 28) (chosen_few r _ h) (takes_few r)

  newobj_kept : (r : ℕ) → r ≤ most → Kept (newobj_row R.L.methods R.L.initialisers R.ancestors (stay R) R.c r)
  unfolding newobj_row made_w
  newobj_kept r h =
      let w = takes_few r in
      let n : ℕ = method_cell R.L.methods r 28 - 1 in
      taking_kept r n 1 1 _ λ q. starting_kept _ _ λ marks. keeps_guard most _ 37 _ λ _.
      enter_kept _ r (sp_of R.c - n + 1) refl refl
      (new_saved n (omega arith) q)
      h q
    where
      new_saved : (n : ℕ) → n ≤ 7 → sp_of R.c - n + 1 ≤ R.c.regs.fp + 56 → Saved most (set (set (copy_of (fours n) R.c.cells (sp_of R.c - n) (R.c.regs.fp + 65) R.c.cells) (R.c.regs.fp + 64) (suc R.c.regs.made)) (sp_of R.c - n) (suc R.c.regs.made))
      new_saved n w q =
          saved_set most (sp_of R.c - n) R.g.frames.top (sp_of R.c - n - R.c.regs.fp) _ _ (omega arith) (omega arith)
          (saved_set most (R.c.regs.fp + 64) (suc R.g.frames.top) 0 _ _ (omega arith) (omega arith) (laid_saved n (sp_of R.c - n) 1 (omega arith) (omega arith)))

  -- ---- Returns

  left_kept : (p t bytes n : ℕ) → R.g.frames.top ≡ suc t → p ≡ t * 64 → bytes ≤ 5 → n ≤ due_of R.M R.c.regs.row → Bounded most (left R.c p bytes n)
  unfolding left
  left_kept p t bytes n q e h k =
      let rm = left_room R.M R.fin R.c R.g p t q e in
      let a : get_or R.c.cells (p + 56) 0 ≡ at_of R.c.cells t = ap (λ (i : ℕ). get_or R.c.cells (i + 56) 0) e in
      let r : get_or R.c.cells (p + 58) 0 ≡ method_of R.c.cells t = ap (λ (i : ℕ). get_or R.c.cells (i + 58) 0) e in
      let x = b.saved.at_few t (omega arith) in
      record {
        row_few = rw r (b.saved.row_few t (omega arith));
        at_few = omega arith;
        saved = saved_copy most n R.c.cells _ (p + 24 + get_or R.c.cells (p + 57) 0) t (24 + get_or R.c.cells (p + 57) 0) R.c.cells (omega arith) (omega arith) b.saved;
      }

  return_kept : (sort n : ℕ) → n ≤ due_of R.M R.c.regs.row → Kept (return_w R.c sort n)
  unfolding return_w Keeps pick
  return_kept sort n h = go (is_or_not R.c.regs.fp 0) where
    go : (R.c.regs.fp ≡ 0) ⊎ (R.c.regs.fp ≡ 0 → ⊥) → Kept (pick (eqb R.c.regs.fp 0) (ok (over (value_due R.c n))) (ok (runs (left R.c (R.c.regs.fp - 64) (pick (eqb sort 4) 0 5) n))))
    go (inl e) = rw (eq-eqb R.c.regs.fp 0 e) tt
    go (inr e) =
        rw (ne_eqb R.c.regs.fp 0 e)
        (left_kept (R.c.regs.fp - 64) (R.g.frames.top - 1) (pick (eqb sort 4) 0 5) n (omega arith) (omega arith) (pick_few (eqb sort 4) 0 5 5 (omega arith) (omega arith)) h)

  ret_kept : Kept (ret_w R.L.methods R.ancestors (stay R) R.c)
  unfolding ret_w due_of
  ret_kept =
      let e = due_is R R.c.regs.row in
      keeps_guard most _ 43 _ λ _. keeps_guard most _ 45 _ λ _. keeps_guard most _ 45 _ λ _. return_kept _ _ (omega arith)

  -- ---- One step

  abbrev P : Tables
  P = tables_of R.L R.variables R.ancestors R.chosen

  plain_kept : (p : Plain) (next : ℕ) → next ≤ 1033 → Kept (plain_w P (stay R) R.c p next)
  unfolding plain_w tables_of
  plain_kept nop next h = keeps_runs most _ (goto_kept next _ h)
  plain_kept pop next h = pop_kept next h
  plain_kept dup next h = dup_kept next h
  plain_kept ret next h = ret_kept
  plain_kept (ldc t n) next h = push_kept _ _ next h
  plain_kept (binary o) next h = binary_kept o next h
  plain_kept (unary o) next h = unary_kept o next h

  act_kept : (n : ℕ) (i : Ins) (next : ℕ) → n ≤ 1024 → next ≤ 1033 → Kept (act_w P n (stay R) R.c i next)
  unfolding act_w is_method tables_of
  act_kept n (plain p) next w h = plain_kept p next h
  act_kept n (ldarg i) next w h = ldarg_kept i next h
  act_kept n (starg i) next w h = starg_kept i next h
  act_kept n (ldloc i) next w h = ldloc_kept i next h
  act_kept n (stloc i) next w h = stloc_kept i next h
  act_kept n (jump j t) next w h = branch_kept n j t next w h
  act_kept n (call t) next w h = keeps_guard most _ 42 _ λ q. call_kept (row_of_token t) (row_few _ t q)
  act_kept n (callvirt t) next w h = keeps_guard most _ 42 _ λ q. callvirt_kept (row_of_token t) (row_few _ t q)
  act_kept n (newobj t) next w h = keeps_guard most _ 42 _ λ q. newobj_kept (row_of_token t) (row_few _ t q)
  act_kept n (castclass t) next w h = cast_kept _ t next (bad 35) h
  act_kept n (isinst t) next w h = cast_kept _ t next (ok 0) h
  act_kept n (ldfld t) next w h = keeps_guard most _ 42 _ λ _. ldfld_kept (row_of_token t) next h
  act_kept n (stfld t) next w h = keeps_guard most _ 42 _ λ _. stfld_kept (row_of_token t) next h
  act_kept n (ldsfld t) next w h = keeps_guard most _ 42 _ λ _. ldsfld_kept (row_of_token t) next h
  act_kept n (stsfld t) next w h = keeps_guard most _ 42 _ λ _. stsfld_kept (row_of_token t) next h

  -- the frame of an initialiser that comes first
  start_kept : (r : ℕ) → r ≤ most → Kept (start_w R.L.methods R.c r)
  unfolding start_w
  start_kept r h = let hi = R.g.frames.deep in enter_kept _ r (sp_of R.c) refl refl b.saved h hi

  settle_kept : (a : Answer ℕ Went) → Kept a → Kept (a >>= λ w. settle P R.c w)
  unfolding Keeps settle ◌>>=◌ tables_of
  settle_kept (bad n) k = tt
  settle_kept (ok (runs d)) k = k
  settle_kept (ok (over v)) k = tt
  settle_kept (ok (waits r)) k = start_kept r k

  acts_kept : (part : List ℕ) → length part ≤ 1024 → Kept (acts_w P part (stay R) R.c)
  unfolding acts_w
  acts_kept part w =
      keeps_need most _ 41 _ λ d e.
      let n = next_few part R.c.regs.at d e in
      act_kept (length part) d.ins d.next w (omega arith)

module _ (M : Module) (fin : Fine M) (code : List ℕ) (L : Loaded) (hold : Holds M code L) (variables ancestors chosen : List ℕ) (made : HoldsMade M L variables ancestors chosen) where
  -- what an instruction goes on with is in range, and so is the initialiser that it waits for
  pub acts_bounded : (c : Work) → Good M c → Bounded L.counts.methods c → c.regs.at < part_length L.parts c.regs.row
      → Keeps L.counts.methods (acts_w (tables_of L variables ancestors chosen) (code_of (tables_of L variables ancestors chosen) code c.regs.row) (stay_of (tables_of L variables ancestors chosen) c.regs) c)
  unfolding stay_of code_of tables_of
  acts_bounded c g b l =
      let s = hold.by_method.size c.regs.row in
      let p = hold.by_method.part c.regs.row in
      let few = (ranges M fin code L hold variables ancestors chosen made).length_few c.regs.row in
      let R : Running = running M fin code L hold variables ancestors chosen made c g l in
      acts_kept R b (omega arith) _ (rw (← p) (omega arith))

  -- what a step goes on with is in range
  pub step_bounded : (c : Work) → Good M c → Bounded L.counts.methods c → Keeps L.counts.methods (step_w (tables_of L variables ancestors chosen) code c)
  unfolding step_w stay_of code_of tables_of
  step_bounded c g b =
      keeps_guard L.counts.methods _ 46 _ λ t.
      let l : c.regs.at < part_length L.parts c.regs.row = ltb-true _ _ t in
      let s = hold.by_method.size c.regs.row in
      let p = hold.by_method.part c.regs.row in
      let few = (ranges M fin code L hold variables ancestors chosen made).length_few c.regs.row in
      let R : Running = running M fin code L hold variables ancestors chosen made c g l in
      settle_kept R b (omega arith) _ (acts_kept R b (omega arith) _ (rw (← p) (omega arith)))
