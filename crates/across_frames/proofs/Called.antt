-- Calls, by the tests that led to their answers.
use Prim.Native.Nat.{ℕ, ◌+◌, ◌-◌, ◌*◌, ◌≤◌, ◌<◌}
use mathlib.Core.Path.{◌≡◌}
use mathlib.Core.Bool.{Bool, true, false}
use mathlib.Core.List.{List}
use lib.ListN.{get_or}
use borrow.Author.Tests.{lt-ltb, le-ltb, eq-eqb, ne_eqb}
use Rattle.model.specs.Answer.{Answer, bad, ok, ◌>>=◌, guard, pick}
use Rattle.loaded.specs.Holds.{method_cell}
use Rattle.state.specs.declared.Stay.{Stay}
use Rattle.state.specs.View.{Work}
use Rattle.state.specs.Work.{Went, runs, with_cells, with_marks, bits_at, place_of, starting_w, copy_of, fours, entered, room_above, due_of_byte, taking_w, invoke_w, call_row, chosen_row, callvirt_row}
use Rattle.across_frames.specs.Lent.{named_sort, named_row, named_w, taken_by}
use Rattle.across_frames.specs.declared.calls.Way.{Way}
use Rattle.across_frames.specs.declared.calls.Way.TheVariants.{Call, Callvirt}

-- ---- The frame of a called method

-- its class being started
abbrev pub invoked : List ℕ → Work → ℕ → ℕ → List ℕ → Answer ℕ Went
invoked methods c r n marks =
    guard (room_above c) 36 >>= λ _.
    ok (runs (entered methods (with_marks (with_cells c (copy_of (fours n) c.cells (c.regs.sp - n) (c.regs.fp + 64) c.cells) c.kinds) marks) r (c.regs.sp - n)))

pub invoke_starts : (methods initialisers : List ℕ) (c : Work) (r n : ℕ) {k : ℕ} {said : Answer ℕ Went} → k ≡ method_cell methods r 25 → starting_w initialisers c k (invoked methods c r n) ≡ said → invoke_w methods initialisers c r n ≡ said
unfolding invoke_w
invoke_starts methods initialisers c r n e q = rw (← e) q

module _ (methods : List ℕ) (c : Work) (r n : ℕ) (marks : List ℕ) where
  pub invoke_full : 1984 ≤ c.regs.fp → invoked methods c r n marks ≡ bad 36
  unfolding room_above guard ◌>>=◌
  invoke_full h = simp (le-ltb _ _ h)

  pub invoke_goes : c.regs.fp < 1984 → {laid : List ℕ} → laid ≡ copy_of (fours n) c.cells (c.regs.sp - n) (c.regs.fp + 64) c.cells
      → invoked methods c r n marks ≡ ok (runs (entered methods (with_marks (with_cells c laid c.kinds) marks) r (c.regs.sp - n)))
  unfolding room_above guard ◌>>=◌
  invoke_goes h q = simp (lt-ltb _ _ h, q)

-- ---- The method that callvirt takes

module _ (methods chosen classes : List ℕ) (object r : ℕ) (then : ℕ → Answer ℕ Went) where
  abbrev said : Answer ℕ Went
  said = taken_by Callvirt methods chosen classes object r then

  pub taken_null : object ≡ 0 → said ≡ bad 34
  unfolding taken_by guard ◌>>=◌
  taken_null h = simp (eq-eqb _ _ h)

  module _ (some : object ≡ 0 → ⊥) where
    pub taken_bare : (method_cell methods r 24 ≡ 2 → ⊥) → said ≡ then r
    unfolding taken_by chosen_row pick guard ◌>>=◌
    taken_bare h = simp (ne_eqb _ _ some, ne_eqb _ _ h)

    -- k is the object's class and q the method's root
    module _ (h : method_cell methods r 24 ≡ 2) {k q w : ℕ} (class : k ≡ get_or classes (place_of object) 0) (root : q ≡ method_cell methods r 30) (at : w ≡ get_or chosen (k * 129 + q) 0) where
      pub taken_none : w ≡ 0 → said ≡ then r
      unfolding taken_by chosen_row pick guard ◌>>=◌
      taken_none z = rw (← class, ← root) (simp (ne_eqb _ _ some, eq-eqb _ _ h, ← at, eq-eqb _ _ z))

      pub taken_over : (w ≡ 0 → ⊥) → said ≡ then w
      unfolding taken_by chosen_row pick guard ◌>>=◌
      taken_over z = rw (← class, ← root) (simp (ne_eqb _ _ some, eq-eqb _ _ h, ← at, ne_eqb _ _ z))

-- ---- call and callvirt

module _ (methods initialisers ancestors chosen : List ℕ) (y : Stay) (c : Work) (r : ℕ) {b : Bool} where
  pub named_none : (by : Way) → b ≡ named_sort by (method_cell methods r 24) → b ≡ false → named_w by methods initialisers ancestors chosen y c r ≡ bad 42
  unfolding named_w guard ◌>>=◌
  named_none by q h = simp (← q, h)

  pub named_takes : (by : Way) → b ≡ named_sort by (method_cell methods r 24) → b ≡ true → {w more d : ℕ} → w ≡ method_cell methods r 28 → more ≡ due_of_byte (method_cell methods r 26)
      → d ≡ c.regs.sp - w → named_w by methods initialisers ancestors chosen y c r
      ≡ (taking_w methods ancestors y c r w 0 more >>= λ _. taken_by by methods chosen c.classes (bits_at c d) r (λ q. invoke_w methods initialisers c q w))
  unfolding named_w named_row call_row callvirt_row taken_by guard ◌>>=◌
  named_takes Callvirt q h e f g = rw g (simp (← q, h, ← e, ← f))
  named_takes Call q h e f g = simp (← q, h, ← e, ← f)

-- what the arguments came to
module _ {taking : Answer ℕ (Unit {0})} (then : Unit {0} → Answer ℕ Went) where
  pub refused : {n : ℕ} → taking ≡ bad n → (taking >>= then) ≡ bad n
  unfolding ◌>>=◌
  refused q = rw q

  pub accepted : taking ≡ ok tt → (taking >>= then) ≡ then tt
  unfolding ◌>>=◌
  accepted q = rw q
