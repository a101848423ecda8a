-- How a step that may leave its frame answers, and a frame that is entered.
use Prim.Native.Nat.{ℕ, ◌+◌, ◌-◌, ◌≤◌, ◌<◌}
use mathlib.Core.Path.{◌≡◌, refl, sym, ◌∙◌}
use mathlib.Core.Bool.{Bool, true, false, not, ◌&&◌}
use mathlib.Core.Option.{Option}
use mathlib.Core.List.{List, []}
use native.Mathlib.Omega.{arith}
use lib.ListN.{get_or, set}
use lib.Dec.{eqb}
use borrow.Author.Tests.{lt-ltb, le-ltb, eq-eqb, ne_eqb}
use Rattle.model.specs.Answer.{Answer, bad, ok, ◌>>=◌, guard, pick}
use Rattle.model.specs.State.{Value}
use Rattle.loaded.specs.Holds.{method_cell}
use Rattle.state.specs.declared.Stay.{Stay}
use Rattle.state.specs.View.{Regs, Work}
use Rattle.state.specs.Work.{Went, runs, over, waits, with_regs, with_cells, with_marks, copy_of, fours, entered, room_above, start_w, starting_w}
use Rattle.state.specs.Meets.{answer, moves, Leaves}
use Rattle.state.specs.Steps.{number}
use Rattle.state.specs.declared.ending.Ending.{Ending}
use Rattle.state.specs.declared.ending.Ending.TheVariants.{NullReference, InvalidCast, UsedFrames, UsedObjects, UsedBudget, Undecodable, BadOperand, TooFew, TooMany, WrongType, PastEnd}
use Rattle.across_frames.specs.declared.registers.Registers.{Registers}
use Rattle.state.specs.declared.Moved.{Moved}
use Rattle.across_frames.specs.declared.change.Change.{Change}
use Rattle.across_frames.specs.declared.change.Change.TheVariants.{Moves, Over, Waits}
use Rattle.std.specs.Prelude.{Ok}
use Rattle.across_frames.specs.Lent.{moved, regs_at, stays_in, going, Framed, Standing, Landed}

-- ---- The answer

-- no number of an ending says how a step goes on
pub high : (e : Ending) → 2 < number e
high NullReference = omega arith
high InvalidCast = omega arith
high UsedFrames = omega arith
high UsedObjects = omega arith
high UsedBudget = omega arith
high Undecodable = omega arith
high BadOperand = omega arith
high TooFew = omega arith
high TooMany = omega arith
high WrongType = omega arith
high PastEnd = omega arith

module _ {first : ℕ} {value : Option Value} {g : Regs} {before : Work} {said : Answer ℕ Went} where
  pub ends : (e : Ending) → said ≡ bad (number e) → Leaves (number e) first value (with_regs before g) before said
  unfolding moves answer pick
  ends e s =
      let h : 2 < number e = high e in
      record { says = simp (ne_eqb (number e) 1 (λ z. omega arith), ne_eqb (number e) 0 (λ z. omega arith), ne_eqb (number e) 2 (λ z. omega arith), s); kept = λ _. refl }

module _ {first : ℕ} {value : Option Value} {g : Regs} {before : Work} {said : Answer ℕ Went} where
  pub first_comes : said ≡ ok (waits first) → Leaves 2 first value (with_regs before g) before said
  unfolding moves answer pick
  first_comes s = record { says = sym s; kept = λ _. refl }

  pub finished : said ≡ ok (over value) → Leaves 1 first value (with_regs before g) before said
  unfolding moves answer pick
  finished s = record { says = sym s; kept = λ _. refl }

pub goes : {how first : ℕ} {value : Option Value} {after before x : Work} {said : Answer ℕ Went} → how ≡ 0 → after ≡ x → said ≡ ok (runs x) → Leaves how first value after before said
unfolding moves answer pick
goes z q s = record { says = simp (z, q, s); kept = λ n. absurd (n z) }

pub instead : {how first : ℕ} {value : Option Value} {after before : Work} {said other : Answer ℕ Went} → said ≡ other → Leaves how first value after before other → Leaves how first value after before said
instead e m = record { says = m.says ∙ sym e; kept = m.kept }

-- ---- The registers

-- only a step that waits has the number that says so
pub waits_not : (g : Registers) (x : Change) → ((first : ℕ) → x ≡ Waits first → ⊥) → (moved g (Ok x)).how ≡ 2 → ⊥
waits_not g (Moves m) n z = omega arith
waits_not g Over n z = omega arith
waits_not g (Waits first) n z = n first refl

pub landed : {how row : ℕ} (g : Registers) → Standing g → row ≤ 128 → Landed (stays_in g how row)
landed g f h = record { frame = f.frame; row = h; bottom = omega (arith, f.stays.floor_is, f.topped.low) }

pub landed_on : {m : Moved} → Landed m → Landed (going m)
landed_on h = record { frame = h.frame; row = h.row; bottom = h.bottom }

-- the frame above
pub framed_above : {fp : ℕ} → Framed fp → fp < 1984 → Framed (fp + 64)
framed_above f h = record { top = f.top + 1; low = omega arith; framed = omega arith }

-- ---- A frame entered

pub frame_says : (methods : List ℕ) (c : Work) (y : Stay) (k at t made row sp : ℕ) (cells : List ℕ) {w : ℕ} {cleared : List ℕ}
    → y.floor ≡ y.fp + 24 → w ≡ method_cell methods row 29
    → cleared ≡ copy_of (fours w) [] 0 (y.fp + 64 + 8) (set (set (set cells (y.fp + 56) at) (y.fp + 57) (sp - y.floor)) (y.fp + 64 + 58) row)
    → with_regs (with_cells c cleared c.kinds) (record { fp = y.fp + 64; row = row; at = 0; sp = y.fp + 64 + 24; made = made }) ≡ entered methods (with_regs (with_cells c cells c.kinds) (regs_at y k at t made)) row sp
unfolding entered
frame_says methods c y k at t made row sp cells f v q =
    let a : y.fp + 64 + 24 ≡ y.fp + 88 = omega arith in
    let b : y.fp + 64 + 8 ≡ y.fp + 72 = omega arith in
    let d : y.fp + 64 + 58 ≡ y.fp + 122 = omega arith in
    rw (q, ← v, ← f, a, b, d)

module _ (methods : List ℕ) (c : Work) (r : ℕ) where
  pub start_full : 1984 ≤ c.regs.fp → start_w methods c r ≡ bad 36
  unfolding start_w room_above guard ◌>>=◌
  start_full h = simp (le-ltb _ _ h)

  pub start_goes : c.regs.fp < 1984 → {k : ℕ} → k ≡ method_cell methods r 25 → start_w methods c r ≡ ok (runs (entered methods (with_marks c (set c.marks k 1)) r c.regs.sp))
  unfolding start_w room_above guard ◌>>=◌
  start_goes h e = simp (lt-ltb _ _ h, e)

-- ---- The start of a class

turned : (b : Bool) (x z : Answer ℕ Went) → pick (true && not b) x z ≡ pick b z x
unfolding pick
turned true x z = refl
turned false x z = refl

module _ (initialisers : List ℕ) (c : Work) (k : ℕ) (then : List ℕ → Answer ℕ Went) {marks : List ℕ} (m : c.marks ≡ marks) where
  pub start_marked : (get_or marks k 0 ≡ 0 → ⊥) → starting_w initialisers c k then ≡ then (set marks k 1)
  unfolding starting_w pick
  start_marked n = simp (m, ne_eqb _ _ n)

  module _ {w : ℕ} (z : get_or marks k 0 ≡ 0) (q : w ≡ get_or initialisers k 0) where
    pub start_bare : w ≡ 0 → starting_w initialisers c k then ≡ then (set marks k 1)
    unfolding starting_w pick
    start_bare e = rw (m, eq-eqb _ _ z, ← q) (turned (eqb w 0) _ _ ∙ simp (eq-eqb _ _ e))

    pub start_waits : (w ≡ 0 → ⊥) → starting_w initialisers c k then ≡ ok (waits w)
    unfolding starting_w pick
    start_waits n = rw (m, eq-eqb _ _ z, ← q) (turned (eqb w 0) _ _ ∙ simp (ne_eqb _ _ n))
