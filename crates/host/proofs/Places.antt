-- What stands in each cell of a state and of a shape.
use mathlib.Core.Path.{◌≡◌, refl}
use Rattle.std.specs.Prelude.{None, Some}
use Prim.Native.Nat.{ℕ, ◌-◌, ◌*◌, ◌/◌, ◌≤◌, ◌<◌}
use native.Mathlib.Nat.{div-lt_iff_lt-mul}
use native.Mathlib.Omega.{arith}
use borrow.Author.Tests.{lt-ltb, le-ltb}
use lib.ListN.{get_or}
use Rattle.model.specs.Answer.{pick}
use Rattle.state.specs.declared.State.{State}
use Rattle.checker.specs.declared.tell.Found.{Found}
use Rattle.host.specs.Hosting.{place_of, frame_place, state_cell, shape_cell}

-- ---- Frames

-- one of 32
pub frame_few : (width i : ℕ) → 0 < width → i < 32 * width → i / width < 32
frame_few width i w h = (div-lt_iff_lt-mul w).1 h

module _ (i : ℕ) where
  pub in_stacks : i < 2049 → place_of 24 32 (i - 1025) ≡ frame_place i
  unfolding frame_place pick
  in_stacks h = rw (lt-ltb _ _ h)

  pub in_arguments : 2049 ≤ i → i < 2305 → place_of 0 8 (i - 2049) ≡ frame_place i
  unfolding frame_place pick
  in_arguments a h = rw (le-ltb _ _ a, lt-ltb _ _ h)

  pub in_locals : 2305 ≤ i → i < 2817 → place_of 8 16 (i - 2305) ≡ frame_place i
  unfolding frame_place pick
  in_locals a h = rw (le-ltb i 2049 (omega arith), le-ltb _ _ a, lt-ltb _ _ h)

  pub in_offsets : 2817 ≤ i → i < 2849 → place_of 56 1 (i - 2817) ≡ frame_place i
  unfolding frame_place pick
  in_offsets a h = rw (le-ltb i 2049 (omega arith), le-ltb i 2305 (omega arith), le-ltb _ _ a, lt-ltb _ _ h)

  pub in_heights : 2849 ≤ i → i < 2881 → place_of 57 1 (i - 2849) ≡ frame_place i
  unfolding frame_place pick
  in_heights a h = rw (le-ltb i 2049 (omega arith), le-ltb i 2305 (omega arith), le-ltb i 2817 (omega arith), le-ltb _ _ a, lt-ltb _ _ h)

  pub in_methods : 2881 ≤ i → place_of 58 1 (i - 2881) ≡ frame_place i
  unfolding frame_place pick
  in_methods a =
      rw (le-ltb i 2049 (omega arith), le-ltb i 2305 (omega arith), le-ltb i 2817 (omega arith), le-ltb i 2849 (omega arith), le-ltb _ _ a)

-- ---- A state

module _ (s : State) (i : ℕ) where
  pub in_live : i < 1 → s.live ≡ state_cell s i
  unfolding state_cell pick
  in_live h = rw (lt-ltb _ _ h)

  pub in_kinds : (p : ℕ) → p ≡ place_of 24 32 (i - 1) → 1 ≤ i → i < 1025 → get_or s.kinds p 0 ≡ state_cell s i
  unfolding state_cell pick
  in_kinds p e a h = rw (e, le-ltb _ _ a, lt-ltb _ _ h)

  pub in_frames : (p : ℕ) → p ≡ frame_place i → 1025 ≤ i → i < 2913 → get_or s.cells p 0 ≡ state_cell s i
  unfolding state_cell pick
  in_frames p e a h = rw (e, le-ltb i 1 (omega arith), le-ltb _ _ a, lt-ltb _ _ h)

  pub in_statics : 2913 ≤ i → i < 2977 → get_or s.statics (i - 2913) 0 ≡ state_cell s i
  unfolding state_cell pick
  in_statics a h = rw (le-ltb i 1 (omega arith), le-ltb i 1025 (omega arith), le-ltb _ _ a, lt-ltb _ _ h)

  pub in_marks : 2977 ≤ i → i < 3010 → get_or s.marks (i - 2977) 0 ≡ state_cell s i
  unfolding state_cell pick
  in_marks a h = rw (le-ltb i 1 (omega arith), le-ltb i 1025 (omega arith), le-ltb i 2913 (omega arith), le-ltb _ _ a, lt-ltb _ _ h)

  pub in_classes : 3010 ≤ i → i < 3266 → get_or s.classes (i - 3010) 0 ≡ state_cell s i
  unfolding state_cell pick
  in_classes a h =
      rw (le-ltb i 1 (omega arith), le-ltb i 1025 (omega arith), le-ltb i 2913 (omega arith), le-ltb i 2977 (omega arith), le-ltb _ _ a, lt-ltb _ _ h)

  pub in_heap : 3266 ≤ i → get_or s.heap (i - 3266) 0 ≡ state_cell s i
  unfolding state_cell pick
  in_heap a =
      let b : 3010 ≤ i = omega arith in
      rw (le-ltb i 1 (omega arith), le-ltb i 1025 (omega arith), le-ltb i 2913 (omega arith), le-ltb i 2977 (omega arith), le-ltb _ _ b, le-ltb _ _ a)

-- ---- A shape

-- no shape: each cell is 0
pub in_none : (i : ℕ) → 0 ≡ shape_cell None i
unfolding shape_cell
in_none i = refl

module _ (f : Found) (i : ℕ) where
  pub in_starts : i < 1 → 1 ≡ shape_cell (Some f) i
  unfolding shape_cell pick
  in_starts h = rw (lt-ltb _ _ h)

  pub in_depth : 1 ≤ i → i < 2 → f.depth ≡ shape_cell (Some f) i
  unfolding shape_cell pick
  in_depth a h = rw (le-ltb _ _ a, lt-ltb _ _ h)

  pub in_types : 2 ≤ i → get_or f.types (i - 2) 0 ≡ shape_cell (Some f) i
  unfolding shape_cell pick
  in_types a = rw (le-ltb i 1 (omega arith), le-ltb _ _ a)
