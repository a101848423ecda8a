-- A work in which nothing is written yet, and what the beginning writes of a state.
use Rattle.std.specs.Prelude.{ℕ, List, replicate}
use Rattle.state.specs.View.{Work}
use Rattle.state.specs.declared.State.{State}

abbrev pub blank_w : Work
blank_w =
    record {
      regs = record { fp = 0; row = 0; at = 0; sp = 0; made = 0 };
      cells = replicate 2048 0;
      kinds = replicate 2048 0;
      statics = replicate 64 0;
      marks = replicate 33 0;
      classes = replicate 256 0;
      heap = replicate 2048 0;
    }

-- a state with these cells and marks
abbrev pub with_frames : State → List ℕ → List ℕ → State
with_frames s cells marks =
    record { live = s.live; cells = cells; kinds = s.kinds; statics = s.statics; marks = marks; classes = s.classes; heap = s.heap }
