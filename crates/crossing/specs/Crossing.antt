-- A step that changes the frame.
use Rattle.std.specs.Prelude.{ℕ, ◌≤◌, ◌<◌, ◌≡◌, List, length, get_or, eqb}
use Rattle.model.specs.Answer.{Answer, ◌>>=◌, pick}
use Rattle.state.specs.declared.Stay.{Stay}
use Rattle.state.specs.View.{Work}
use Rattle.state.specs.Work.{Tables, Went, start_w, acts_w, settle}
use Rattle.across_frames.specs.Lent.{opcode_of}

-- the initialiser `first` comes, or the instruction at the offset is carried out
unfoldable pub crossing : Tables → List ℕ → Stay → Work → ℕ → ℕ → Answer ℕ Went
crossing P part y c next first = pick (eqb next 2) (start_w P.methods c first) (acts_w P part y c >>= λ w. settle P c w)

-- which of them: an initialiser that is there, or the opcode at the offset
pub record Crosses (next first at : ℕ) (part : List ℕ) : Type 0 where
  pub inside : at < length part
  pub first_few : next ≡ 2 → first ≤ 128
  pub opcode : (next ≡ 2 → ⊥) → get_or part at 0 ≡ opcode_of next
