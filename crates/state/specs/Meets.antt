-- What the contracts of the steps speak of: registers in range, and the answer of a step.
use Rattle.std.specs.Prelude.{◌≡◌, ℕ, suc, ◌+◌, ◌<◌, ◌≤◌, List, length, ◌==◌, ◌≢◌, nat_lt, slice_index}
use Rattle.std.proofs.Math.Option.{Option}
use Rattle.model.specs.Answer.{Answer, bad, ok, pick}
use Rattle.model.specs.State.{Value}
use Rattle.state.specs.declared.Stay.{Stay}
use Rattle.state.specs.declared.Moved.{Moved}
use Rattle.state.specs.View.{Regs, Work}
use Rattle.state.specs.Work.{Went, runs, over, waits, with_regs, with_cells, moved_to, is_token, row_of_token}

-- a stay in one of the 32 frames and of a method row that is there
pub record Stays (y : Stay) : Type 0 where
  pub frame : y.fp + 64 ≤ 2048
  pub row : y.mp + 32 ≤ 4128
  pub floor_is : y.floor ≡ y.fp + 24
  pub limit_most : y.limit ≤ y.fp + 56

-- the stack's top lies in the frame
pub record Topped (y : Stay) (sp : ℕ) : Type 0 where
  pub low : y.floor ≤ sp
  pub high : sp ≤ y.fp + 56

-- every number of a list is at most n
pub record Few (n : ℕ) (l : List ℕ) : Type 0 where
  pub most : (i : ℕ) → slice_index l i ≤ n

-- the classes of the objects: 256 places, each a class up to 32 or 0
pub record Placed (classes : List ℕ) : Type 0 where
  pub long : length classes ≡ 256
  pub few : (i : ℕ) → slice_index classes i ≤ 32

-- a token of a kind names the row after n, where there are so many rows
pub record Names (kind token n : ℕ) : Type 0 where
  pub tests : (count : ℕ) → count < 0x1000000 → nat_lt n count ≡ is_token kind count token
  pub row_is : (count : ℕ) → count < 0x1000000 → n < count → suc n ≡ row_of_token token

-- ---- The answer of a step

-- the work at an offset, the stack up to s, with these cells and kinds
abbrev pub on_stack : Work → ℕ → ℕ → List ℕ → List ℕ → Work
on_stack c o s cells kinds = with_regs (with_cells c cells kinds) (moved_to c.regs o s)

-- 0 goes on, 2 lets the initialiser with the row `first` come first, any other number ends the run
unfoldable pub answer : ℕ → ℕ → Work → Answer ℕ Went
answer how first c = pick (how == 0) (ok (runs c)) (pick (how == 2) (ok (waits first)) (bad how))

-- a step that stays in its frame: the answer is what the definition says, and where it doesn't go on the arrays are as before
pub record Meets (how at : ℕ) (after before : Work) (said : Answer ℕ Went) : Type 0 where
  pub says : answer how at after ≡ said
  pub kept : (how ≢ 0) → after ≡ with_regs before after.regs

-- the registers of a step that may leave its frame
abbrev pub regs_of : Moved → Regs
regs_of r = record { fp = r.fp; row = r.row; at = r.at; sp = r.sp; made = r.made }

-- 1 is a return from the entry, with the value
unfoldable pub moves : ℕ → ℕ → Option Value → Work → Answer ℕ Went
moves how first value c = pick (how == 1) (ok (over value)) (answer how first c)

-- such a step; where it doesn't go on, the arrays are as before
pub record Leaves (how first : ℕ) (value : Option Value) (after before : Work) (said : Answer ℕ Went) : Type 0 where
  pub says : moves how first value after ≡ said
  pub kept : (how ≢ 0) → after ≡ with_regs before after.regs
