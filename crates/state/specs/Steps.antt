-- How a step went, in the words of the machine in arrays.
use Rattle.std.specs.Prelude.{ℕ, ◌≡◌, Bool, true, not, ◌||◌, ◌==◌}
use Rattle.model.specs.Answer.{Answer}
use Rattle.state.specs.declared.Stay.{Stay}
use Rattle.state.specs.declared.Step.{Step}
use Rattle.state.specs.declared.Step.TheVariants.{On, Start, Ends, Leaves}
use Rattle.state.specs.declared.Leave.{Leave}
use Rattle.state.specs.declared.Leave.TheVariants.{Ret, Call, Callvirt, Newobj}
use Rattle.state.specs.declared.ending.Ending.{Ending}
use Rattle.state.specs.declared.ending.Ending.TheVariants.{NullReference, InvalidCast, UsedFrames, UsedObjects, UsedBudget, Undecodable, BadOperand, TooFew, TooMany, WrongType, PastEnd}
use Rattle.state.specs.View.{Work}
use Rattle.state.specs.Work.{Went, with_regs, moved_to}
use Rattle.state.specs.Meets.{Topped, Meets}

-- the numbers of 01
abbrev pub number : Ending → ℕ
number NullReference = 34
number InvalidCast = 35
number UsedFrames = 36
number UsedObjects = 37
number UsedBudget = 38
number Undecodable = 41
number BadOperand = 42
number TooFew = 43
number TooMany = 44
number WrongType = 45
number PastEnd = 46

-- 0 goes on, 2 lets the initialiser with the row `first_of` come first, any other number ends the run
abbrev pub how_of : Step → ℕ
how_of (On at sp) = 0
how_of (Start first) = 2
how_of (Ends e) = e
how_of (Leaves l) = 0

abbrev pub first_of : Step → ℕ
first_of (On at sp) = 0
first_of (Start first) = first
first_of (Ends e) = 0
first_of (Leaves l) = 0

-- the function that a step which leaves the frame is left to, by number; 0 where it stays
abbrev pub leave_number : Leave → ℕ
leave_number Ret = 3
leave_number Call = 4
leave_number Callvirt = 5
leave_number Newobj = 6

abbrev pub next_of : Step → ℕ
next_of (On at sp) = 0
next_of (Start first) = 0
next_of (Ends e) = 0
next_of (Leaves l) = leave_number l

-- the offset and the stack's top after a step from o and s; they stay where it doesn't go on
abbrev pub at_after : Step → ℕ → ℕ
at_after (On at sp) o = at
at_after (Start first) o = o
at_after (Ends e) o = o
at_after (Leaves l) o = o

abbrev pub top_after : Step → ℕ → ℕ
top_after (On at sp) s = sp
top_after (Start first) s = s
top_after (Ends e) s = s
top_after (Leaves l) s = s

-- the work with these arrays where a step led
abbrev pub led : Step → Work → Work
led r c = with_regs c (moved_to c.regs (at_after r c.regs.at) (top_after r c.regs.sp))

-- a number that ends a run is none of those with another meaning
abbrev pub ends_run : ℕ → Bool
ends_run e = not ((e == 0) || (e == 2))

abbrev pub well_ended : Step → Bool
well_ended (On at sp) = true
well_ended (Start first) = true
well_ended (Ends e) = ends_run e
well_ended (Leaves l) = true

-- a step that stays in its frame, the stack's top too
pub record Own (y : Stay) (sp : ℕ) (r : Step) : Type 0 where
  pub stays : next_of r ≡ 0
  pub ended : well_ended r ≡ true
  pub topped : Topped y (top_after r sp)

-- such a step from the work `before` comes to what is said; the arrays that it left are those of `after`
abbrev pub ComesTo : Step → Work → Work → Answer ℕ Went → Type 0
ComesTo r after before said = Meets (how_of r) (first_of r) (led r after) before said
