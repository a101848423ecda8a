-- What a step tells.
use Rattle.std.specs.Prelude.{ℕ, ◌≤◌, ◌≡◌, true, List, get_or}
use Rattle.state.specs.declared.Stay.{Stay}
use Rattle.state.specs.declared.Step.{Step}
use Rattle.state.specs.View.{Work}
use Rattle.state.specs.Work.{Tables, with_regs, acts_w}
use Rattle.state.specs.Meets.{Few, Meets}
use Rattle.state.specs.Steps.{how_of, first_of, next_of, well_ended}
use Rattle.fields.specs.Members.{FieldRanges}
use Rattle.across_frames.specs.Lent.{opcode_of}

-- the tables in range
pub record RestRanges (class_count field_count : ℕ) (fields initialisers : List ℕ) : Type 0 where
  pub classes_few : class_count ≤ 32
  pub fields_few : field_count ≤ 128
  pub ranges : FieldRanges fields
  pub initialiser_few : Few 128 initialisers

-- the tables that the lent arrays are
pub record Lends (P : Tables) (class_count field_count : ℕ) (methods variables fields initialisers ancestors : List ℕ) : Type 0 where
  pub same_classes : P.class_count ≡ class_count
  pub same_field_count : P.field_count ≡ field_count
  pub same_methods : P.methods ≡ methods
  pub same_variables : P.variables ≡ variables
  pub same_fields : P.fields ≡ fields
  pub same_initialisers : P.initialisers ≡ initialisers
  pub same_ancestors : P.ancestors ≡ ancestors

-- the step is carried out, or another function's: then its opcode is named and the arrays are as before
pub record Tells (P : Tables) (part : List ℕ) (y : Stay) (t : Step) (before after : Work) : Type 0 where
  pub carried : next_of t ≡ 0 → Meets (how_of t) (first_of t) after before (acts_w P part y before)
  pub ended : well_ended t ≡ true
  pub opcode : (next_of t ≡ 0 → ⊥) → get_or part before.regs.at 0 ≡ opcode_of (next_of t)
  pub kept : (next_of t ≡ 0 → ⊥) → after ≡ with_regs before after.regs
