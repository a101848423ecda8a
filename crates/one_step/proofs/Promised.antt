-- What a step promises, whatever its arm.
use Prim.Native.Nat.{ℕ}
use mathlib.Core.Path.{◌≡◌, refl, sym, subst, ◌∙◌}
use mathlib.Core.Option.{none}
use mathlib.Core.List.{List}
use native.Mathlib.Omega.{arith}
use Rattle.model.specs.Answer.{pick}
use Rattle.model.specs.Code.{instructions, form_of}
use Rattle.state.specs.declared.Leave.{Leave}
use Rattle.state.specs.declared.Leave.TheVariants.{Ret, Call, Callvirt, Newobj}
use Rattle.state.specs.declared.Stay.{Stay}
use Rattle.state.specs.declared.Step.{Step}
use Rattle.state.specs.declared.Step.TheVariants.{Ends, Leaves}
use Rattle.state.specs.View.{Work}
use Rattle.state.specs.Work.{Tables, acts_w}
use Rattle.state.specs.Meets.{Stays, Topped, answer}
use Rattle.state.specs.Steps.{leave_number, top_after, led, Own, ComesTo}
use Rattle.in_frame.specs.Tries.{Reads}
use Rattle.fields.specs.Members.{on_member, Reaches, LendsFields}
use Rattle.across_frames.specs.Lent.{opcode_of}
use Rattle.one_step.specs.Told.{RestRanges, Lends, Tells}
use Rattle.one_step.proofs.Unknown.{unformed}

-- the tables that are lent to the instructions on fields
pub lends_fields : {P : Tables} {n k : ℕ} {methods variables fields initialisers ancestors : List ℕ} → Lends P n k methods variables fields initialisers ancestors
    → LendsFields P k fields initialisers ancestors
lends_fields l =
    record { same_count = l.same_field_count; same_fields = l.same_fields; same_initialisers = l.same_initialisers; same_ancestors = l.same_ancestors }

-- what a field's instruction asks
pub reached : {y : Stay} {sp at b : ℕ} {part fields initialisers : List ℕ} {class_count field_count : ℕ}
    → Stays y → Topped y sp → Reads at part b → RestRanges class_count field_count fields initialisers → Reaches y sp at 0 fields initialisers
reached s t r q =
    record {
      stays = s;
      topped = t;
      at_few = omega (arith, r.inside, r.most);
      row_few = omega arith;
      ranges = q.ranges;
      initialiser_few = q.initialiser_few;
    }

-- ---- What is lent, and where the running frame is

module _ (part cells kinds marks classes heap statics methods variables fields initialisers ancestors : List ℕ) (class_count field_count : ℕ) (y : Stay) (at sp : ℕ) where
  abbrev before : Work → Work
  before c = on_member c at sp cells kinds marks classes heap statics

  -- the step comes to what is said
  abbrev Does : Step → List ℕ → List ℕ → List ℕ → List ℕ → List ℕ → Type 0
  Does x cells' kinds' marks' heap' statics' =
      (P : Tables) (c : Work) → Lends P class_count field_count methods variables fields initialisers ancestors
      → ComesTo x (on_member c at sp cells' kinds' marks' classes heap' statics') (before c) (acts_w P part y (before c))

  -- what the step ensures
  abbrev pub Promised : Step → List ℕ → List ℕ → List ℕ → List ℕ → List ℕ → Type 0
  Promised x cells' kinds' marks' heap' statics' =
      Topped y (top_after x sp)
      × ((P : Tables) (c : Work) → Lends P class_count field_count methods variables fields initialisers ancestors
      → Tells P part y x (before c) (led x (on_member c at sp cells' kinds' marks' classes heap' statics')))

-- a step that leaves the frame is another function's
pub leaves_to : (l : Leave) → leave_number l ≡ 0 → ⊥
leaves_to Ret e = absurd (omega arith)
leaves_to Call e = absurd (omega arith)
leaves_to Callvirt e = absurd (omega arith)
leaves_to Newobj e = absurd (omega arith)

module _ {part cells kinds marks classes heap statics methods variables fields initialisers ancestors : List ℕ} {class_count field_count : ℕ} {y : Stay} {at sp : ℕ} where
  -- a step that stays in its frame
  pub carried : {x : Step} {cells' kinds' marks' heap' statics' : List ℕ} → Own y sp x
      → Does part cells kinds marks classes heap statics methods variables fields initialisers ancestors class_count field_count y at sp x cells' kinds' marks' heap' statics'
      → Promised part cells kinds marks classes heap statics methods variables fields initialisers ancestors class_count field_count y at sp x cells' kinds' marks' heap' statics'
  carried o d = (o.topped, λ P c l. record { carried = λ _. d P c l; ended = o.ended; opcode = λ n. absurd (n o.stays); kept = λ n. absurd (n o.stays) })

  module _ {b : ℕ} (r : Reads at part b) (t : Topped y sp) where
    -- one that leaves it
    pub away : (l : Leave) → b ≡ opcode_of (leave_number l)
        → Promised part cells kinds marks classes heap statics methods variables fields initialisers ancestors class_count field_count y at sp (Leaves l) cells kinds marks heap statics
    away l q = (t, λ P c _. record { carried = λ s. absurd (leaves_to l s); ended = refl; opcode = λ _. r.byte ∙ q; kept = λ _. refl })

    -- a byte that is no opcode
    pub unknown : {x : Step} → form_of instructions b ≡ none → x ≡ Ends 41
        → Promised part cells kinds marks classes heap statics methods variables fields initialisers ancestors class_count field_count y at sp x cells kinds marks heap statics
    unfolding answer pick
    unknown o e =
        subst (λ (x : Step). Promised part cells kinds marks classes heap statics methods variables fields initialisers ancestors class_count field_count y at sp x cells kinds marks heap statics) (sym e)
        (carried (record { stays = refl; ended = refl; topped = t }) (λ P c l. record { says = sym (unformed P part y _ r o); kept = λ _. refl }))
