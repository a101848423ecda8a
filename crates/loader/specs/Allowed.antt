-- What each record is refused with, by its tests in their order: the first that fails.
use Rattle.std.specs.Prelude.{ℕ, ◌+◌, Bool, not, ◌&&◌, leb, ltb, eqb, Result, Ok, Err, ⊤}
use Rattle.model.specs.Answer.{pick, is_none}
use Rattle.model.specs.Tables.{most_classes, most_fields, most_statics, most_methods, most_instance, most_stack, most_length, type_at}
use Rattle.loader.specs.declared.refusal.Refusal.{Refusal}
use Rattle.loader.specs.declared.refusal.Refusal.TheVariants.{Order, Range, TooMany, Rule}
use Rattle.loader.specs.declared.variable.Variable.{Variable}
use Rattle.loader.specs.Kinds.{kind_byte}
use Rattle.loader.specs.Variables.{kind_of, most_of, barred}
use Rattle.model.specs.Loading.{follows, within, parent_fits, return_at}

unfoldable pub is_type : ℕ → ℕ → Bool
is_type classes t = not (is_none (type_at classes t))

unfoldable pub is_return : ℕ → ℕ → Bool
is_return classes t = not (is_none (return_at classes t))

-- the code part, in a buffer of so many bytes
unfoldable pub code_in : ℕ → ℕ → ℕ → Bool
code_in code offset size = within 1 most_length size && leb (offset + size) code

unfoldable pub class_allowed : ℕ → ℕ → ℕ → Result ⊤ Refusal
class_allowed last classes p =
    pick (follows last 1) (pick (parent_fits classes p) (pick (ltb classes most_classes) (Ok tt) (Err TooMany)) (Err Range)) (Err Order)

-- the slot that the next field would have is how many there are of its kind
unfoldable pub slot_room : ℕ → ℕ → ℕ → Bool
slot_room fields flag slot = ltb fields most_fields && pick (eqb flag 1) (ltb slot most_statics) (ltb slot most_instance)

unfoldable pub field_allowed : ℕ → ℕ → ℕ → ℕ → ℕ → ℕ → ℕ → ℕ → Result ⊤ Refusal
field_allowed last before classes fields o flag t slot =
    pick (follows last 2 && leb before o)
    (pick (within 1 classes o) (pick (leb flag 1) (pick (is_type classes t) (pick (slot_room fields flag slot) (Ok tt) (Err TooMany)) (Err Range)) (Err Range)) (Err Range))
    (Err Order)

unfoldable pub method_allowed : ℕ → ℕ → ℕ → ℕ → ℕ → ℕ → ℕ → Bool → Bool → Bool → Result ⊤ Refusal
method_allowed last classes methods o sort returns stack part over fits =
    pick (follows last 3)
    (pick (within 1 classes o)
    (pick (leb sort 4)
    (pick (is_return classes returns)
    (pick (leb stack most_stack) (pick part (pick (ltb methods most_methods) (pick (over && fits) (Ok tt) (Err Rule)) (Err TooMany)) (Err Range)) (Err Range))
    (Err Range))
    (Err Range))
    (Err Range))
    (Err Order)

unfoldable pub variable_allowed : Variable → ℕ → ℕ → ℕ → ℕ → ℕ → Result ⊤ Refusal
variable_allowed v last classes t count sort =
    pick (follows last (kind_byte (kind_of v)))
    (pick (is_type classes t) (pick (ltb count (most_of v)) (pick (not (barred v sort)) (Ok tt) (Err Rule)) (Err TooMany)) (Err Range))
    (Err Order)

unfoldable pub entry_allowed : ℕ → ℕ → ℕ → Bool → Result ⊤ Refusal
entry_allowed last methods r fits = pick (follows last 6) (pick (within 1 methods r) (pick fits (Ok tt) (Err Rule)) (Err Range)) (Err Order)
