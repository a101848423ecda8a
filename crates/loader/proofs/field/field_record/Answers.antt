-- `loader::field::field_record` meets its contract.
use native.Mathlib.Omega.{arith}
use Rattle.std.proofs.lemmas.Result.{err_from_is_err_and}
use Rattle.loader.specs.Stands.{Small}
use Rattle.loader.proofs.Open.{refuse, field_open}
use Rattle.loader.proofs.Fields.{field_goes, field_taken}
use Rattle.loader.proofs.field.field_record.Goals as goal

pub returns-in_err-field_allowed : goal.returns-in_err-field_allowed
returns-in_err-field_allowed c = λ code L S. let p = err_from_is_err_and c.from_residual.result c.from_residual.ensures.1 in
    rw (p.1, p.2) (refuse _ _ _ _ _ c.in_err-field_allowed.ensures (field_goes code L _ _ _ _ _ _ S (c.next_slot-slot.ensures code L S)))

pub overflow_cast-slot : goal.overflow_cast-slot
overflow_cast-slot c = omega (arith, (field_open _ _ _ _ _ _ _ _ c.in_ok-field_allowed.ensures).3)

pub fill_field-requires : goal.fill_field-requires
fill_field-requires c = omega (arith, (field_open _ _ _ _ _ _ _ _ c.in_ok-field_allowed.ensures).2)

pub bounds-notes-class : goal.bounds-notes-class
bounds-notes-class c = omega (arith, (field_open _ _ _ _ _ _ _ _ c.in_ok-field_allowed.ensures).0, c.requires.fine.classes)

pub overflow_sub-notes : goal.overflow_sub-notes
overflow_sub-notes c = omega (arith, (field_open _ _ _ _ _ _ _ _ c.in_ok-field_allowed.ensures).1)

pub overflow_add-notes : goal.overflow_add-notes
unfolding Small
overflow_add-notes c = omega (arith, c.requires.small c.args.o, (field_open _ _ _ _ _ _ _ _ c.in_ok-field_allowed.ensures).1)

pub bounds-notes-class-2 : goal.bounds-notes-class-2
bounds-notes-class-2 c = omega (arith, (field_open _ _ _ _ _ _ _ _ c.in_ok-field_allowed.ensures).0, c.requires.fine.classes)

pub returns : goal.returns
returns c = λ code L S. field_taken code L _ _ _ _ _ _ S (c.next_slot-slot.ensures code L S) c.in_ok-field_allowed.ensures _ c.fill_field.ensures
