-- The listed runs, by computation: `unfolding` opens every definition that they go through.
use mathlib.Core.Path.{◌≡◌, refl}
use Rattle.model.specs.Answer.{◌>>=◌, guard, need, blame, pick, only_if, or_else, map_option, is_none, is_nil, at, row, keep_if, those, first_row, last_of}
use Rattle.model.specs.Tables.{byte_of, eq_ty, eq_tys, type_at, sort_at, sort_byte, is_sort, part_of, method_at, as_list, due, parent_of, field_types}
use Rattle.model.specs.Tables.{is_static_field}
use Rattle.model.specs.Tables.{slot, initialiser_of}
use Rattle.model.specs.Loading.{refusal, little, nothing, body_bytes, within, follows, parent_fits, class_record, no_field, field_room, field_record}
use Rattle.model.specs.Loading.{return_at, override_fits, root_free, sort_fits, code_fits, method_record, is_class, all, no_class, entry_fits, entry_record}
use Rattle.model.specs.Loading.{one_record, read_record, records, differs, agreed, load}
use Rattle.model.specs.Code.{size_of, length_by, length_of, ◌is◌, op, const, i4_s, i4, branches, loads, operators, objects}
use Rattle.model.specs.Code.{instructions, form_of, target, as_form, full_form, and_then, decode_byte, decode_at, decode, row_of, field_of, operands}
use Rattle.model.specs.Operators.{fits, kind, kind_number, same, wrap, holds, divided, checked, integer, whole_of, meaning, number_of, integers_of}
use Rattle.model.specs.Operators.{binary_of, testable}
use Rattle.model.specs.State.{value, zero_of, bits_in, type_of, fits_value, kind_of, firsts, fit_all, pops, pop1, pop2, room, enter}
use Rattle.model.specs.Step.{moved, with_top, move, move_with, push, started_by_field, is_marked, mark, start_by, starting, do_binary, do_test, do_jump, do_push}
use Rattle.model.specs.Step.{popping, resumed, return, do_ret, slot_in, do_ldsfld, do_stsfld, do_plain, act, step}
use Rattle.model.specs.Run.{admit, first_marks, first_frames, first, halted, finished, after, steps, run_module, run}
use Rattle.model.specs.Check.{decode_from, starts, targets, all_start, find_operands, pushes, plain_effect, test_effect, jump_effect, effect, jump_falls}
use Rattle.model.specs.Check.{plain_falls, falls, joined, meet, arrive, arrivals, shape_at, visit, visits, check_method, fault_in, check_methods}
use Rattle.model.specs.Check.{check_module, check}
use Rattle.model.specs.Turn.{digits, decimal, signed, text_of, ended_line, line_of, space, print, play, answer, turn}
use Rattle.model.specs.Listed.{starred, as_written, easy_to_get_wrong, got_right, example, example_line}

-- those marked *, together; what is easy to get wrong, where none of them shows it; the example of `turn`
pub listed : (starred ≡ as_written) × (easy_to_get_wrong ≡ got_right) × (turn example ≡ example_line)
unfolding ◌>>=◌ guard need blame pick only_if or_else map_option is_none is_nil at row keep_if those first_row last_of byte_of eq_ty eq_tys type_at sort_at sort_byte is_sort
    part_of method_at as_list due parent_of field_types is_static_field slot initialiser_of refusal little nothing body_bytes within follows parent_fits class_record
    no_field field_room field_record return_at override_fits root_free sort_fits code_fits method_record is_class all no_class entry_fits entry_record one_record read_record
    records differs agreed load size_of length_by length_of ◌is◌ op const i4_s i4 branches loads operators objects instructions form_of target
    as_form full_form and_then decode_byte decode_at decode row_of field_of operands fits kind kind_number same wrap holds divided checked integer whole_of meaning
    number_of integers_of binary_of testable value zero_of bits_in type_of fits_value kind_of firsts fit_all pops pop1 pop2 room enter moved with_top move move_with push
    started_by_field is_marked mark start_by starting do_binary do_test do_jump do_push popping resumed return do_ret slot_in do_ldsfld do_stsfld do_plain act step admit
    first_marks first_frames first halted finished after steps run_module run decode_from starts targets all_start find_operands pushes plain_effect test_effect
    jump_effect effect jump_falls plain_falls falls joined meet arrive arrivals shape_at visit visits check_method fault_in check_methods check_module check digits
    decimal signed text_of ended_line line_of space print play answer turn
listed = (refl, refl, refl)
