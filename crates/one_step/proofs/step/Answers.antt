use native.Mathlib.Omega.{arith}
use mathlib.Core.Path.{◌∙◌}
use Rattle.model.specs.Answer.{pick}
use Rattle.across_frames.specs.Lent.{opcode_of}
use Rattle.one_step.proofs.Forms.{nop_form, ldargs, ldlocs, stlocs, null_form, ints, dup_form, pop_form, nears, fars, numbers, bits, overflows, unaries}
use Rattle.one_step.proofs.Unknown.{no_even, no_odd, no_other}
use Rattle.one_step.proofs.Promised.{away, unknown}
use Rattle.one_step.proofs.Moves.{onward, argument, local, stored, numbered, number_stored, null_constant, constant, with_operand, doubled, popped, branched}
use Rattle.one_step.proofs.Rest.{two_operands, one_operand, comparing, casting, of_object, of_class}
use Rattle.state.specs.declared.Leave.TheVariants.{Ret, Call, Callvirt, Newobj}
use Rattle.one_step.proofs.step.Goals as goal

pub cast-requires : goal.cast-requires
unfolding pick
cast-requires c = record { stays = c.requires.stays; topped = c.requires.topped; at_range = (c.requires.reads.inside, omega (arith, c.requires.reads.inside, c.requires.reads.most), c.requires.ranges.1.classes_few); get_or_is = c.requires.reads.byte ∙ c.in-116.is; placed = c.requires.ranges.0 }

pub cast-requires-in-117 : goal.cast-requires-in-117
unfolding pick
cast-requires-in-117 c = record { stays = c.requires.stays; topped = c.requires.topped; at_range = (c.requires.reads.inside, omega (arith, c.requires.reads.inside, c.requires.reads.most), c.requires.ranges.1.classes_few); get_or_is = c.requires.reads.byte ∙ c.in-117.is; placed = c.requires.ranges.0 }

pub returns-in-0 : goal.returns-in-0
returns-in-0 c = let both = onward c.requires.reads c.in-0.is nop_form c.requires.topped in record { topped = both.0; tells = both.1 }

pub returns-in-2 : goal.returns-in-2
returns-in-2 c = let both = argument c.ldarg.result c.requires.reads c.in-2.is 0 ldargs.0 (c.ldarg.ensures.own, c.ldarg.ensures.meets) in record { topped = both.0; tells = both.1 }

pub returns-in-3 : goal.returns-in-3
returns-in-3 c = let both = argument c.ldarg-in-3.result c.requires.reads c.in-3.is 1 ldargs.1 (c.ldarg-in-3.ensures.own, c.ldarg-in-3.ensures.meets) in record { topped = both.0; tells = both.1 }

pub returns-in-4 : goal.returns-in-4
returns-in-4 c = let both = argument c.ldarg-in-4.result c.requires.reads c.in-4.is 2 ldargs.2 (c.ldarg-in-4.ensures.own, c.ldarg-in-4.ensures.meets) in record { topped = both.0; tells = both.1 }

pub returns-in-5 : goal.returns-in-5
returns-in-5 c = let both = argument c.ldarg-in-5.result c.requires.reads c.in-5.is 3 ldargs.3 (c.ldarg-in-5.ensures.own, c.ldarg-in-5.ensures.meets) in record { topped = both.0; tells = both.1 }

pub returns-in-6 : goal.returns-in-6
returns-in-6 c = let both = local c.ldloc.result c.requires.reads c.in-6.is 0 ldlocs.0 (c.ldloc.ensures.own, c.ldloc.ensures.meets) in record { topped = both.0; tells = both.1 }

pub returns-in-7 : goal.returns-in-7
returns-in-7 c = let both = local c.ldloc-in-7.result c.requires.reads c.in-7.is 1 ldlocs.1 (c.ldloc-in-7.ensures.own, c.ldloc-in-7.ensures.meets) in record { topped = both.0; tells = both.1 }

pub returns-in-8 : goal.returns-in-8
returns-in-8 c = let both = local c.ldloc-in-8.result c.requires.reads c.in-8.is 2 ldlocs.2 (c.ldloc-in-8.ensures.own, c.ldloc-in-8.ensures.meets) in record { topped = both.0; tells = both.1 }

pub returns-in-9 : goal.returns-in-9
returns-in-9 c = let both = local c.ldloc-in-9.result c.requires.reads c.in-9.is 3 ldlocs.3 (c.ldloc-in-9.ensures.own, c.ldloc-in-9.ensures.meets) in record { topped = both.0; tells = both.1 }

pub returns-in-10 : goal.returns-in-10
returns-in-10 c = let both = stored c.stloc.result c.requires.reads c.in-10.is 0 stlocs.0 (c.stloc.ensures.own, c.stloc.ensures.meets) in record { topped = both.0; tells = both.1 }

pub returns-in-11 : goal.returns-in-11
returns-in-11 c = let both = stored c.stloc-in-11.result c.requires.reads c.in-11.is 1 stlocs.1 (c.stloc-in-11.ensures.own, c.stloc-in-11.ensures.meets) in record { topped = both.0; tells = both.1 }

pub returns-in-12 : goal.returns-in-12
returns-in-12 c = let both = stored c.stloc-in-12.result c.requires.reads c.in-12.is 2 stlocs.2 (c.stloc-in-12.ensures.own, c.stloc-in-12.ensures.meets) in record { topped = both.0; tells = both.1 }

pub returns-in-13 : goal.returns-in-13
returns-in-13 c = let both = stored c.stloc-in-13.result c.requires.reads c.in-13.is 3 stlocs.3 (c.stloc-in-13.ensures.own, c.stloc-in-13.ensures.meets) in record { topped = both.0; tells = both.1 }

pub returns-in-14 : goal.returns-in-14
returns-in-14 c = let both = numbered c.ldarg_s.result c.requires.reads c.in-14.is (c.ldarg_s.ensures.own, c.ldarg_s.ensures.meets) in record { topped = both.0; tells = both.1 }

pub returns-in-16 : goal.returns-in-16
returns-in-16 c = let both = number_stored c.starg_s.result c.requires.reads c.in-16.is (c.starg_s.ensures.own, c.starg_s.ensures.meets) in record { topped = both.0; tells = both.1 }

pub returns-in-17 : goal.returns-in-17
returns-in-17 c = let both = numbered c.ldloc_s.result c.requires.reads c.in-17.is (c.ldloc_s.ensures.own, c.ldloc_s.ensures.meets) in record { topped = both.0; tells = both.1 }

pub returns-in-19 : goal.returns-in-19
returns-in-19 c = let both = number_stored c.stloc_s.result c.requires.reads c.in-19.is (c.stloc_s.ensures.own, c.stloc_s.ensures.meets) in record { topped = both.0; tells = both.1 }

pub returns-in-20 : goal.returns-in-20
returns-in-20 c = let both = null_constant c.push.result c.requires.reads c.in-20.is null_form (c.push.ensures.own, c.push.ensures.meets) in record { topped = both.0; tells = both.1 }

pub returns-in-21 : goal.returns-in-21
returns-in-21 c = let both = constant c.push-in-21.result c.requires.reads c.in-21.is 0xFFFFFFFF ints.0 (c.push-in-21.ensures.own, c.push-in-21.ensures.meets) in record { topped = both.0; tells = both.1 }

pub returns-in-22 : goal.returns-in-22
returns-in-22 c = let both = constant c.push-in-22.result c.requires.reads c.in-22.is 0 ints.1 (c.push-in-22.ensures.own, c.push-in-22.ensures.meets) in record { topped = both.0; tells = both.1 }

pub returns-in-23 : goal.returns-in-23
returns-in-23 c = let both = constant c.push-in-23.result c.requires.reads c.in-23.is 1 ints.2 (c.push-in-23.ensures.own, c.push-in-23.ensures.meets) in record { topped = both.0; tells = both.1 }

pub returns-in-24 : goal.returns-in-24
returns-in-24 c = let both = constant c.push-in-24.result c.requires.reads c.in-24.is 2 ints.3 (c.push-in-24.ensures.own, c.push-in-24.ensures.meets) in record { topped = both.0; tells = both.1 }

pub returns-in-25 : goal.returns-in-25
returns-in-25 c = let both = constant c.push-in-25.result c.requires.reads c.in-25.is 3 ints.4 (c.push-in-25.ensures.own, c.push-in-25.ensures.meets) in record { topped = both.0; tells = both.1 }

pub returns-in-26 : goal.returns-in-26
returns-in-26 c = let both = constant c.push-in-26.result c.requires.reads c.in-26.is 4 ints.5 (c.push-in-26.ensures.own, c.push-in-26.ensures.meets) in record { topped = both.0; tells = both.1 }

pub returns-in-27 : goal.returns-in-27
returns-in-27 c = let both = constant c.push-in-27.result c.requires.reads c.in-27.is 5 ints.6 (c.push-in-27.ensures.own, c.push-in-27.ensures.meets) in record { topped = both.0; tells = both.1 }

pub returns-in-28 : goal.returns-in-28
returns-in-28 c = let both = constant c.push-in-28.result c.requires.reads c.in-28.is 6 ints.7 (c.push-in-28.ensures.own, c.push-in-28.ensures.meets) in record { topped = both.0; tells = both.1 }

pub returns-in-29 : goal.returns-in-29
returns-in-29 c = let both = constant c.push-in-29.result c.requires.reads c.in-29.is 7 ints.8 (c.push-in-29.ensures.own, c.push-in-29.ensures.meets) in record { topped = both.0; tells = both.1 }

pub returns-in-30 : goal.returns-in-30
returns-in-30 c = let both = constant c.push-in-30.result c.requires.reads c.in-30.is 8 ints.9 (c.push-in-30.ensures.own, c.push-in-30.ensures.meets) in record { topped = both.0; tells = both.1 }

pub returns-in-31 : goal.returns-in-31
returns-in-31 c = let both = with_operand c.ldc_i4_s.result c.requires.reads c.in-31.is (c.ldc_i4_s.ensures.own, c.ldc_i4_s.ensures.meets) in record { topped = both.0; tells = both.1 }

pub returns-in-32 : goal.returns-in-32
returns-in-32 c = let both = with_operand c.ldc_i4.result c.requires.reads c.in-32.is (c.ldc_i4.ensures.own, c.ldc_i4.ensures.meets) in record { topped = both.0; tells = both.1 }

pub returns-in-33 : goal.returns-in-33
returns-in-33 c = let both = with_operand c.ldc_i8.result c.requires.reads c.in-33.is (c.ldc_i8.ensures.own, c.ldc_i8.ensures.meets) in record { topped = both.0; tells = both.1 }

pub returns-in-35 : goal.returns-in-35
returns-in-35 c = let both = with_operand c.ldc_r8.result c.requires.reads c.in-35.is (c.ldc_r8.ensures.own, c.ldc_r8.ensures.meets) in record { topped = both.0; tells = both.1 }

pub returns-in-37 : goal.returns-in-37
returns-in-37 c = let both = doubled c.dup.result c.requires.reads c.in-37.is dup_form (c.dup.ensures.own, c.dup.ensures.meets) in record { topped = both.0; tells = both.1 }

pub returns-in-38 : goal.returns-in-38
returns-in-38 c = let both = popped c.pop.result c.requires.reads c.in-38.is pop_form (c.pop.ensures.own, c.pop.ensures.meets) in record { topped = both.0; tells = both.1 }

pub returns-in-40 : goal.returns-in-40
unfolding opcode_of pick
returns-in-40 c = let both = away c.requires.reads c.requires.topped Call c.in-40.is in record { topped = both.0; tells = both.1 }

pub returns-in-42 : goal.returns-in-42
unfolding opcode_of pick
returns-in-42 c = let both = away c.requires.reads c.requires.topped Ret c.in-42.is in record { topped = both.0; tells = both.1 }

pub returns-in-43 : goal.returns-in-43
returns-in-43 c = let both = branched c.near.result c.requires.reads c.in-43.is nears.0 (c.near.ensures.own, c.near.ensures.meets) in record { topped = both.0; tells = both.1 }

pub returns-in-44 : goal.returns-in-44
returns-in-44 c = let both = branched c.near-in-44.result c.requires.reads c.in-44.is nears.1 (c.near-in-44.ensures.own, c.near-in-44.ensures.meets) in record { topped = both.0; tells = both.1 }

pub returns-in-45 : goal.returns-in-45
returns-in-45 c = let both = branched c.near-in-45.result c.requires.reads c.in-45.is nears.2 (c.near-in-45.ensures.own, c.near-in-45.ensures.meets) in record { topped = both.0; tells = both.1 }

pub returns-in-46 : goal.returns-in-46
returns-in-46 c = let both = branched c.near-in-46.result c.requires.reads c.in-46.is nears.3 (c.near-in-46.ensures.own, c.near-in-46.ensures.meets) in record { topped = both.0; tells = both.1 }

pub returns-in-47 : goal.returns-in-47
returns-in-47 c = let both = branched c.near-in-47.result c.requires.reads c.in-47.is nears.4 (c.near-in-47.ensures.own, c.near-in-47.ensures.meets) in record { topped = both.0; tells = both.1 }

pub returns-in-48 : goal.returns-in-48
returns-in-48 c = let both = branched c.near-in-48.result c.requires.reads c.in-48.is nears.5 (c.near-in-48.ensures.own, c.near-in-48.ensures.meets) in record { topped = both.0; tells = both.1 }

pub returns-in-49 : goal.returns-in-49
returns-in-49 c = let both = branched c.near-in-49.result c.requires.reads c.in-49.is nears.6 (c.near-in-49.ensures.own, c.near-in-49.ensures.meets) in record { topped = both.0; tells = both.1 }

pub returns-in-50 : goal.returns-in-50
returns-in-50 c = let both = branched c.near-in-50.result c.requires.reads c.in-50.is nears.7 (c.near-in-50.ensures.own, c.near-in-50.ensures.meets) in record { topped = both.0; tells = both.1 }

pub returns-in-51 : goal.returns-in-51
returns-in-51 c = let both = branched c.near-in-51.result c.requires.reads c.in-51.is nears.8 (c.near-in-51.ensures.own, c.near-in-51.ensures.meets) in record { topped = both.0; tells = both.1 }

pub returns-in-52 : goal.returns-in-52
returns-in-52 c = let both = branched c.near-in-52.result c.requires.reads c.in-52.is nears.9 (c.near-in-52.ensures.own, c.near-in-52.ensures.meets) in record { topped = both.0; tells = both.1 }

pub returns-in-53 : goal.returns-in-53
returns-in-53 c = let both = branched c.near-in-53.result c.requires.reads c.in-53.is nears.10 (c.near-in-53.ensures.own, c.near-in-53.ensures.meets) in record { topped = both.0; tells = both.1 }

pub returns-in-54 : goal.returns-in-54
returns-in-54 c = let both = branched c.near-in-54.result c.requires.reads c.in-54.is nears.11 (c.near-in-54.ensures.own, c.near-in-54.ensures.meets) in record { topped = both.0; tells = both.1 }

pub returns-in-55 : goal.returns-in-55
returns-in-55 c = let both = branched c.near-in-55.result c.requires.reads c.in-55.is nears.12 (c.near-in-55.ensures.own, c.near-in-55.ensures.meets) in record { topped = both.0; tells = both.1 }

pub returns-in-56 : goal.returns-in-56
returns-in-56 c = let both = branched c.far.result c.requires.reads c.in-56.is fars.0 (c.far.ensures.own, c.far.ensures.meets) in record { topped = both.0; tells = both.1 }

pub returns-in-57 : goal.returns-in-57
returns-in-57 c = let both = branched c.far-in-57.result c.requires.reads c.in-57.is fars.1 (c.far-in-57.ensures.own, c.far-in-57.ensures.meets) in record { topped = both.0; tells = both.1 }

pub returns-in-58 : goal.returns-in-58
returns-in-58 c = let both = branched c.far-in-58.result c.requires.reads c.in-58.is fars.2 (c.far-in-58.ensures.own, c.far-in-58.ensures.meets) in record { topped = both.0; tells = both.1 }

pub returns-in-59 : goal.returns-in-59
returns-in-59 c = let both = branched c.far-in-59.result c.requires.reads c.in-59.is fars.3 (c.far-in-59.ensures.own, c.far-in-59.ensures.meets) in record { topped = both.0; tells = both.1 }

pub returns-in-60 : goal.returns-in-60
returns-in-60 c = let both = branched c.far-in-60.result c.requires.reads c.in-60.is fars.4 (c.far-in-60.ensures.own, c.far-in-60.ensures.meets) in record { topped = both.0; tells = both.1 }

pub returns-in-61 : goal.returns-in-61
returns-in-61 c = let both = branched c.far-in-61.result c.requires.reads c.in-61.is fars.5 (c.far-in-61.ensures.own, c.far-in-61.ensures.meets) in record { topped = both.0; tells = both.1 }

pub returns-in-62 : goal.returns-in-62
returns-in-62 c = let both = branched c.far-in-62.result c.requires.reads c.in-62.is fars.6 (c.far-in-62.ensures.own, c.far-in-62.ensures.meets) in record { topped = both.0; tells = both.1 }

pub returns-in-63 : goal.returns-in-63
returns-in-63 c = let both = branched c.far-in-63.result c.requires.reads c.in-63.is fars.7 (c.far-in-63.ensures.own, c.far-in-63.ensures.meets) in record { topped = both.0; tells = both.1 }

pub returns-in-64 : goal.returns-in-64
returns-in-64 c = let both = branched c.far-in-64.result c.requires.reads c.in-64.is fars.8 (c.far-in-64.ensures.own, c.far-in-64.ensures.meets) in record { topped = both.0; tells = both.1 }

pub returns-in-65 : goal.returns-in-65
returns-in-65 c = let both = branched c.far-in-65.result c.requires.reads c.in-65.is fars.9 (c.far-in-65.ensures.own, c.far-in-65.ensures.meets) in record { topped = both.0; tells = both.1 }

pub returns-in-66 : goal.returns-in-66
returns-in-66 c = let both = branched c.far-in-66.result c.requires.reads c.in-66.is fars.10 (c.far-in-66.ensures.own, c.far-in-66.ensures.meets) in record { topped = both.0; tells = both.1 }

pub returns-in-67 : goal.returns-in-67
returns-in-67 c = let both = branched c.far-in-67.result c.requires.reads c.in-67.is fars.11 (c.far-in-67.ensures.own, c.far-in-67.ensures.meets) in record { topped = both.0; tells = both.1 }

pub returns-in-68 : goal.returns-in-68
returns-in-68 c = let both = branched c.far-in-68.result c.requires.reads c.in-68.is fars.12 (c.far-in-68.ensures.own, c.far-in-68.ensures.meets) in record { topped = both.0; tells = both.1 }

pub returns-in-88 : goal.returns-in-88
returns-in-88 c = let both = two_operands c.binary.result c.requires.reads c.in-88.is _ numbers.0 (c.binary.ensures.own, c.binary.ensures.meets) in record { topped = both.0; tells = both.1 }

pub returns-in-89 : goal.returns-in-89
returns-in-89 c = let both = two_operands c.binary-in-89.result c.requires.reads c.in-89.is _ numbers.1 (c.binary-in-89.ensures.own, c.binary-in-89.ensures.meets) in record { topped = both.0; tells = both.1 }

pub returns-in-90 : goal.returns-in-90
returns-in-90 c = let both = two_operands c.binary-in-90.result c.requires.reads c.in-90.is _ numbers.2 (c.binary-in-90.ensures.own, c.binary-in-90.ensures.meets) in record { topped = both.0; tells = both.1 }

pub returns-in-91 : goal.returns-in-91
returns-in-91 c = let both = two_operands c.binary-in-91.result c.requires.reads c.in-91.is _ numbers.3 (c.binary-in-91.ensures.own, c.binary-in-91.ensures.meets) in record { topped = both.0; tells = both.1 }

pub returns-in-92 : goal.returns-in-92
returns-in-92 c = let both = two_operands c.binary-in-92.result c.requires.reads c.in-92.is _ numbers.4 (c.binary-in-92.ensures.own, c.binary-in-92.ensures.meets) in record { topped = both.0; tells = both.1 }

pub returns-in-93 : goal.returns-in-93
returns-in-93 c = let both = two_operands c.binary-in-93.result c.requires.reads c.in-93.is _ numbers.5 (c.binary-in-93.ensures.own, c.binary-in-93.ensures.meets) in record { topped = both.0; tells = both.1 }

pub returns-in-94 : goal.returns-in-94
returns-in-94 c = let both = two_operands c.binary-in-94.result c.requires.reads c.in-94.is _ numbers.6 (c.binary-in-94.ensures.own, c.binary-in-94.ensures.meets) in record { topped = both.0; tells = both.1 }

pub returns-in-95 : goal.returns-in-95
returns-in-95 c = let both = two_operands c.binary-in-95.result c.requires.reads c.in-95.is _ bits.0 (c.binary-in-95.ensures.own, c.binary-in-95.ensures.meets) in record { topped = both.0; tells = both.1 }

pub returns-in-96 : goal.returns-in-96
returns-in-96 c = let both = two_operands c.binary-in-96.result c.requires.reads c.in-96.is _ bits.1 (c.binary-in-96.ensures.own, c.binary-in-96.ensures.meets) in record { topped = both.0; tells = both.1 }

pub returns-in-97 : goal.returns-in-97
returns-in-97 c = let both = two_operands c.binary-in-97.result c.requires.reads c.in-97.is _ bits.2 (c.binary-in-97.ensures.own, c.binary-in-97.ensures.meets) in record { topped = both.0; tells = both.1 }

pub returns-in-98 : goal.returns-in-98
returns-in-98 c = let both = two_operands c.binary-in-98.result c.requires.reads c.in-98.is _ bits.3 (c.binary-in-98.ensures.own, c.binary-in-98.ensures.meets) in record { topped = both.0; tells = both.1 }

pub returns-in-99 : goal.returns-in-99
returns-in-99 c = let both = two_operands c.binary-in-99.result c.requires.reads c.in-99.is _ bits.4 (c.binary-in-99.ensures.own, c.binary-in-99.ensures.meets) in record { topped = both.0; tells = both.1 }

pub returns-in-100 : goal.returns-in-100
returns-in-100 c = let both = two_operands c.binary-in-100.result c.requires.reads c.in-100.is _ bits.5 (c.binary-in-100.ensures.own, c.binary-in-100.ensures.meets) in record { topped = both.0; tells = both.1 }

pub returns-in-101 : goal.returns-in-101
returns-in-101 c = let both = one_operand c.unary.result c.requires.reads c.in-101.is _ unaries.0 (c.unary.ensures.own, c.unary.ensures.meets) in record { topped = both.0; tells = both.1 }

pub returns-in-102 : goal.returns-in-102
returns-in-102 c = let both = one_operand c.unary-in-102.result c.requires.reads c.in-102.is _ unaries.1 (c.unary-in-102.ensures.own, c.unary-in-102.ensures.meets) in record { topped = both.0; tells = both.1 }

pub returns-in-105 : goal.returns-in-105
returns-in-105 c = let both = one_operand c.unary-in-105.result c.requires.reads c.in-105.is _ unaries.2 (c.unary-in-105.ensures.own, c.unary-in-105.ensures.meets) in record { topped = both.0; tells = both.1 }

pub returns-in-106 : goal.returns-in-106
returns-in-106 c = let both = one_operand c.unary-in-106.result c.requires.reads c.in-106.is _ unaries.3 (c.unary-in-106.ensures.own, c.unary-in-106.ensures.meets) in record { topped = both.0; tells = both.1 }

pub returns-in-108 : goal.returns-in-108
returns-in-108 c = let both = one_operand c.unary-in-108.result c.requires.reads c.in-108.is _ unaries.4 (c.unary-in-108.ensures.own, c.unary-in-108.ensures.meets) in record { topped = both.0; tells = both.1 }

pub returns-in-111 : goal.returns-in-111
unfolding opcode_of pick
returns-in-111 c = let both = away c.requires.reads c.requires.topped Callvirt c.in-111.is in record { topped = both.0; tells = both.1 }

pub returns-in-115 : goal.returns-in-115
unfolding opcode_of pick
returns-in-115 c = let both = away c.requires.reads c.requires.topped Newobj c.in-115.is in record { topped = both.0; tells = both.1 }

pub returns-in-116 : goal.returns-in-116
returns-in-116 c = let both = casting c.cast.result c.requires.reads c.in-116.is (c.cast.ensures.own, c.cast.ensures.meets) in record { topped = both.0; tells = both.1 }

pub returns-in-117 : goal.returns-in-117
returns-in-117 c = let both = casting c.cast-in-117.result c.requires.reads c.in-117.is (c.cast-in-117.ensures.own, c.cast-in-117.ensures.meets) in record { topped = both.0; tells = both.1 }

pub returns-in-123 : goal.returns-in-123
returns-in-123 c = let both = of_object c.object_load.result c.requires.reads c.in-123.is (c.object_load.ensures.own, c.object_load.ensures.meets) in record { topped = both.0; tells = both.1 }

pub returns-in-125 : goal.returns-in-125
returns-in-125 c = let both = of_object c.object_store.result c.requires.reads c.in-125.is (c.object_store.ensures.own, c.object_store.ensures.meets) in record { topped = both.0; tells = both.1 }

pub returns-in-126 : goal.returns-in-126
returns-in-126 c = let both = of_class c.static_load.result c.requires.reads c.in-126.is (c.static_load.ensures.own, c.static_load.ensures.meets) in record { topped = both.0; tells = both.1 }

pub returns-in-128 : goal.returns-in-128
returns-in-128 c = let both = of_class c.static_store.result c.requires.reads c.in-128.is (c.static_store.ensures.own, c.static_store.ensures.meets) in record { topped = both.0; tells = both.1 }

pub returns-in-214 : goal.returns-in-214
returns-in-214 c = let both = two_operands c.binary-in-214.result c.requires.reads c.in-214.is _ overflows.0 (c.binary-in-214.ensures.own, c.binary-in-214.ensures.meets) in record { topped = both.0; tells = both.1 }

pub returns-in-216 : goal.returns-in-216
returns-in-216 c = let both = two_operands c.binary-in-216.result c.requires.reads c.in-216.is _ overflows.1 (c.binary-in-216.ensures.own, c.binary-in-216.ensures.meets) in record { topped = both.0; tells = both.1 }

pub returns-in-218 : goal.returns-in-218
returns-in-218 c = let both = two_operands c.binary-in-218.result c.requires.reads c.in-218.is _ overflows.2 (c.binary-in-218.ensures.own, c.binary-in-218.ensures.meets) in record { topped = both.0; tells = both.1 }

pub returns-in-254 : goal.returns-in-254
returns-in-254 c = let both = comparing c.compared.result c.requires.reads c.in-254.is (c.compared.ensures.own, c.compared.ensures.meets) in record { topped = both.0; tells = both.1 }

pub returns-in-18 : goal.returns-in-18
returns-in-18 c = let both = unknown c.requires.reads c.requires.topped (no_even _ c.in-18.is) c.ends.ensures in record { topped = both.0; tells = both.1 }

pub returns-in-1 : goal.returns-in-1
returns-in-1 c = let both = unknown c.requires.reads c.requires.topped (no_odd _ c.in-1.is) c.ends-in-1.ensures in record { topped = both.0; tells = both.1 }

pub returns-in_default : goal.returns-in_default
returns-in_default c = let both = unknown c.requires.reads c.requires.topped (no_other _ c.requires.reads.few c.in_default.in_default-own.rest.0.0) c.ends-in_default.ensures in record { topped = both.0; tells = both.1 }
