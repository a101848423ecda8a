-- `known` meets its contract: an instruction with a length has all its bytes.
use native.Mathlib.Omega.{arith}
use mathlib.Core.Path.{refl, sym, ap, ◌∙◌}
use Prim.Native.Nat.{◌-◌}
use lib.ListN.{length-drop}
use Rattle.model.specs.Loading.{little}
use Rattle.code.proofs.Bytes.{one}
use Rattle.code.proofs.Parts.{to_end, after_one}
use Rattle.code.proofs.Reading.{inside, within, of_length, two, known_second, known_plain}
use Rattle.code.proofs.decode.known.Goals as goal

pub bounds-code-at : goal.bounds-code-at
bounds-code-at c =
    let s = c in
    inside s.args.code.now s.args.at s.args.size s.requires.size_is s.requires.size_positive

pub overflow_add-from : goal.overflow_add-from
overflow_add-from c =
    let s = c in
    record { fits = omega (arith, inside s.args.code.now s.args.at s.args.size s.requires.size_is s.requires.size_positive) }

pub slice_bounds-rest-count : goal.slice_bounds-rest-count
slice_bounds-rest-count c =
    let s = c in
    omega (arith, inside s.args.code.now s.args.at s.args.size s.requires.size_is s.requires.size_positive)

pub slice_bounds-rest-start : goal.slice_bounds-rest-start
slice_bounds-rest-start c =
    let s = c in
    omega (arith, inside s.args.code.now s.args.at s.args.size s.requires.size_is s.requires.size_positive)

pub overflow_add-next : goal.overflow_add-next
overflow_add-next c =
    let s = c in
    record { fits = omega (arith, within s.args.code.now s.args.at s.args.size s.requires.size_is s.requires.size_positive) }

pub bounds-rest-0 : goal.bounds-rest-0
bounds-rest-0 c =
    let s = c in
    simp (to_end, length-drop) (omega (arith, within s.args.code.now s.args.at s.args.size s.requires.size_is s.requires.size_positive, two s.args.code.now s.args.at s.args.size s.requires.size_is s.requires.size_positive c.if-b.true))

pub returns-then-b : goal.returns-then-b
returns-then-b c = let s = c in
    record { decode_is = known_second s.args.code.now s.args.at s.args.size s.requires.size_is s.requires.size_positive _ c.if-b.true (c.from.ensures ∙ sym (one _) ∙ ap (little 1) (after_one s.args.at s.args.code.now)); next_is = refl }

pub operand-requires : goal.operand-requires
operand-requires c = let s = c in
    record { length = of_length s.args.code.now s.args.at s.args.size s.requires.size_is s.requires.size_positive; size_inside = simp (to_end, length-drop) (omega (arith, within s.args.code.now s.args.at s.args.size s.requires.size_is s.requires.size_positive)) }

pub returns : goal.returns
returns c = let k = c in
    let s = k in
    let byte = k.type_inv.code s.args.at in
    let operand = c.operand.ensures ∙ ap (little (s.args.size - 1)) (after_one s.args.at s.args.code.now) in
    rw c.from-2.ensures (record { decode_is = known_plain s.args.code.now s.args.at s.args.size s.requires.size_is s.requires.size_positive _ (omega (arith, byte)) c.if-b.false operand; next_is = refl })
