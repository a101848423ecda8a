-- `kept_size` meets its contract: after FE, 01 to 05 are kept.
use native.Mathlib.Omega.{arith}
use Prim.Native.Nat.{◌+◌}
use Rattle.code.proofs.Forms.{after_zero, after_six, after_kept}
use Rattle.code.proofs.Sizes.{two, plain_size, second_none, second_size}
use borrow.Author.Rules.{rules}
use Rattle.code.proofs.decode.kept_size.Goals as goal

pub bounds-code-second : goal.bounds-code-second
bounds-code-second c =
    let s = c in
    omega (arith, two s.args.code.now s.args.at s.args.size s.requires.at_inside s.requires.size_is s.requires.code_at_inside c.if-code-at.true)

pub returns-then-b-lt1 : goal.returns-then-b-lt1
returns-then-b-lt1 c = let i = c in
    let s = i in
    let byte = c.type_inv.code (s.args.at + 1) in
    record { result_is = second_none s.args.code.now s.args.at s.args.size s.requires.at_inside s.requires.size_is s.requires.code_at_inside i.if-code-at.true (after_zero _ c.if-b-lt1.true (omega (arith, byte))); result_at_most = search rules }

pub returns-then-b-gt5 : goal.returns-then-b-gt5
returns-then-b-gt5 c = let i = c in
    let s = i in
    let byte = c.type_inv.code (s.args.at + 1) in
    record { result_is = second_none s.args.code.now s.args.at s.args.size s.requires.at_inside s.requires.size_is s.requires.code_at_inside i.if-code-at.true (after_six _ c.if-b-gt5.true (omega (arith, byte))); result_at_most = search rules }

pub returns-then-code-at : goal.returns-then-code-at
returns-then-code-at c = let i = c in
    let s = i in
    let byte = c.type_inv.code (s.args.at + 1) in
    record { result_is = second_size s.args.code.now s.args.at s.args.size s.requires.at_inside s.requires.size_is s.requires.code_at_inside i.if-code-at.true (after_kept _ c.if-b-lt1.false c.if-b-gt5.false (omega (arith, byte))); result_at_most = search rules }

pub returns : goal.returns
returns c = let s = c in
    record { result_is = plain_size s.args.code.now s.args.at s.args.size s.requires.at_inside s.requires.size_is s.requires.code_at_inside (omega (arith, c.type_inv.code s.args.at)) c.if-code-at.false; result_at_most = search rules }
