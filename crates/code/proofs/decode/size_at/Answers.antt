-- `size_at` meets its contract: nothing can be read where the bytes don't suffice.
use native.Mathlib.Omega.{arith}
use mathlib.Core.Path.{◌≡◌, sym, ap, ◌∙◌}
use Prim.Native.Nat.{◌<◌}
use lib.ListN.{get_or}
use Rattle.model.specs.Code.{length_of}
use Rattle.code.proofs.Forms.{at_most_nine}
use Rattle.code.proofs.Decoding.{cut}
use Rattle.code.proofs.Sizes.{size_none}
use Rattle.code.proofs.decode.size_at.Goals as goal

pub returns-then-code-at-clause-result_is : goal.returns-then-code-at-clause-result_is
returns-then-code-at-clause-result_is c =
    let byte : c.from.result < 256 = omega (arith, c.from.ensures, c.type_inv.code c.args.at) in
    let e : c.from-size.result ≡ length_of (get_or c.args.code.now c.args.at 0) = c.from-size.ensures ∙ c.requires.lengths c.from.result byte ∙ ap length_of c.from.ensures in
    sym (size_none _ _ (cut c.args.code.now c.args.at c.requires.at_inside (omega (arith, c.if-code-at.true, e))))

pub returns-clause-result_at_most : goal.returns-clause-result_at_most
returns-clause-result_at_most c =
    let byte : c.from.result < 256 = omega (arith, c.from.ensures, c.type_inv.code c.args.at) in
    let e : c.from-size.result ≡ length_of c.from.result = c.from-size.ensures ∙ c.requires.lengths c.from.result byte in
    omega (arith, e, at_most_nine c.from.result, c.kept_size.ensures.result_at_most)
