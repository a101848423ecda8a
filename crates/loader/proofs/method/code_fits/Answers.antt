-- `loader::method::code_fits` meets its contract.
use Prim.Native.Nat.{◌+◌, ◌-◌}
use native.Mathlib.Omega.{arith}
use Rattle.loader.proofs.Ladder.{leb_same}
use Rattle.model.specs.Loading.{within}
use Rattle.loader.specs.Allowed.{code_in}
use borrow.Author.Tests.{le-leb, lt-leb}
use Rattle.loader.proofs.method.code_fits.Goals as goal

pub returns-then-size-lt1 : goal.returns-then-size-lt1
unfolding code_in within
returns-then-size-lt1 c = simp (lt-leb _ _ c.if-size-lt1.true)

pub returns-then-size-gt-MOST_LENGTH : goal.returns-then-size-gt-MOST_LENGTH
unfolding code_in within
returns-then-size-gt-MOST_LENGTH c = simp (le-leb _ _ c.if-size-lt1.false, lt-leb _ _ c.if-size-gt-MOST_LENGTH.true)

pub returns-then-code-size : goal.returns-then-code-size
unfolding code_in within
returns-then-code-size c = simp (le-leb _ _ c.if-size-lt1.false, le-leb _ _ c.if-size-gt-MOST_LENGTH.false, lt-leb (c.args.offset + c.args.size) c.args.code (omega arith))

pub returns : goal.returns
unfolding code_in within
returns c = simp (le-leb _ _ c.if-size-lt1.false, le-leb _ _ c.if-size-gt-MOST_LENGTH.false)
    (leb_same c.args.offset (c.args.code - c.args.size) (c.args.offset + c.args.size) c.args.code (λ h. omega arith) (λ h. omega arith))
