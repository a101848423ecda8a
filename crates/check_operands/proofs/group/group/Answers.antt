-- `group` meets its contract: the byte's group stands in the table, and five bytes are kept after FE.
use mathlib.Core.List.{List}
use mathlib.Core.Path.{ap}
use Prim.Native.Nat.{ℕ}
use borrow.Author.Tests.{lt-ltb, le-ltb, eq-eqb, ne_eqb}
use lib.ListN.{get_or}
use Rattle.model.specs.Answer.{pick}
use Rattle.check_operands.specs.Groups.{group_of}
use Rattle.check_operands.proofs.group.group.Goals as goal

pub returns-then-op-lt256 : goal.returns-then-op-lt256
unfolding group_of pick
returns-then-op-lt256 c = λ e. simp (lt-ltb _ _ c.if-op-lt256.true) (ap (λ (l : List ℕ). get_or l c.args.op 0) e)

pub returns-then-op-eq65025 : goal.returns-then-op-eq65025
unfolding group_of pick
returns-then-op-eq65025 c = λ e. simp (le-ltb _ _ c.if-op-lt256.false, eq-eqb _ _ c.if-op-eq65025.true)

pub returns-then-op-lt65026 : goal.returns-then-op-lt65026
unfolding group_of pick
returns-then-op-lt65026 c = λ e. simp (le-ltb _ _ c.if-op-lt256.false, ne_eqb _ _ c.if-op-eq65025.false, lt-ltb _ _ c.if-op-lt65026.true)

pub returns-then-op-lt65030 : goal.returns-then-op-lt65030
unfolding group_of pick
returns-then-op-lt65030 c =
    let the-if1 = c.if-op-lt256 in
    let the-if2 = c.if-op-eq65025 in
    let the-if3 = c.if-op-lt65026 in
    λ e. simp (le-ltb _ _ the-if1.false, ne_eqb _ _ the-if2.false, le-ltb _ _ the-if3.false, lt-ltb _ _ c.if-op-lt65030.true)

pub returns : goal.returns
unfolding group_of pick
returns c =
    let the-if1 = c.if-op-lt256 in
    let the-if2 = c.if-op-eq65025 in
    let the-if3 = c.if-op-lt65026 in
    λ e. simp (le-ltb _ _ the-if1.false, ne_eqb _ _ the-if2.false, le-ltb _ _ the-if3.false, le-ltb _ _ c.if-op-lt65030.false)
