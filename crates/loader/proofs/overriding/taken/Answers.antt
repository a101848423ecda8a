-- `loader::overriding::taken` meets its contract.
use native.Mathlib.Omega.{arith}
use Rattle.std.proofs.Common.{◌≡◌, ℕ, ◌+◌, false, not, sym, ap, ◌∙◌}
use Rattle.std.proofs.Math.Option.{Option}
use Rattle.model.specs.Answer.{is_none}
use Rattle.model.specs.Tables.{method_at}
use Rattle.loader.proofs.Rules.{root_test, of_root_lem, root_hit, root_owner, root_other}
use Rattle.loader.proofs.Search.{hit, miss, none_left}
use Rattle.loader.proofs.overriding.taken.Goals as goal
use Rattle.loader.proofs.overriding.taken.Goals.{else-methods-base-via-then-methods-base+else-methods-base-2, else-methods-base-via-else-methods-base}

pub loop-row-init : goal.loop-row-init
loop-row-init c = λ ms en G. of_root_lem ms c.args.c c.args.q

pub returns-then-methods-base-2 : goal.returns-then-methods-base-2
unfolding is_none
returns-then-methods-base-2 c = λ ms en G.
    sym (ap (λ (o : Option ℕ). not (is_none o)) (c.loop-row.invariant ms en G ∙ hit (root_test ms c.args.c c.args.q) ms c.loop-row.row (omega arith) (omega arith) (root_hit ms G c.args.c c.args.q c.loop-row.row (omega arith) (omega arith) c.if-methods-base.true c.if-methods-base-2.true)))

pub loop-row-preserved : goal.loop-row-preserved
loop-row-preserved c = λ ms en G.
    let other : root_test ms c.args.c c.args.q c.loop-row.row (method_at ms c.loop-row.row) ≡ false = elim c.else-methods-base.branch [
      | else-methods-base-via-then-methods-base+else-methods-base-2 w ↦ root_other ms G c.args.c c.args.q c.loop-row.row (omega arith) (omega arith) w.if-methods-base-2.false
      | else-methods-base-via-else-methods-base w ↦ root_owner ms G c.args.c c.args.q c.loop-row.row (omega arith) (omega arith) w.if-methods-base.false
    ] in
    c.loop-row.invariant ms en G ∙ miss (root_test ms c.args.c c.args.q) ms c.loop-row.row (omega arith) (omega arith) other

pub returns-else-methods-base : goal.returns-else-methods-base
unfolding is_none
returns-else-methods-base c = λ ms en G.
    let other : root_test ms c.args.c c.args.q c.loop-row.row (method_at ms c.loop-row.row) ≡ false = elim c.else-methods-base.branch [
      | else-methods-base-via-then-methods-base+else-methods-base-2 w ↦ root_other ms G c.args.c c.args.q c.loop-row.row (omega arith) (omega arith) w.if-methods-base-2.false
      | else-methods-base-via-else-methods-base w ↦ root_owner ms G c.args.c c.args.q c.loop-row.row (omega arith) (omega arith) w.if-methods-base.false
    ] in
    sym (ap (λ (o : Option ℕ). not (is_none o)) (c.loop-row.invariant ms en G ∙ miss (root_test ms c.args.c c.args.q) ms c.loop-row.row (omega arith) (omega arith) other
    ∙ none_left (root_test ms c.args.c c.args.q) ms (c.loop-row.row + 1) (omega arith) (omega arith)))

pub returns : goal.returns
unfolding is_none
returns c = λ ms en G. sym (ap (λ (o : Option ℕ). not (is_none o)) (c.loop-row.invariant ms en G ∙ none_left (root_test ms c.args.c c.args.q) ms c.loop-row.row (omega arith) (omega arith)))
