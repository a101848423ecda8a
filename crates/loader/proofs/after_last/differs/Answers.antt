-- `loader::after_last::differs` meets its contract.
use native.Mathlib.Omega.{arith}
use Rattle.loader.specs.Stands.{Earlier}
use Rattle.loader.proofs.Rules.{differs_none, differs_return, differs_count, differs_cells}
use Rattle.loader.proofs.after_last.differs.Goals as goal

pub returns-then-v-eq0 : goal.returns-then-v-eq0
returns-then-v-eq0 c = λ code ms s G. differs_none s G c.args.row c.if-v-eq0.true

pub bounds-methods-above : goal.bounds-methods-above
unfolding Earlier
bounds-methods-above c = omega (arith, c.requires.earlier c.args.row)

pub returns-then-methods-base : goal.returns-then-methods-base
returns-then-methods-base c = λ code ms s G. differs_return s G c.args.row c.if-v-eq0.false c.if-methods-base.true

pub bounds-methods-above-2 : goal.bounds-methods-above-2
unfolding Earlier
bounds-methods-above-2 c = omega (arith, c.requires.earlier c.args.row)

pub returns-then-methods-base-2 : goal.returns-then-methods-base-2
returns-then-methods-base-2 c = λ code ms s G. differs_count s G c.args.row c.if-v-eq0.false c.if-methods-base.false c.if-methods-base-2.true

pub same_params-requires-clause-b_at_most : goal.same_params-requires-clause-b_at_most
unfolding Earlier
same_params-requires-clause-b_at_most c = omega (arith, c.requires.earlier c.args.row)

pub returns : goal.returns
returns c = λ code ms s G. differs_cells s G c.args.row c.if-v-eq0.false c.if-methods-base.false c.if-methods-base-2.false c.same_params.result c.same_params.ensures
