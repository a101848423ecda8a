-- `loader::after_last::first_differing` meets its contract.
use native.Mathlib.Omega.{arith}
use Rattle.std.proofs.Common.{◌+◌, sym, ◌∙◌}
use Rattle.model.specs.Loading.{differs}
use Rattle.loader.proofs.Search.{hit, miss, none_left}
use Rattle.loader.proofs.after_last.first_differing.Goals as goal

pub returns-then-differs-clause-as_model : goal.returns-then-differs-clause-as_model
returns-then-differs-clause-as_model c = λ code ms en s G.
    c.loop-row.invariant code ms en s G ∙ hit (differs ms) ms c.loop-row.row (omega arith) (omega arith) (sym (c.differs.ensures code ms s G) ∙ c.if-differs.true)

pub loop-row-preserved : goal.loop-row-preserved
loop-row-preserved c = λ code ms en s G.
    c.loop-row.invariant code ms en s G ∙ miss (differs ms) ms c.loop-row.row (omega arith) (omega arith) (sym (c.differs.ensures code ms s G) ∙ c.if-differs.false)

pub returns-else-differs-clause-as_model : goal.returns-else-differs-clause-as_model
returns-else-differs-clause-as_model c = λ code ms en s G.
    c.loop-row.invariant code ms en s G
    ∙ miss (differs ms) ms c.loop-row.row (omega arith) (omega arith) (sym (c.differs.ensures code ms s G) ∙ c.if-differs.false)
    ∙ none_left (differs ms) ms (c.loop-row.row + 1) (omega arith) (omega arith)

pub returns-clause-as_model : goal.returns-clause-as_model
returns-clause-as_model c = λ code ms en s G. c.loop-row.invariant code ms en s G ∙ none_left (differs ms) ms c.loop-row.row (omega arith) (omega arith)
