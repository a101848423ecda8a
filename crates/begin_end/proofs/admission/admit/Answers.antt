use mathlib.Core.Path.{refl, sym, ◌∙◌}
use Rattle.model.specs.Answer.{pick, only_if}
use native.Mathlib.Omega.{arith}
use Rattle.begin_end.proofs.Admitting.{miscounted, turned_down, let_in}
use Rattle.begin_end.proofs.Laying.{copied}
use Rattle.begin_end.proofs.admission.admit.Goals as goal

pub returns-then-count-from : goal.returns-then-count-from
unfolding only_if pick
returns-then-count-from c = record { state_is = refl; as_model = λ M code L H fine em en. miscounted M code L c.args.given.now H fine em en (λ e. c.if-count-from.true (e ∙ sym c.from.ensures)) }

pub returns-then-not-takes_all : goal.returns-then-not-takes_all
unfolding only_if pick
returns-then-not-takes_all c = record { state_is = refl; as_model = λ M code L H fine em en. turned_down M code L c.args.given.now H fine em en (omega arith) (c.if-count-from.false ∙ c.from.ensures) (record { word = λ j. c.type_inv.given j }) _ (omega arith) (sym c.takes_all.ensures ∙ c.if-not-takes_all.true) }

pub returns : goal.returns
unfolding only_if pick
returns c = record {
  state_is = rw (← (c.if-count-from.false ∙ c.from.ensures), copied c.args.given.now c.args.state.now.cells (omega arith), c.copy_from_slice.ensures.after);
  as_model = λ M code L H fine em en. let_in M code L c.args.given.now H fine em en (omega arith) (c.if-count-from.false ∙ c.from.ensures) (record { word = λ j. c.type_inv.given j }) _ (omega arith) (sym c.takes_all.ensures ∙ c.if-not-takes_all.false);
}
