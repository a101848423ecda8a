-- `Variable::allowed` meets its contract.
use borrow.Author.Tests.{le-ltb, lt-ltb}
use Rattle.std.proofs.Common.{ltb, sym, ap, ◌∙◌}
use Rattle.model.specs.Answer.{pick}
use Rattle.model.specs.Loading.{follows}
use Rattle.loader.specs.declared.kind.Kind.{Kind}
use Rattle.loader.specs.Kinds.{kind_byte, last_byte}
use Rattle.loader.specs.Allowed.{variable_allowed}
use Rattle.loader.proofs.variable.Variable.allowed.Goals as goal

pub returns-then-not-follows : goal.returns-then-not-follows
unfolding variable_allowed pick
returns-then-not-follows c = simp (ap (λ (k : Kind). follows (last_byte c.args.last) (kind_byte k)) (sym c.kind.ensures) ∙ sym c.follows.ensures ∙ c.if-not-follows.true)

pub returns-then-not-type_fits : goal.returns-then-not-type_fits
unfolding variable_allowed pick
returns-then-not-type_fits c = simp (ap (λ (k : Kind). follows (last_byte c.args.last) (kind_byte k)) (sym c.kind.ensures) ∙ sym c.follows.ensures ∙ c.if-not-follows.false, sym c.type_fits.ensures ∙ c.if-not-type_fits.true)

pub returns-then-most-count : goal.returns-then-most-count
unfolding variable_allowed pick
returns-then-most-count c = simp (ap (λ (k : Kind). follows (last_byte c.args.last) (kind_byte k)) (sym c.kind.ensures) ∙ sym c.follows.ensures ∙ c.if-not-follows.false, sym c.type_fits.ensures ∙ c.if-not-type_fits.false, ap (ltb c.args.count) (sym c.most.ensures) ∙ le-ltb _ _ c.if-most-count.true)

pub returns-then-barred : goal.returns-then-barred
unfolding variable_allowed pick
returns-then-barred c = simp (ap (λ (k : Kind). follows (last_byte c.args.last) (kind_byte k)) (sym c.kind.ensures) ∙ sym c.follows.ensures ∙ c.if-not-follows.false, sym c.type_fits.ensures ∙ c.if-not-type_fits.false, ap (ltb c.args.count) (sym c.most.ensures) ∙ lt-ltb _ _ c.if-most-count.false, sym c.barred.ensures ∙ c.if-barred.true)

pub returns : goal.returns
unfolding variable_allowed pick
returns c = simp (ap (λ (k : Kind). follows (last_byte c.args.last) (kind_byte k)) (sym c.kind.ensures) ∙ sym c.follows.ensures ∙ c.if-not-follows.false, sym c.type_fits.ensures ∙ c.if-not-type_fits.false, ap (ltb c.args.count) (sym c.most.ensures) ∙ lt-ltb _ _ c.if-most-count.false, sym c.barred.ensures ∙ c.if-barred.false)
