-- `loader::method::sort_fits` meets its contract.
use mathlib.Core.Path.{sym, ◌∙◌}
use Rattle.loader.proofs.Rules.{sort_rule, sort_object, sort_value, sort_single, sort_constructor, sort_other, past}
use lib.ListN.{get_or}
use borrow.Author.Tests.{eq-eqb}
use Rattle.loader.proofs.method.sort_fits.Goals as goal

pub returns-then-o-eq1 : goal.returns-then-o-eq1
returns-then-o-eq1 c = λ L R. sort_rule L R c.args.b.owner c.args.b.sort c.args.b.returns _ (sort_object c.args.b.sort c.args.b.owner c.args.b.returns (get_or c.args.initialisers.now c.args.b.owner 0) c.if-b-eq-INITIALISER.true c.if-o-eq1.true)

pub returns-then-b-ne-VOID : goal.returns-then-b-ne-VOID
returns-then-b-ne-VOID c = λ L R. sort_rule L R c.args.b.owner c.args.b.sort c.args.b.returns _ (sort_value c.args.b.sort c.args.b.owner c.args.b.returns (get_or c.args.initialisers.now c.args.b.owner 0) c.if-b-eq-INITIALISER.true c.if-b-ne-VOID.true)

pub returns-then-o-gt-MOST_CLASSES : goal.returns-then-o-gt-MOST_CLASSES
returns-then-o-gt-MOST_CLASSES c = λ L R. sort_rule L R c.args.b.owner c.args.b.sort c.args.b.returns _ (sym (eq-eqb _ 0 (past R c.args.b.owner c.if-o-gt-MOST_CLASSES.true)) ∙ sort_single c.args.b.sort c.args.b.owner c.args.b.returns (get_or c.args.initialisers.now c.args.b.owner 0) c.if-b-eq-INITIALISER.true c.if-o-eq1.false c.if-b-ne-VOID.false)

pub returns-then-b-eq-INITIALISER : goal.returns-then-b-eq-INITIALISER
returns-then-b-eq-INITIALISER c = λ L R. sort_rule L R c.args.b.owner c.args.b.sort c.args.b.returns _ (sort_single c.args.b.sort c.args.b.owner c.args.b.returns (get_or c.args.initialisers.now c.args.b.owner 0) c.if-b-eq-INITIALISER.true c.if-o-eq1.false c.if-b-ne-VOID.false)

pub returns-then-b-eq-CONSTRUCTOR : goal.returns-then-b-eq-CONSTRUCTOR
returns-then-b-eq-CONSTRUCTOR c = λ L R. sort_rule L R c.args.b.owner c.args.b.sort c.args.b.returns _ (sort_constructor c.args.b.sort c.args.b.owner c.args.b.returns (get_or c.args.initialisers.now c.args.b.owner 0) c.if-b-eq-INITIALISER.false c.if-b-eq-CONSTRUCTOR.true)

pub returns : goal.returns
returns c = λ L R. sort_rule L R c.args.b.owner c.args.b.sort c.args.b.returns _ (sort_other c.args.b.sort c.args.b.owner c.args.b.returns (get_or c.args.initialisers.now c.args.b.owner 0) c.if-b-eq-INITIALISER.false c.if-b-eq-CONSTRUCTOR.false)
