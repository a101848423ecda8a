-- `loader::overriding::override_fits` meets its contract.
use native.Mathlib.Omega.{arith}
use mathlib.Core.Path.{sym, ap, ◌∙◌, subst}
use mathlib.Core.Bool.{Bool, not}
use Rattle.loader.specs.Rules.{OverrideRule}
use Rattle.loader.proofs.Rules.{override_none, override_off, override_on, off_sort, off_row, off_virtual, off_own, on_or_off}
use Rattle.loader.proofs.Climb.{never, not_not, parents_of}
use Rattle.loader.proofs.overriding.override_fits.Goals as goal

pub returns-then-v-eq0 : goal.returns-then-v-eq0
returns-then-v-eq0 c = record { earlier = λ h. let z = c.if-v-eq0.true in omega arith; override_rule = λ L en C G. override_none L G c.args.b.owner c.args.b.sort c.args.b.overridden c.args.n en c.if-v-eq0.true }

pub returns-then-b-ne-VIRTUAL : goal.returns-then-b-ne-VIRTUAL
returns-then-b-ne-VIRTUAL c = record { earlier = λ h. never h; override_rule = λ L en C G. override_off L G c.args.b.owner c.args.b.sort c.args.b.overridden c.args.n en (off_sort c.args.b.overridden c.args.b.sort c.args.b.owner c.args.n _ _ _ c.if-v-eq0.false c.if-b-ne-VIRTUAL.true) }

pub returns-then-n-v : goal.returns-then-n-v
returns-then-n-v c = record { earlier = λ h. never h; override_rule = λ L en C G. override_off L G c.args.b.owner c.args.b.sort c.args.b.overridden c.args.n en (off_row c.args.b.overridden c.args.b.sort c.args.b.owner c.args.n _ _ _ c.if-v-eq0.false c.if-b-ne-VIRTUAL.false c.if-n-v.true) }

pub returns-then-methods-base-ne-VIRTUAL : goal.returns-then-methods-base-ne-VIRTUAL
returns-then-methods-base-ne-VIRTUAL c = record { earlier = λ h. never h; override_rule = λ L en C G. override_off L G c.args.b.owner c.args.b.sort c.args.b.overridden c.args.n en (off_virtual c.args.b.overridden c.args.b.sort c.args.b.owner c.args.n _ _ _ c.if-v-eq0.false c.if-b-ne-VIRTUAL.false c.if-n-v.false c.if-methods-base-ne-VIRTUAL.true) }

pub returns-then-above-b : goal.returns-then-above-b
returns-then-above-b c = record { earlier = λ h. never h; override_rule = λ L en C G. override_off L G c.args.b.owner c.args.b.sort c.args.b.overridden c.args.n en (off_own c.args.b.overridden c.args.b.sort c.args.b.owner c.args.n _ _ _ c.if-v-eq0.false c.if-b-ne-VIRTUAL.false c.if-n-v.false c.if-methods-base-ne-VIRTUAL.false c.if-above-b.true) }

pub returns-then-descends : goal.returns-then-descends
returns-then-descends c = record {
  earlier = λ h. c.if-n-v.false;
  override_rule = λ L en C G. override_on L G c.args.b.owner c.args.b.sort c.args.b.overridden c.args.n en _ c.if-v-eq0.false c.if-n-v.false
      (on_or_off c.args.b.overridden c.args.b.sort c.args.b.owner c.args.n _ _ _ c.if-v-eq0.false c.if-b-ne-VIRTUAL.false c.if-n-v.false c.if-methods-base-ne-VIRTUAL.false c.if-above-b.false ∙ sym (c.descends.ensures L.parents (parents_of C)) ∙ c.if-descends.true)
      (ap not (c.taken.ensures L.methods en G) ∙ not_not _);
}

pub returns-else-descends : goal.returns-else-descends
returns-else-descends c = record {
  earlier = λ h. never (sym c.if-descends.false ∙ h);
  override_rule = λ L en C G. subst (λ (b : Bool). OverrideRule L c.args.b.owner c.args.b.sort c.args.b.overridden b) (sym c.if-descends.false) (override_off L G c.args.b.owner c.args.b.sort c.args.b.overridden c.args.n en
      (on_or_off c.args.b.overridden c.args.b.sort c.args.b.owner c.args.n _ _ _ c.if-v-eq0.false c.if-b-ne-VIRTUAL.false c.if-n-v.false c.if-methods-base-ne-VIRTUAL.false c.if-above-b.false ∙ sym (c.descends.ensures L.parents (parents_of C)) ∙ c.if-descends.false));
}
