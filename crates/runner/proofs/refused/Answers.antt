use Prim.Native.Nat.{◌+◌}
use mathlib.Core.Path.{◌≡◌, refl, ap, ◌∙◌}
use denote.Enum.Declared.{tag_of}
use Rattle.model.specs.Loading.{Refusal}
use Rattle.runner.specs.contracts.Reason.{the_type}
use Rattle.runner.specs.declared.Reason.{Reason}
use Rattle.runner.specs.declared.Reason.TheVariants.{Arguments, Budget}
use Rattle.runner.specs.Answers.{refused_by, number_of}
use Rattle.runner.proofs.refused.Goals as goal

number_is : (reason : Reason) → tag_of the_type reason + 21 ≡ number_of reason
unfolding number_of
number_is Arguments = refl
number_is Budget = refl

pub returns : goal.returns
returns c = rw c.clear.ensures (c.refused.ensures ∙ rw (number_is c.args.reason))
