use Rattle.across_frames.specs.Lent.{taken_by}
use Rattle.across_frames.proofs.calls.taken_row.Goals as goal

pub returns-in-Call-clause-as_model : goal.returns-in-Call-clause-as_model
unfolding taken_by
returns-in-Call-clause-as_model c = λ t. rw c.in-Call.is

pub returns-in-Callvirt-clause-as_model : goal.returns-in-Callvirt-clause-as_model
returns-in-Callvirt-clause-as_model c = λ t. rw c.in-Callvirt.is (c.chosen_row.ensures.as_model t)
