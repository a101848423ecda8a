use Rattle.std.proofs.Common.{⊎_elim}
use Rattle.model.specs.Answer.{need, ◌>>=◌, pick}
use Rattle.model.specs.Operators.{kind, kind_number, conversion, neg_of, not_of, conv4_of, conv8_of, conv_fOf, unary_of}
use Rattle.state.specs.View.{kind_by, kind_of_type, shown}
use Rattle.operators.specs.Gives.{unary_gives}
use Rattle.operators.proofs.operators.of_real.Goals as goal

pub returns-in-Neg : goal.returns-in-Neg
unfolding unary_gives unary_of neg_of not_of conv4_of conv8_of conv_fOf conversion need ◌>>=◌ kind_by kind_of_type kind_number kind shown pick
returns-in-Neg c = rw (c.in-Neg.is, c.fneg-bits.ensures)

pub returns-in-Not : goal.returns-in-Not
unfolding unary_gives unary_of neg_of not_of conv4_of conv8_of conv_fOf conversion need ◌>>=◌ kind_by kind_of_type kind_number kind shown pick
returns-in-Not c = ⊎_elim (λ e. rw e) (⊎_elim (λ e. rw e) (λ e. rw e)) c.in-Not.is

pub returns-in-ConvR8 : goal.returns-in-ConvR8
unfolding unary_gives unary_of neg_of not_of conv4_of conv8_of conv_fOf conversion need ◌>>=◌ kind_by kind_of_type kind_number kind shown pick
returns-in-ConvR8 c = rw c.in-ConvR8.is
