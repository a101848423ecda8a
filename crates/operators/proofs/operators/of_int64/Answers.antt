use Rattle.model.specs.Answer.{need, ◌>>=◌, pick}
use Rattle.model.specs.Operators.{kind, kind_number, conversion, neg_of, not_of, conv4_of, conv8_of, conv_fOf, unary_of}
use Rattle.state.specs.View.{kind_by, kind_of_type, shown}
use Rattle.operators.specs.Gives.{unary_gives}
use Rattle.operators.proofs.ByKind.{low_all}
use Rattle.operators.proofs.operators.of_int64.Goals as goal

pub returns-in-Neg : goal.returns-in-Neg
unfolding unary_gives unary_of neg_of not_of conv4_of conv8_of conv_fOf conversion need ◌>>=◌ kind_by kind_of_type kind_number kind shown pick
returns-in-Neg c = rw (c.in-Neg.is, c.neg.ensures, low_all c.ranges.a.fits)

pub returns-in-Not : goal.returns-in-Not
unfolding unary_gives unary_of neg_of not_of conv4_of conv8_of conv_fOf conversion need ◌>>=◌ kind_by kind_of_type kind_number kind shown pick
returns-in-Not c = rw (c.in-Not.is, c.complement.ensures, low_all c.ranges.a.fits)

pub returns-in-ConvI4 : goal.returns-in-ConvI4
unfolding unary_gives unary_of neg_of not_of conv4_of conv8_of conv_fOf conversion need ◌>>=◌ kind_by kind_of_type kind_number kind shown pick
returns-in-ConvI4 c = rw (c.in-ConvI4.is, c.conv_i4.ensures)

pub returns-in-ConvI8 : goal.returns-in-ConvI8
unfolding unary_gives unary_of neg_of not_of conv4_of conv8_of conv_fOf conversion need ◌>>=◌ kind_by kind_of_type kind_number kind shown pick
returns-in-ConvI8 c = rw c.in-ConvI8.is

pub returns-in-ConvR8 : goal.returns-in-ConvR8
unfolding unary_gives unary_of neg_of not_of conv4_of conv8_of conv_fOf conversion need ◌>>=◌ kind_by kind_of_type kind_number kind shown pick
returns-in-ConvR8 c = rw c.in-ConvR8.is
