use Rattle.shapes.proofs.Operators.{gives_neg, gives_not, gives_i4, gives_i8, gives_real, gives_unreal}
use Rattle.shapes.proofs.kind.Unary.gives.Goals as goal

pub returns-in-Neg : goal.returns-in-Neg
returns-in-Neg c = λ A e. rw (c.in-Neg.is, c.then_some.ensures, c.ne.ensures) (gives_neg A _ _ e (c.of-kind.ensures A e))

pub returns-in-Not : goal.returns-in-Not
returns-in-Not c = λ A e. rw (c.in-Not.is, c.then_some-in-Not.ensures, c.is_integer.ensures) (gives_not A _ _ e (c.of-kind.ensures A e))

pub returns-in-ConvI4 : goal.returns-in-ConvI4
returns-in-ConvI4 c = λ A e. rw (c.in-ConvI4.is, c.then_some-in-ConvI4.ensures, c.is_integer-in-ConvI4.ensures) (gives_i4 A _ _ e (c.of-kind.ensures A e))

pub returns-in-ConvI8 : goal.returns-in-ConvI8
returns-in-ConvI8 c = λ A e. rw (c.in-ConvI8.is, c.then_some-in-ConvI8.ensures, c.is_integer-in-ConvI8.ensures) (gives_i8 A _ _ e (c.of-kind.ensures A e))

pub returns-in-Int32 : goal.returns-in-Int32
returns-in-Int32 c = λ A e. rw c.in-ConvR8.is (gives_real A _ (c.of-kind.ensures A e) c.in-Int32.is)

pub returns-in_default : goal.returns-in_default
returns-in_default c = λ A e. rw c.in-ConvR8.is (gives_unreal A _ (c.of-kind.ensures A e) c.in_default.not-Int32 c.in_default.not-F)
