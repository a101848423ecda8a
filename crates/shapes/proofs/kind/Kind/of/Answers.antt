use Rattle.std.proofs.Common.{arith}
use Rattle.shapes.proofs.Bytes.{kind_1, kind_2, kind_3, kind_other}
use Rattle.shapes.proofs.kind.Kind.of.Goals as goal

pub returns-in-1 : goal.returns-in-1
returns-in-1 c = λ A e. kind_1 A _ e c.in-1.is

pub returns-in-2 : goal.returns-in-2
returns-in-2 c = λ A e. kind_2 A _ e c.in-2.is

pub returns-in-3 : goal.returns-in-3
returns-in-3 c = λ A e. kind_3 A _ e c.in-3.is

pub returns-in_default : goal.returns-in_default
returns-in_default c = λ A e. kind_other A _ e (λ z. omega arith) (λ z. omega arith) (λ z. omega arith)
