use Rattle.std.proofs.Common.{◌+ℤ◌, ◌∙◌}
use Rattle.model.specs.Operators.{whole_of, checked}
use Rattle.integers.specs.Parts.{fitting}
use Rattle.integers.proofs.Reading.{read}
use Rattle.integers.proofs.add_ovf.Goals as goal

pub returns : goal.returns
unfolding whole_of checked fitting
returns g c =
    let t = g.met.I.Integer.of_cell in
    let x = read t c.args.a c.value.ensures in
    let y = read t c.args.b c.value-2.ensures in
    c.fitting.ensures _ c.checked_add.ensures ∙ (λ i. fitting g.I.Integer.width (x i +ℤ y i))
