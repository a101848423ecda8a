use Rattle.std.proofs.Common.{ap, ◌∙◌, to_z, of_z, w64}
use Rattle.std.proofs.lemmas.Result.{err_from_is_err_and}
use lib.Signed.{rem_z, mag_rem}
use mir.Facts.{sfits_to_z}
use mir.ValLaws.{Fits-wrap, sfits_le}
use Rattle.model.specs.Operators.{whole_of}
use Rattle.integers.specs.Cells.{low}
use Rattle.integers.proofs.Reading.{read, write}
use Rattle.integers.proofs.Checked.{refused, divisible, done}
use Rattle.integers.proofs.rem.Goals as goal

pub returns-in_err-quotient : goal.returns-in_err-quotient
unfolding whole_of
returns-in_err-quotient g c =
    let p = err_from_is_err_and c.from_residual.result c.from_residual.ensures.1 in
    rw (p.1, p.2) (refused g.I.Integer.width _ _ rem_z c.in_err-quotient.ensures)

pub nonzero_rem-value : goal.nonzero_rem-value
nonzero_rem-value g c = divisible g.met.I.Integer.of_cell c.args.a c.args.b c.in_ok-quotient.ensures c.value.ensures c.value-2.ensures

pub returns : goal.returns
unfolding whole_of
returns g c =
    let w = g.I.Integer.width in
    let t = g.met.I.Integer.of_cell in
    let x = read t c.args.a c.value.ensures in
    let y = read t c.args.b c.value-2.ensures in
    done w _ _ rem_z c.in_ok-quotient.ensures
    (c.low.ensures ∙ ap (low w) c.cast_unsigned.ensures ∙ (λ i. low w (of_z w64 (to_z w64 (of_z w64 (rem_z (x i) (y i))))))
    ∙ write t {z = rem_z (to_z w (low w c.args.a)) (to_z w (low w c.args.b))} (sfits_le (mag_rem (to_z w (low w c.args.a)) (to_z w (low w c.args.b))) (sfits_to_z (Fits-wrap w c.args.a))))
