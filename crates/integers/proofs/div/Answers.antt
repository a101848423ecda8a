use Rattle.std.proofs.Common.{ap, ◌∙◌, to_z, of_z, w64}
use Rattle.std.proofs.lemmas.Result.{err_from_is_err_and}
use lib.IntN.{ℤ}
use lib.Signed.{quot_z}
use Rattle.model.specs.Operators.{integer}
use Rattle.integers.specs.Cells.{low}
use Rattle.integers.proofs.Reading.{write}
use Rattle.integers.proofs.Checked.{refused, allowed, quotient_fits, done}
use Rattle.integers.proofs.div.Goals as goal

pub returns-in_err-q : goal.returns-in_err-q
unfolding integer
returns-in_err-q g c =
    let p = err_from_is_err_and c.from_residual.result c.from_residual.ensures.1 in
    rw (p.1, p.2) (refused g.I.Integer.width _ _ quot_z c.in_err-q.ensures)

pub returns : goal.returns
unfolding integer
returns g c =
    let w = g.I.Integer.width in
    let e = c.in_ok-q.ensures in
    let q = (allowed w (low w c.args.a) (low w c.args.b) e).1.1 in
    done w _ _ quot_z e
    (c.low.ensures ∙ ap (low w) c.cast_unsigned.ensures ∙ ap (λ (z : ℤ). low w (of_z w64 (to_z w64 (of_z w64 z)))) q
    ∙ write g.met.I.Integer.of_cell (quotient_fits g.met.I.Integer.of_cell c.args.a c.args.b e))
