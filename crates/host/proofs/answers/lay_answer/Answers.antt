-- `lay_answer` meets its contract, cell by cell.
use native.Mathlib.Omega.{arith}
use lib.ListN.{length-set}
use Rattle.host.specs.Hosting.{fault_cells, told_cells}
use Rattle.host.proofs.Laying.{six_laid}
use Rattle.host.proofs.answers.lay_answer.Goals as goal

pub bounds-out-4 : goal.bounds-out-4
bounds-out-4 c =
    let laid = c in
    omega (arith, length-set laid.lay_fault.new.out 3 laid.args.summary.steps)

pub returns : goal.returns
unfolding told_cells fault_cells
returns c = rw (c.lay_fault.ensures, c.sort_and_bits-sort.ensures) (six_laid c.args.out.now _ _ _ _ _ _ c.requires)
