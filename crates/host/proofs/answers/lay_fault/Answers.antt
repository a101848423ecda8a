-- `lay_fault` meets its contract, cell by cell.
use borrow.Author.Rules.{rules}
use lib.ListN.{length-set}
use Rattle.host.specs.Hosting.{fault_cells}
use Rattle.host.proofs.Laying.{three_laid}
use Rattle.host.proofs.answers.lay_fault.Goals as goal

pub bounds-out-1 : goal.bounds-out-1
bounds-out-1 c = simp length-set (search rules)

pub returns : goal.returns
unfolding fault_cells
returns c =
    let g = c.args in
    rw c.from.ensures (three_laid g.out.now g.f.number g.f.method g.f.offset c.requires)
