-- `loitsupar_check` meets its contract: the cells of the check's fault, or nothing.
use mathlib.Core.Path.{ap, ◌∙◌}
use Rattle.loaded.specs.declared.Fault.{Fault}
use Rattle.loitsupar.specs.Public.{numbered}
use Rattle.host.specs.Hosting.{over, fault_cells}
use Rattle.host.proofs.Written.{enough, too_few, refused, unwritten, done, as_written}
use Rattle.host.proofs.loitsupar_check.Goals as goal

pub returns-then-fault-lt-FAULT : goal.returns-then-fault-lt-FAULT
returns-then-fault-lt-FAULT c = let h = too_few _ c.args.fault.now c.if-fault-lt-FAULT.true in
    record { value = refused h; fault_after = unwritten h _ _ }

pub returns : goal.returns
returns c =
    let l = c.args.fault.now in
    let h = enough _ l c.if-fault-lt-FAULT.false in
    let f = c.lay_fault.ensures ∙ ap (λ (f : Fault). over (fault_cells f) l) (c.numbered.ensures ∙ ap numbered c.check.ensures) in
    record { value = done h; fault_after = as_written h _ _ _ f }
