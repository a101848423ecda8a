-- `loitsupar_tell` meets its contract: the cells of the fault and of the shape found, or nothing.
use mathlib.Core.Path.{◌≡◌, refl, ap, ◌∙◌}
use Rattle.std.specs.Prelude.{Option, None, Result, Ok, Err}
use Rattle.std.specs.Result.{result_unwrap_or}
use Rattle.loaded.specs.declared.Fault.{Fault}
use Rattle.checker.specs.declared.tell.Found.{Found}
use Rattle.loitsupar.specs.Public.{numbered}
use Rattle.host.specs.Hosting.{over, fault_cells, found_in, shape_cells}
use Rattle.host.proofs.Written.{first_few, second_few, both_enough, refused, unwritten, done, as_written}
use Rattle.host.proofs.loitsupar_tell.Goals as goal

found_is : (r : Result (Option Found) Fault) → result_unwrap_or r None ≡ found_in r
unfolding found_in
found_is (Ok s) = refl
found_is (Err f) = refl

pub returns-then-fault-lt-FAULT : goal.returns-then-fault-lt-FAULT
returns-then-fault-lt-FAULT c = let g = c.args in
    let h = first_few _ g.fault.now _ g.shape.now c.if-fault-lt-FAULT.true in
    record { value = refused h; fault_after = unwritten h _ _; shape_after = unwritten h _ _ }

pub returns-then-shape-lt-SHAPE : goal.returns-then-shape-lt-SHAPE
returns-then-shape-lt-SHAPE c = let g = c.args in
    let h = second_few _ g.fault.now _ g.shape.now c.if-fault-lt-FAULT.false c.if-shape-lt-SHAPE.true in
    record { value = refused h; fault_after = unwritten h _ _; shape_after = unwritten h _ _ }

pub returns : goal.returns
returns c =
    let g = c.args in
    let h = both_enough _ g.fault.now _ g.shape.now c.if-fault-lt-FAULT.false c.if-shape-lt-SHAPE.false in
    let f = c.lay_fault.ensures ∙ ap (λ (f : Fault). over (fault_cells f) g.fault.now) (c.numbered.ensures ∙ ap numbered c.tell-told.ensures) in
    let s = c.lay_shape.ensures ∙ ap (λ (t : Option Found). over (shape_cells t) g.shape.now) (c.unwrap_or.ensures ∙ (found_is c.tell-told.result ∙ ap found_in c.tell-told.ensures)) in
    record { value = done h; fault_after = as_written h _ _ _ f; shape_after = as_written h _ _ _ s }
