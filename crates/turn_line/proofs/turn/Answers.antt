-- `turn` meets its contract: the line of a refusal, or of the parts.
use Rattle.turn_line.proofs.Turned.{apart, refused_line, parts_line}
use Rattle.turn_line.proofs.turn.Goals as goal

pub returns-in-Ok : goal.returns-in-Ok
returns-in-Ok c =
    let text = parts_line _ _ c.announced.ensures.input_value _ c.in-Ok.is c.tables_of.ensures.result_value c.code_of.ensures.result_value in
    let both = apart text c.played.ensures in
    record { out_after = both.0; size = both.1.0; room = both.1.1 }

pub returns-in-Err : goal.returns-in-Err
returns-in-Err c =
    let both = apart (refused_line _ _ c.announced.ensures.input_value _ c.in-Err.is _ c.from.ensures) c.fault_line.ensures in
    record { out_after = both.0; size = both.1.0; room = both.1.1 }
