-- `loitsupar_run` meets its contract: the cells of the run's answer and state, or nothing.
use mathlib.Core.Path.{ap, ◌∙◌}
use Rattle.runner.specs.declared.Ended.{Ended}
use Rattle.host.specs.Hosting.{over, answer_cells, state_cells}
use Rattle.host.proofs.Written.{first_few, second_few, both_enough, refused, unwritten, done, as_written, ended}
use Rattle.host.proofs.loitsupar_run.Goals as goal

pub returns-then-answer-lt-ANSWER : goal.returns-then-answer-lt-ANSWER
returns-then-answer-lt-ANSWER c = let g = c.args in
    let h = first_few _ g.answer.now _ g.state.now c.if-answer-lt-ANSWER.true in
    record { value = refused h; answer_after = unwritten h _ _; state_after = unwritten h _ _ }

pub returns-then-state-lt-STATE : goal.returns-then-state-lt-STATE
returns-then-state-lt-STATE c = let g = c.args in
    let h = second_few _ g.answer.now _ g.state.now c.if-answer-lt-ANSWER.false c.if-state-lt-STATE.true in
    record { value = refused h; answer_after = unwritten h _ _; state_after = unwritten h _ _ }

pub returns : goal.returns
unfolding answer_cells
returns c =
    let g = c.args in
    let h = both_enough _ g.answer.now _ g.state.now c.if-answer-lt-ANSWER.false c.if-state-lt-STATE.false in
    let q = ended _ _ c.run-summary.ensures in
    let a = c.lay_answer.ensures ∙ ap (λ (e : Ended). over (answer_cells e) g.answer.now) q in
    let s = c.lay_state.ensures ∙ ap (λ (e : Ended). over (state_cells e.state) g.state.now) q in
    record { value = done h; answer_after = as_written h _ _ _ a; state_after = as_written h _ _ _ s }
