-- `answer` meets its contract.
use Rattle.std.proofs.Common.{◌≡◌, List, ℕ}
use Rattle.line.specs.Append.{appended}
use Rattle.line.specs.declared.text.Text.{Text}
use Rattle.line.proofs.Appending.{same_buffer}
use Rattle.loitsupar.proofs.Answered.{stands, ready}
use Rattle.case_line.proofs.Lines.{refused_load, loaded}
use Rattle.case_line.proofs.answer.answer.Goals as goal

both : (a b : Text) (t : List ℕ) → b ≡ appended a t → record { same_buffer : b.out.ghost_name ≡ a.out.ghost_name; text : b ≡ appended a t }
both a b t e = record { same_buffer = same_buffer a b t e; text = e }

pub loaded_rest-requires : goal.loaded_rest-requires
loaded_rest-requires c = ready (stands _ (rw c.in-Ok.is at c.load_into-answer.ensures)) (λ i. (c.type_inv.code i).fits)

pub returns-in-Ok : goal.returns-in-Ok
returns-in-Ok c =
    both _ _ _
    (loaded _ _ _ _ c.load_into-answer.result _ _ _ _ (rw c.numbered.ensures at c.load_part.ensures) c.in-Ok.is (rw c.in-Ok.is at c.load_into-answer.ensures)
    (λ i. (c.type_inv.code i).fits) c.loaded_rest.ensures)

pub returns-in-Err : goal.returns-in-Err
returns-in-Err c =
    both _ _ _
    (refused_load _ _ _ _ c.load_into-answer.result _ _ _ _ (rw c.numbered.ensures at c.load_part.ensures) _ c.in-Err.is
    (rw c.in-Err.is at c.load_into-answer.ensures) c.refused_rest.ensures)
