-- A record read by the model beside what the code answers.
use Rattle.std.specs.Prelude.{ℕ, ◌≤◌, ◌≡◌, Result, Ok, Err, ⊤}
use Rattle.model.specs.Answer.{Answer, bad, ok}
use Rattle.loader.specs.declared.refusal.Refusal.{Refusal}
use Rattle.loader.specs.Refusals.{number_of}

-- refused with that number, which is one of 2 to 6; or taken, to what P says
unfoldable pub Goes : {A : Type 0} → Answer ℕ A → Result ⊤ Refusal → (A → Type 0) → Type 0
Goes (bad n) (Err e) P = (number_of e ≡ n) × (2 ≤ n) × (n ≤ 6)
Goes (bad n) (Ok v) P = ⊥
Goes (ok a) (Err e) P = ⊥
Goes (ok a) (Ok v) P = P a
