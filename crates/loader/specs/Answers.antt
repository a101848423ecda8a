-- What loading answers: 01's number and place, or what is loaded.
use Rattle.std.specs.Prelude.{◌≤◌, ◌≡◌, Result, Ok, Err}
use Rattle.model.specs.Answer.{Answer, bad, ok}
use Rattle.model.specs.Loading.{Refusal}
use Rattle.loaded.specs.declared.Fault.{Fault}
use Rattle.loader.specs.Refusals.{fault_of}

-- a refusal with its number, which is not 0, and its place, and what is said of one; or what is said of the value and what is loaded
unfoldable pub Answers : {A M : Type 0} → Answer Refusal M → Result A Fault → Type 0 → (A → M → Type 0) → Type 0
Answers (bad f) (Err a) refused loaded = (a ≡ fault_of f) × (1 ≤ f.number) × refused
Answers (bad f) (Ok v) refused loaded = ⊥
Answers (ok M) (Err a) refused loaded = ⊥
Answers (ok M) (Ok v) refused loaded = loaded v M
