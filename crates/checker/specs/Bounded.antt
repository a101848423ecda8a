-- The counts and rows of document 01 that every loaded module keeps to.
use Rattle.std.specs.Prelude.{ℕ, ◌≤◌, ◌≡◌, length}
use Rattle.std.proofs.Math.Option.{some}
use Rattle.model.specs.Answer.{row}
use Rattle.model.specs.Tables.{null, Field, Method, Module, arguments}
use Rattle.ancestor.specs.Parents.{Falls}

pub record Bounded (M : Module) : Type 0 where
  pub classes : length M.parents ≤ 32
  pub falls : Falls M.parents
  pub fields : length M.fields ≤ 128
  pub methods : length M.methods ≤ 128
  pub field_owner : (r : ℕ) (d : Field) → row M.fields r ≡ some d → d.owner ≤ 32
  pub method_owner : (r : ℕ) (k : Method) → row M.methods r ≡ some k → k.owner ≤ 32
  pub argument_count : (r : ℕ) (k : Method) → row M.methods r ≡ some k → length (arguments k) ≤ 8
  pub local_count_lem : (r : ℕ) (k : Method) → row M.methods r ≡ some k → length k.locals ≤ 16
  pub stack : (r : ℕ) (k : Method) → row M.methods r ≡ some k → k.max_stack ≤ 32
  pub size : (r : ℕ) (k : Method) → row M.methods r ≡ some k → length k.code ≤ 1024
  pub returns : (r : ℕ) (k : Method) → row M.methods r ≡ some k → k.returns ≡ some null → ⊥
