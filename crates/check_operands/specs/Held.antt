-- What the arrays of the tables hold of a module, as far as the check reads them.
use Rattle.std.specs.Prelude.{ℕ, ◌+◌, ◌*◌, ◌≤◌, ◌<◌, ◌≡◌, List, length, ltb, leb, ◌&&◌, Option as Found, None, Some}
use Rattle.std.proofs.Math.Option.{Option, none, some}
use Rattle.model.specs.Answer.{only_if, row}
use Rattle.model.specs.Tables.{Ty, byte_of, sort_byte, Field, Method, Module, arguments}
use Rattle.model.specs.Code.{and_then}
use Rattle.model.specs.Operators.{flag}
use Rattle.ancestor.specs.Parents.{Parents}
use Rattle.loaded.specs.declared.Counts.{Counts}
use Rattle.loaded.specs.Holds.{method_cell, field_cell}
use Rattle.shapes.specs.Effects.{Due, Types}

-- a type's byte, if there is one
unfoldable pub Typed : Found ℕ → Option Ty → Type 0
Typed r none = r ≡ None
Typed r (some t) = r ≡ Some (byte_of t)

-- the row that a token names among n, which count from 1
unfoldable pub row_among : ℕ → Option ℕ → Option ℕ
row_among n o = and_then o (λ r. only_if (ltb 0 r && leb r n) (some r))

pub record HeldClasses (M : Module) (n : ℕ) (parents : List ℕ) : Type 0 where
  pub count : n ≡ length M.parents
  pub few : n ≤ 32
  pub parent : Parents M.parents parents

pub record HeldFields (M : Module) (n : ℕ) (fields : List ℕ) : Type 0 where
  pub count : n ≡ length M.fields
  pub few : n ≤ 128
  pub owner : (r : ℕ) (d : Field) → row M.fields r ≡ some d → field_cell fields r 0 ≡ d.owner
  pub low : (r : ℕ) (d : Field) → row M.fields r ≡ some d → d.owner < 224
  pub static : (r : ℕ) (d : Field) → row M.fields r ≡ some d → field_cell fields r 1 ≡ flag d.is_static
  pub type : (r : ℕ) (d : Field) → row M.fields r ≡ some d → field_cell fields r 2 ≡ byte_of d.type

pub record HeldMethods (M : Module) (n : ℕ) (methods : List ℕ) : Type 0 where
  pub count : n ≡ length M.methods
  pub few : n ≤ 128
  pub owner : (r : ℕ) (k : Method) → row M.methods r ≡ some k → method_cell methods r 25 ≡ k.owner
  pub low : (r : ℕ) (k : Method) → row M.methods r ≡ some k → k.owner < 224
  pub sort : (r : ℕ) (k : Method) → row M.methods r ≡ some k → method_cell methods r 24 ≡ sort_byte k.sort
  pub due : (r : ℕ) (k : Method) → row M.methods r ≡ some k → Due k (method_cell methods r 26)
  pub arity : (r : ℕ) (k : Method) → row M.methods r ≡ some k → method_cell methods r 28 ≡ length (arguments k)
  pub small : (r : ℕ) (k : Method) → row M.methods r ≡ some k → length (arguments k) ≤ 8
  pub arguments_at : (r : ℕ) (k : Method) → row M.methods r ≡ some k → Types methods (r * 32) (arguments k)

-- the method that is checked
pub record Own (m : Method) (r max due : ℕ) (methods : List ℕ) : Type 0 where
  pub most : m.max_stack ≡ max
  pub gives : Due m due
  pub arity : method_cell methods r 28 ≡ length (arguments m)
  pub small : length (arguments m) ≤ 8
  pub arguments_at : Types methods (r * 32 + 0) (arguments m)
  pub local_count_lem : method_cell methods r 29 ≡ length m.locals
  pub local_small : length m.locals ≤ 16
  pub locals_at : Types methods (r * 32 + 8) m.locals

-- all of them
pub record Held (M : Module) (m : Method) (counts : Counts) (r max : ℕ) (parents fields methods : List ℕ) : Type 0 where
  pub by_class : HeldClasses M counts.classes parents
  pub by_field : HeldFields M counts.fields fields
  pub by_method : HeldMethods M counts.methods methods
  pub own : Own m r max (method_cell methods r 26) methods
