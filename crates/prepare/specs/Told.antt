-- What the arrays of a loaded module tell of its fields and methods, and what the tables have of them before anything is inherited.
use Rattle.std.specs.Prelude.{ℕ, suc, ◌+◌, ◌-◌, ◌*◌, ◌≤◌, ◌<◌, ◌≡◌, ◌&&◌, List, length, get_or, take, drop, ltb, eqb}
use Rattle.std.proofs.Math.Option.{Option, some}
use Rattle.model.specs.Answer.{pick, or_else, at, row, those, first_row}
use Rattle.model.specs.Tables.{Ty, byte_of, Field, Method, parent_of, is_own, layout, field_types, is_static_field, slot, root}
use Rattle.model.specs.Operators.{flag}
use Rattle.loaded.specs.Holds.{byte_at, field_cell, method_cell}

-- ---- Fields

-- the row of a field
pub record FieldTold (ps : List ℕ) (fs : List Field) (fields : List ℕ) (r : ℕ) (d : Field) : Type 0 where
  pub owner : field_cell fields r 0 ≡ d.owner
  pub owned : (0 < d.owner) × (d.owner < 33)
  pub flagged : field_cell fields r 1 ≡ flag d.is_static
  pub type : field_cell fields r 2 ≡ byte_of d.type
  pub slot_at : field_cell fields r 3 ≡ slot ps fs r d

-- the number of instance fields that a class inherits
unfoldable pub inherits : List ℕ → List Field → ℕ → ℕ
inherits ps fs c = length (layout ps fs (parent_of ps c))

pub record FieldsTold (ps : List ℕ) (fs : List Field) (fields : List ℕ) : Type 0 where
  pub few : length fs < 129
  pub told : (r : ℕ) (d : Field) → row fs r ≡ some d → FieldTold ps fs fields r d
  pub cells_few : (c : ℕ) → 0 < c → inherits ps fs c + length (those (is_own c) fs) ≤ 8
  pub statics_few : length (those is_static_field fs) ≤ 64

-- the byte of cell i where the types ts lie from cell `base` on
unfoldable pub laid : ℕ → List Ty → ℕ → ℕ
laid base ts i = pick (ltb i base) 0 (byte_at (at ts (i - base)))

-- the first n fields lie in their cells
pub record LaidTo (ps : List ℕ) (fs : List Field) (n : ℕ) (cells statics : List ℕ) : Type 0 where
  pub cell : (c i : ℕ) → c < 33 → i < 8 → get_or cells (c * 8 + i) 0 ≡ laid (inherits ps fs c) (field_types (those (is_own c) (take n fs))) i
  pub static : (i : ℕ) → i < 64 → get_or statics i 0 ≡ laid 0 (field_types (those is_static_field (take n fs))) i

-- ---- Methods

pub record MethodsTold (ms : List Method) (methods : List ℕ) : Type 0 where
  pub few : length ms < 129
  pub owner : (r : ℕ) (m : Method) → row ms r ≡ some m → method_cell methods r 25 ≡ m.owner
  pub owned : (r : ℕ) (m : Method) → row ms r ≡ some m → m.owner < 33
  pub root_at_lem : (r : ℕ) (m : Method) → row ms r ≡ some m → method_cell methods r 30 ≡ root ms r
  pub root_few : (r : ℕ) (m : Method) → row ms r ≡ some m → root ms r < 129

-- a class's method of a root, not among the first r
unfoldable pub of_root_from : List Method → ℕ → ℕ → ℕ → Option ℕ
of_root_from ms r c q = first_row (λ k m. eqb m.owner c && eqb (root ms k) q) (suc r) (drop r ms)

-- the methods after the first r stand at their classes and roots; of two the lower row
pub record OwnFrom (ms : List Method) (r : ℕ) (chosen : List ℕ) : Type 0 where
  pub own : (c q : ℕ) → c < 33 → q < 129 → get_or chosen (c * 129 + q) 0 ≡ or_else (of_root_from ms r c q) 0
  pub there : (i : ℕ) → get_or chosen i 0 ≤ length ms
