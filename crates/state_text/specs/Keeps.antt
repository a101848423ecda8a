-- A state of the model that keeps to its module and to the machine's sizes: the layout tells it whole.
use Rattle.std.specs.Prelude.{ℕ, ◌≤◌, ◌<◌, ◌≡◌, List, length, get_or}
use Rattle.std.proofs.Math.Option.{none, some}
use Rattle.model.specs.Answer.{at}
use Rattle.model.specs.Tables.{Ty, Module, method_at, arguments}
use Rattle.model.specs.State.{Value, Frame, Object}
use Rattle.model.specs.State as Model
use Rattle.state.specs.View.{kind_of_type, value_by, types_of, static_types}
use Rattle.state.specs.Layout.{bottom, cell_in, kind_in}

-- values of declared types
pub record Typed (ts : List Ty) (vs : List Value) : Type 0 where
  pub long : length vs ≡ length ts
  pub told : (i : ℕ) (t : Ty) (v : Value) → at ts i ≡ some t → at vs i ≡ some v → value_by (kind_of_type t) (cell_in v) ≡ v

pub record FrameKeeps (M : Module) (f : Frame) : Type 0 where
  pub args_typed : Typed (arguments (method_at M.methods f.method)) f.args
  pub locals_typed : Typed (method_at M.methods f.method).locals f.locals
  pub stack_told : (j : ℕ) (v : Value) → bottom f.stack j ≡ some v → value_by (kind_in v) (cell_in v) ≡ v
  pub stack_few : length f.stack ≤ 32

pub record ObjectKeeps (M : Module) (o : Object) : Type 0 where
  pub class_there : 0 < o.class
  pub class_few : o.class ≤ 32
  pub cells_typed : Typed (types_of M o.class) o.cells

pub record Keeps (M : Module) (s : Model.State) : Type 0 where
  pub frames_few : length s.frames ≤ 32
  pub frame : (j : ℕ) (f : Frame) → bottom s.frames j ≡ some f → FrameKeeps M f
  pub statics_typed : Typed (static_types M) s.statics
  pub marks_long : length s.marks ≡ length M.parents
  pub heap_long : length s.heap ≡ 256
  pub object : (r : ℕ) (o : Object) → get_or s.heap r none ≡ some o → ObjectKeeps M o
